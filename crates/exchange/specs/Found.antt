-- Where the next element of a thread stands, over any elements at n places, and any thread of each.
use Rattle.std.specs.Prelude.{ℕ, ◌≤◌, ◌<◌, ◌≡◌}

-- The first place, `from` or later, of an element of thread t is p. Where there is none, p is n.
pub record Found {A : Type 0} (thread : A → ℕ) (at : ℕ → A) (n t from p : ℕ) : Type 0 where
  pub onward : from ≤ p
  pub within : p ≤ n
  pub passed : (k : ℕ) → from ≤ k → k < p → thread (at k) ≡ t → ⊥
  pub mine : p < n → thread (at p) ≡ t
