-- The guard that the lines of an accepted list give to a variable is the one that its code in the table stands for. And where a list is
-- stopped.
use Rattle.std.specs.Prelude.{Result, Ok, Err}
use Prim.Native.Nat.{ℕ, zero, suc, ◌+◌, ◌≤◌, ◌<◌}
use mathlib.Core.Path.{◌≡◌, refl, sym, ap, ◌∙◌}
use mathlib.Core.Bool.{Bool, true, false}
use mathlib.Core.List.{List}
use native.Mathlib.Omega.{arith}
use borrow.Author.Tests.{eqb-true, eqb-false}
use lib.Dec.{eqb}
use lib.ListN.{get_or}
use Rattle.laws.proofs.Lists.{same_default}
use Rattle.guards.specs.Judgement.{Judgement}
use Rattle.guards.specs.Judgement as judgement
use Rattle.frame.specs.Limits.{variable_count, most_frames}
use Rattle.laws.proofs.Logic.{from_here, never}
use Rattle.frame.specs.declared.Refused.{Refused}
use Rattle.text.specs.Text.{word_at}
use Rattle.guards.specs.Guards.{guard_of, guard_variable, guards_read, listed_guard, unprotected_code, guards_under}
use Rattle.guards.specs.declared.GuardsRead.{GuardsRead}
use Rattle.guards.proofs.Laws.{Run, end, over, stop, go_on, whole, table_length, named_guard, unnamed_guard}

module _ (s : List ℕ) (n : ℕ) (e : (guards_read s).reply ≡ Ok n) (x : ℕ) where
  -- by the first k lines, where none from line k on names the variable
  listed_code : (k : ℕ) → k ≤ n → ((j : ℕ) → k ≤ j → j < n → guard_variable (word_at s j) ≡ x → ⊥) → listed_guard s k x ≡ guard_of (get_or (guards_read s).table x unprotected_code)
  unfolding listed_guard
  listed_code zero h f = sym (unnamed_guard s n e x (λ i l. f i (omega arith) l))
  listed_code (suc k) h f = go (listed_code k (omega arith)) (eqb (guard_variable (word_at s k)) x) refl
    where
      go : (((j : ℕ) → k ≤ j → j < n → guard_variable (word_at s j) ≡ x → ⊥) → listed_guard s k x ≡ guard_of (get_or (guards_read s).table x unprotected_code))
          → (b : Bool) → eqb (guard_variable (word_at s k)) x ≡ b → listed_guard s (suc k) x ≡ guard_of (get_or (guards_read s).table x unprotected_code)
      go ih true q = rw q (sym (rw (eqb-true (guard_variable (word_at s k)) x q) at (named_guard s n e k (omega arith))))
      go ih false q =
          rw q (ih (from_here (λ j. guard_variable (word_at s j) ≡ x → ⊥) k n (eqb-false (guard_variable (word_at s k)) x q) (λ j a b. f j (omega arith) b)))

-- the guard by all lines is the one in the table
pub listed_guard_lem : (s : List ℕ) (n : ℕ) → (guards_read s).reply ≡ Ok n → (x : ℕ) → x < variable_count → listed_guard s n x ≡ guard_of (get_or (guards_read s).table x 0)
listed_guard_lem s n e x h =
    listed_code s n e x n (omega arith) (λ j a b. absurd (omega arith))
    ∙ ap guard_of (same_default (guards_read s).table x unprotected_code 0 (omega (arith, table_length s)))

-- the place of a refusal, 0 of none
abbrev place_of : Result ℕ Refused → ℕ
place_of (Ok n) = 0
place_of (Err r) = r.place

run_place : {s : List ℕ} {k i : ℕ} {g : List ℕ} {r : GuardsRead} → Run s k i g r → i + k ≤ most_frames → place_of r.reply ≤ most_frames
run_place (end l) h = omega arith
run_place over h = omega arith
run_place (stop r n) h = omega arith
run_place (go_on w e t m) h = run_place m (omega arith)

-- a list is stopped at a line
pub guards_place : (s : List ℕ) (r : Refused) → (guards_read s).reply ≡ Err r → r.place ≤ most_frames
guards_place s r e = rw e at (run_place (whole s) (omega arith))

-- the same of a judgement's guards
pub under_place : (j : Judgement) (s : List ℕ) (r : Refused) → (guards_under j s).reply ≡ Err r → r.place ≤ most_frames
under_place judgement.Declared s r e = guards_place s r e
under_place judgement.Inferred s r e = never (cc)
