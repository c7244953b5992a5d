-- What the functions of the quick check promise each other.
use Rattle.std.specs.Prelude.{ℕ, ◌+◌, ◌≤◌, ◌≡◌, Bool, true, false, cond, List, eqb, leb, length, drop, Ok}
use Rattle.frame.specs.Frame.{decode_word}
use Rattle.frame.specs.Limits.{lock_count, variable_count, most_held}
use Rattle.soundness.specs.Soundness.{stepped, step_decoded, check_from}
use Rattle.soundness.specs.declared.State.{State}
use Rattle.soundness.specs.declared.Level.{Level}

-- A number where n is k, and another for all others.
abbrev pub picked : ℕ → ℕ → ℕ → ℕ → ℕ
picked n k a b = cond (eqb n k) a b

-- The first object that an operation cannot have.
abbrev pub object_end : ℕ → ℕ
object_end op = cond (leb op 2) lock_count (cond (leb op 4) variable_count 1)

-- The first count of its lock with which an operation does not pass. `own` is the frame's thread as an owner, `have` the lock's owner.
abbrev pub held_end : ℕ → ℕ → ℕ → ℕ
held_end op own have = picked have own (most_held + 1) (picked op 1 1 (picked op 2 0 (most_held + 1)))

-- The lock's owner after an operation that leaves it held n times.
abbrev pub owner_after : ℕ → ℕ → ℕ → ℕ → ℕ
owner_after op own have n = cond (leb op 2) (picked n 0 0 own) have

-- A word whose frame passes leads from state s to n; of any other the state stays.
abbrev pub PassedBy : Bool → ℕ → State → State → Type 0
PassedBy true w s n = (x : Level) × (step_decoded (decode_word w) s ≡ stepped (Ok x) n)
PassedBy false w s n = n ≡ s

-- The first i words have passed, from state s to n.
pub record PassedTo (ws : List ℕ) (i : ℕ) (s n : State) : Type 0 where
  pub within : i ≤ length ws
  pub same : check_from 0 s ws ≡ check_from i n (drop i ws)
