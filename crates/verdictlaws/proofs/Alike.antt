-- Guards that agree on the variables that a recording accesses: its frames step with both.
use Rattle.std.specs.Prelude.{Ok}
use Prim.Native.Nat.{ℕ, suc, ◌<◌}
use mathlib.Core.Path.{◌≡◌}
use mathlib.Core.List.{List, ◌∷◌}
use native.Mathlib.Omega.{arith}
use Rattle.frame.specs.Limits.{variable_count}
use Rattle.frame.specs.Frame.{ObjectInRange, decode_word}
use Rattle.frame.proofs.Laws.{decoded_in_range}
use Rattle.frame.specs.declared.Variable.{Variable}
use Rattle.frame.specs.declared.Action.{Action}
use Rattle.frame.specs.declared.Frame.{Frame}
use Rattle.guards.specs.declared.Guard.{Guard}
use Rattle.soundness.specs.declared.State.{State}
use Rattle.rules.specs.Figures.{Accesses, reads, writes, Store, AllStep, end, step}
use Rattle.rules.proofs.Figures.{same_steps}
use Rattle.verdictlaws.specs.VerdictLaws.{Accessed}

-- the variables of the first frame, and those of the frames behind it
accessed_first : {w : ℕ} {x : Variable} {ws : List ℕ} (f : Frame) → decode_word w ≡ Ok f → Accesses f.action x → Accessed (w ∷ ws) x.0
accessed_first f d c = record { place = 0; within = omega arith; frame = f; is = d; accesses = c }

accessed_later : {w x : ℕ} {ws : List ℕ} → Accessed ws x → Accessed (w ∷ ws) x
accessed_later a = record { place = suc a.place; within = omega (arith, a.within); frame = a.frame; is = a.is; accesses = a.accesses }

-- an accessed variable is in its range
accesses_in_range : {a : Action} {x : Variable} → ObjectInRange a → Accesses a x → x.0 < variable_count
accesses_in_range h reads = h
accesses_in_range h writes = h

pub accessed_in_range : (ws : List ℕ) (x : ℕ) → Accessed ws x → x < variable_count
accessed_in_range ws x a = accesses_in_range (decoded_in_range _ a.frame a.is).object a.accesses

-- Two ways of giving guards that agree on what a recording accesses: its frames step with both.
module _ (P Q : ℕ → Guard) where
  pub same_accessed : {s : State} {φ : Store} {ws : List ℕ} → ((x : ℕ) → Accessed ws x → P x ≡ Q x) → AllStep P s φ ws → AllStep Q s φ ws
  same_accessed same end = end
  same_accessed same (step {f = f} d e r rest) =
      step d e (same_steps P Q (λ x c. same x.0 (accessed_first f d c)) r) (same_accessed (λ x a. same x (accessed_later a)) rest)
