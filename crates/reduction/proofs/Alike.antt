-- Which lock guards an access changes no key: guardings under which every action does the same to locks and commits give the same keys and
-- the same serial order. In this order: operations that do the same, runs, keys, the order.
use Prim.Native.Nat.{ℕ, suc}
use mathlib.Core.Path.{◌≡◌, refl}
use mathlib.Core.List.{List, [], ◌∷◌}
use Rattle.frame.specs.declared.Lock.{Lock}
use Rattle.frame.specs.declared.Variable.{Variable}
use Rattle.frame.specs.declared.Action.{Action}
use Rattle.frame.specs.declared.Frame.{Frame}
use Rattle.soundness.specs.declared.Level.{Level}
use Rattle.operation.specs.Operation.{operation_of}
use Rattle.operation.specs.declared.Operation.{Operation}
use Rattle.operation.specs.declared.Operation.TheVariants.{Protected, Inferred}
use Rattle.reduction.proofs.Run.{thread_of, Run, begin, owners, committing, level_in, onto, commit_place, key_of, keyed}
use Rattle.reduction.proofs.Serial.{serial_order}

-- Two operations that do the same to locks and commits.
pub record Alike (k k' : Operation) : Type 0 where
  pub owner : (o : ℕ → ℕ) (t : ℕ) → owners o t k ≡ owners o t k'
  pub commit : committing k ≡ committing k'

pub alike_same : (k : Operation) → Alike k k
alike_same k = record { owner = λ o t. refl; commit = refl }

pub alike_inferred : (v : Variable) (m : Lock) → Alike (Inferred v) (Protected m)
alike_inferred v m = record { owner = λ o t. refl; commit = refl }

module _ (guards guards' : List ℕ) (alike : (x : Level) (a : Action) → Alike (operation_of guards x a) (operation_of guards' x a)) where
  pub onto_alike : (s : Run) (n : ℕ) (f : Frame) → onto guards s n f ≡ onto guards' s n f
  onto_alike s n f =
      let a = alike (level_in s (thread_of f) f.action) f.action in
      rw (a.owner s.owner (thread_of f), a.commit)

  commit_place_alike : (t : ℕ) (s : Run) (n : ℕ) (l : List Frame) → commit_place guards t s n l ≡ commit_place guards' t s n l
  commit_place_alike t s n [] = refl
  commit_place_alike t s n (f ∷ l) = cc (onto_alike s n f, commit_place_alike t (onto guards' s n f) (suc n) l)

  key_of_alike : (s : Run) (n : ℕ) (f : Frame) (l : List Frame) → key_of guards s n f l ≡ key_of guards' s n f l
  key_of_alike s n f l = cc (commit_place_alike (thread_of f) s n (f ∷ l))

  -- The keys are the same.
  pub keyed_alike : (s : Run) (n : ℕ) (l : List Frame) → keyed guards s n l ≡ keyed guards' s n l
  keyed_alike s n [] = refl
  keyed_alike s n (f ∷ l) = cc (key_of_alike s n f l, onto_alike s n f, keyed_alike (onto guards' s n f) (suc n) l)

  -- The serial order is the same.
  pub serial_order_alike : (l : List Frame) → serial_order guards l ≡ serial_order guards' l
  serial_order_alike l = cc (keyed_alike begin 0 l)
