-- A recording's run over states of functions: the steps that are sound and do not go wrong under declared guards, and the place of each
-- frame's commit. What the code's states of lists have to do with these is in View.
use Prim.Native.Nat.{ℕ, suc, pred, ◌+◌, ◌-◌}
use mathlib.Core.Path.{◌≡◌}
use mathlib.Core.Bool.{Bool, true, false, cond, not, ◌&&◌, ◌||◌}
use mathlib.Core.List.{List, [], ◌∷◌}
use lib.Dec.{eqb, leb, ltb}
use Rattle.frame.specs.Limits.{deepest}
use Rattle.frame.specs.declared.Frame.{Frame}
use Rattle.frame.specs.declared.Action.{Action}
use Rattle.frame.specs.declared.Action.TheVariants as action
use Rattle.soundness.specs.Soundness.{nest}
use Rattle.soundness.specs.declared.Level.{Level}
use Rattle.soundness.specs.declared.Level.TheVariants.{Outer, Inner}
use Rattle.operation.specs.Operation.{operation_of}
use Rattle.operation.specs.declared.Operation.{Operation}
use Rattle.operation.specs.declared.Operation.TheVariants.{Acquire, Release, Protected, Unprotected, Inferred, Begin, End}

-- The number of a frame's thread.
abbrev pub thread_of : Frame → ℕ
thread_of f = f.thread.0

-- `owner` has 0 for a free lock, and t + 1 for one that the thread t holds, `count` how often it is held. `committed` has 0 for a thread that is outside or before commit,
-- and c + 1 for one that is after the commit at the place c.
pub record Run : Type 0 where
  pub owner : ℕ → ℕ
  pub count : ℕ → ℕ
  pub depth : ℕ → ℕ
  pub committed : ℕ → ℕ

abbrev pub begin : Run
begin = record { owner = λ m. 0; count = λ m. 0; depth = λ t. 0; committed = λ t. 0 }

abbrev pub put : (ℕ → ℕ) → ℕ → ℕ → ℕ → ℕ
put f k v i = cond (eqb i k) v (f i)

-- Whether an action of thread t is an inner acquire or release.
abbrev pub level_in : Run → ℕ → Action → Level
level_in s t (action.Acquire l) = cond (eqb (s.owner l.0) (suc t)) Inner Outer
level_in s t (action.Release l) = cond (eqb (s.owner l.0) (suc t)) (cond (leb (s.count l.0) 1) Outer Inner) Outer
level_in s t (action.Read v) = Outer
level_in s t (action.Write v) = Outer
level_in s t action.Begin = Outer
level_in s t action.End = Outer

-- How often the locks are held after an action of thread t.
abbrev pub counted : Run → ℕ → Action → ℕ → ℕ
counted s t (action.Acquire l) = put s.count l.0 (cond (eqb (s.owner l.0) (suc t)) (s.count l.0 + 1) 1)
counted s t (action.Release l) = put s.count l.0 (cond (leb (s.count l.0) 1) 0 (s.count l.0 - 1))
counted s t (action.Read v) = s.count
counted s t (action.Write v) = s.count
counted s t action.Begin = s.count
counted s t action.End = s.count

-- A step that the refusals 7 to 10 let pass. That of 20 is not asked for.
abbrev pub sound : Run → ℕ → Operation → Bool
sound s t (Acquire m) = eqb (s.owner m.0) 0
sound s t (Release m) = eqb (s.owner m.0) (suc t)
sound s t (Protected m) = true
sound s t Unprotected = true
sound s t (Inferred v) = true
sound s t Begin = ltb (s.depth t) deepest
sound s t End = ltb 0 (s.depth t)

-- Figure 8: a step that does not go wrong. Guards are declared here, so no guard is inferred.
abbrev pub right : Run → ℕ → Operation → Bool
right s t (Acquire m) = eqb (s.committed t) 0
right s t (Release m) = true
right s t (Protected m) = eqb (s.owner m.0) (suc t)
right s t Unprotected = eqb (s.committed t) 0
right s t (Inferred v) = false
right s t Begin = true
right s t End = true

abbrev pub owners : (ℕ → ℕ) → ℕ → Operation → ℕ → ℕ
owners o t (Acquire m) = put o m.0 (suc t)
owners o t (Release m) = put o m.0 0
owners o t (Protected m) = o
owners o t Unprotected = o
owners o t (Inferred v) = o
owners o t Begin = o
owners o t End = o

-- An operation that commits the block it stands in.
abbrev pub committing : Operation → Bool
committing (Acquire m) = false
committing (Release m) = true
committing (Protected m) = false
committing Unprotected = true
committing (Inferred v) = false
committing Begin = false
committing End = false

-- What an operation at the place n, which leaves its thread at depth d, makes of the thread's commit c: outside there is none, and in a block
-- the first stays.
abbrev pub commit_after : ℕ → ℕ → ℕ → Operation → ℕ
commit_after d c n k = cond (eqb d 0) 0 (cond (committing k && eqb c 0) (suc n) c)

-- The run after an operation of thread t that leaves it at depth d, and the locks held c times.
abbrev pub afterwards : Run → ℕ → ℕ → ℕ → (ℕ → ℕ) → Operation → Run
afterwards s n t d c k = record {
  owner = owners s.owner t k;
  count = c;
  depth = put s.depth t d;
  committed = put s.committed t (commit_after d (s.committed t) n k);
}

-- A thread's depth d after a list of frames.
abbrev pub depth_at : ℕ → ℕ → List Frame → ℕ
depth_at t d [] = d
depth_at t d (f ∷ l) = depth_at t (cond (eqb (thread_of f) t) (nest d f.action) d) l

-- All blocks are closed.
abbrev pub Closed : List Frame → Type 0
Closed l = (t : ℕ) → depth_at t 0 l ≡ 0

-- The thread is outside or after commit.
abbrev pub settled : Run → ℕ → Bool
settled s t = eqb (s.depth t) 0 || not (eqb (s.committed t) 0)

-- A frame with the place of its unit's commit.
pub record Keyed (A : Type 0) : Type 0 where
  pub key : ℕ
  pub frame : A

module _ (guards : List ℕ) where
  -- A frame as the rules see it, and as they would see it where it is no inner acquire or release: this does not depend on the run, and names
  -- the same lock.
  abbrev pub seen : Run → Frame → Operation
  seen s f = operation_of guards (level_in s (thread_of f) f.action) f.action

  abbrev pub named : Frame → Operation
  named f = operation_of guards Outer f.action

  abbrev pub onto : Run → ℕ → Frame → Run
  onto s n f = afterwards s n (thread_of f) (nest (s.depth (thread_of f)) f.action) (counted s (thread_of f) f.action) (seen s f)

  -- No frame from here on is refused, and none goes wrong.
  abbrev pub Good : Run → ℕ → List Frame → Type 0
  Good s n [] = Unit {0}
  Good s n (f ∷ l) = (sound s (thread_of f) (seen s f) ≡ true) × (right s (thread_of f) (seen s f) ≡ true) × Good (onto s n f) (suc n) l

  -- The commit of the unit that the thread t, outside or before commit, is in or comes to next: its first frame that leaves it outside or
  -- after commit.
  abbrev pub commit_place : ℕ → Run → ℕ → List Frame → ℕ
  commit_place t s n [] = n
  commit_place t s n (f ∷ l) = cond (eqb (thread_of f) t && settled (onto s n f) t) n (commit_place t (onto s n f) (suc n) l)

  abbrev pub key_of : Run → ℕ → Frame → List Frame → ℕ
  key_of s n f l = cond (eqb (s.committed (thread_of f)) 0) (commit_place (thread_of f) s n (f ∷ l)) (pred (s.committed (thread_of f)))

  -- Elements of any type, one for each frame, with the frames' keys; and the frames themselves.
  abbrev pub keyed_by : {A : Type 0} → Run → ℕ → List Frame → List A → List (Keyed A)
  keyed_by s n [] xs = []
  keyed_by s n (f ∷ l) [] = []
  keyed_by s n (f ∷ l) (x ∷ xs) = record { key = key_of s n f l; frame = x } ∷ keyed_by (onto s n f) (suc n) l xs

  abbrev pub keyed : Run → ℕ → List Frame → List (Keyed Frame)
  keyed s n l = keyed_by s n l l
