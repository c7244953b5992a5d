-- Which recordings are sound, and which refusal the others meet: 2 of words, 4 to 10 and 20.
-- In this order: the state, the step of one frame, the pass from any state and place, the check of a whole recording.
-- Quotes are from docs/FORMAT.md.
use Rattle.std.specs.Prelude.{ℕ, ◌+◌, ◌-◌, cond, List, [], ◌∷◌, length, get_or, set, replicate, ltb, leb, eqb, Result, Ok, Err}
use Rattle.frame.specs.Limits.{thread_count, lock_count, most_frames, deepest, most_held}
use Rattle.frame.specs.Frame.{decode_word}
use Rattle.frame.specs.Refusal.{refused_at}
use Rattle.frame.specs.declared.Action.{Action}
use Rattle.frame.specs.declared.Action.TheVariants.{Acquire, Release, Read, Write, Begin, End}
use Rattle.frame.specs.declared.Lock.{Lock}
use Rattle.frame.specs.declared.Frame.{Frame}
use Rattle.frame.specs.declared.Refusal.{Refusal}
use Rattle.frame.specs.declared.Refusal.TheVariants as refusal
use Rattle.soundness.specs.declared.State.{State}
use Rattle.soundness.specs.declared.Level.{Level}
use Rattle.soundness.specs.declared.Level.TheVariants.{Outer, Inner}
use Rattle.frame.specs.declared.Refused.{Refused}

-- "A lock is free, or has an owner, the thread that holds it, and a count of how often it is held": the owner of each lock, 0 for none and else
-- a thread's number plus 1, and its count, 0 for a free lock; the depth of each thread, its begins less its ends.
abbrev pub state_of : List ℕ → List ℕ → List ℕ → State
state_of o c d = record { owners = o; counts = c; depths = d }

abbrev pub owner_of : Lock → State → ℕ
owner_of l s = get_or s.owners l.0 0

abbrev pub count_of : Lock → State → ℕ
count_of l s = get_or s.counts l.0 0

-- The lock with another count, and with another owner and count.
abbrev pub with_count : Lock → ℕ → State → State
with_count l c s = state_of s.owners (set s.counts l.0 c) s.depths

abbrev pub with_owner : Lock → ℕ → ℕ → State → State
with_owner l o c s = state_of (set s.owners l.0 o) (set s.counts l.0 c) s.depths

-- A thread's depth after its action: "its begins less its ends".
abbrev pub nest : ℕ → Action → ℕ
nest d (Acquire l) = d
nest d (Release l) = d
nest d (Read v) = d
nest d (Write v) = d
nest d Begin = d + 1
nest d End = d - 1

-- The depth of thread t after its action.
abbrev pub nested : ℕ → Action → State → State
nested t a s = state_of s.owners s.counts (set s.depths t (nest (get_or s.depths t 0) a))

-- What one frame leads to. A refused frame leaves the state as it was.
pub record Stepped : Type 0 where
  pub outcome : Result Level Refusal
  pub state : State

abbrev pub stepped : Result Level Refusal → State → Stepped
stepped o s = record { outcome = o; state = s }

-- "7: acquire of a lock that another thread holds .. 8: release of a lock this thread does not hold .. 9: begin inside 15 open blocks of this
-- thread .. 10: end with no open block of this thread .. 20: acquire of a lock that this thread holds 15 times already"
unfoldable pub step_action : ℕ → Action → State → Stepped
-- "The acquire of a free lock makes its thread the owner and the count 1. The owner's further acquires raise the count by 1"
step_action t (Acquire l) s =
    cond (eqb (owner_of l s) 0) (stepped (Ok Outer) (with_owner l (t + 1) 1 s))
    (cond (eqb (owner_of l s) (t + 1))
    (cond (leb most_held (count_of l s)) (stepped (Err refusal.TooOften) s) (stepped (Ok Inner) (with_count l (count_of l s + 1) s)))
    (stepped (Err refusal.LockTaken) s))
-- "and its releases lower it by 1; the release that lowers it to 0 frees the lock."
step_action t (Release l) s =
    cond (eqb (owner_of l s) (t + 1))
    (cond (leb (count_of l s) 1) (stepped (Ok Outer) (with_owner l 0 0 s)) (stepped (Ok Inner) (with_count l (count_of l s - 1) s)))
    (stepped (Err refusal.LockNotHeld) s)
step_action t (Read v) s = stepped (Ok Outer) s
step_action t (Write v) s = stepped (Ok Outer) s
step_action t Begin s =
    cond (leb deepest (get_or s.depths t 0)) (stepped (Err refusal.TooDeep) s) (stepped (Ok Outer) (nested t Begin s))
step_action t End s =
    cond (eqb (get_or s.depths t 0) 0) (stepped (Err refusal.NoOpenBlock) s) (stepped (Ok Outer) (nested t End s))

abbrev pub step_frame : Frame → State → Stepped
step_frame f s = step_action f.thread.0 f.action s

-- "frame alone" comes before "frame in sequence": 4 to 6, then 7 to 10 and 20.
abbrev pub step_decoded : Result Frame Refusal → State → Stepped
step_decoded (Ok f) s = step_frame f s
step_decoded (Err r) s = stepped (Err r) s

-- The reply of a pass, and the state that it leaves.
pub record Checked : Type 0 where
  pub reply : Result Unit Refused
  pub state : State

abbrev pub checked : Result Unit Refused → State → Checked
checked r s = record { reply = r; state = s }

abbrev pub on_outcome : Result Level Refusal → State → ℕ → (State → Checked) → Checked
on_outcome (Ok x) s i rest = rest s
on_outcome (Err r) s i rest = checked (Err (refused_at r i)) s

-- The frames from place i on, in state s. "The first frame that fails decides."
unfoldable pub check_from : ℕ → State → List ℕ → Checked
check_from i s [] = checked (Ok tt) s
check_from i s (w ∷ ws) =
    on_outcome (step_decoded (decode_word w) s).outcome (step_decoded (decode_word w) s).state i (λ n. check_from (i + 1) n ws)

-- "A recording starts with no lock held and no block open."
unfoldable pub start : State
start = state_of (replicate lock_count 0) (replicate lock_count 0) (replicate thread_count 0)

-- "2: more than 4,096 words; 4096; recording as words, before its frames"
abbrev pub check_reply : List ℕ → Result Unit Refused
check_reply ws = cond (ltb most_frames (length ws)) (Err (refused_at refusal.TooLong most_frames)) (check_from 0 start ws).reply

-- Whether a frame that passes is an inner one (asked of no other).
abbrev pub level_of : Result Level Refusal → Level
level_of (Ok x) = x
level_of (Err r) = Outer
