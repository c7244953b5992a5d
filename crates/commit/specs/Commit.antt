-- What a walk over a reducible recording keeps to find the commits of its units, and what a frame does to it. In this order: the units,
-- what an action does, what a frame does, the unit that it commits.
-- Quotes are from docs/FORMAT.md.
use Rattle.std.specs.Prelude.{ℕ, ◌+◌, ◌-◌, ◌<◌, Bool, false, cond, ◌||◌, List, eqb, leb, get_or, set, replicate, Option, Some, None}
use Rattle.frame.specs.Limits.{thread_count, lock_count}
use Rattle.frame.specs.declared.Action.{Action}
use Rattle.frame.specs.declared.Action.TheVariants.{Acquire, Release, Read, Write, Begin, End}
use Rattle.frame.specs.declared.Frame.{Frame}
use Rattle.guards.specs.Guards.{unprotected_code}
use Rattle.commit.specs.declared.Units.{Units}
use Rattle.soundness.specs.Soundness.{nest}

-- How often each lock is held; of each thread the depth, the place where its unit started, and whether that unit has committed.
abbrev pub units_of : List ℕ → List ℕ → List ℕ → List Bool → Units
units_of c d s m = record { counts = c; depths = d; starts = s; committed = m }

-- Every entry of a table can be raised by 1 in 32 bits.
abbrev pub Raisable : List ℕ → Type 0
Raisable l = (m : ℕ) → get_or l m 0 < 4294967295

-- "A recording starts with no lock held and no block open."
unfoldable pub start_units : Units
start_units = units_of (replicate lock_count 0) (replicate thread_count 0) (replicate thread_count 0) (replicate thread_count false)

-- The counts after an action: acquires raise them by 1, and releases lower them.
abbrev pub counted : Action → List ℕ → List ℕ
counted (Acquire l) cs = set cs l.0 (get_or cs l.0 0 + 1)
counted (Release l) cs = set cs l.0 (get_or cs l.0 0 - 1)
counted (Read v) cs = cs
counted (Write v) cs = cs
counted Begin cs = cs
counted End cs = cs

-- Whether an action takes the block that it stands in after commit, if it is not so yet: "A release that frees its lock inside a block puts it
-- after commit", and "An access to an unprotected variable commits a block before commit". `guards` has the code of each variable's guard.
abbrev pub committing : List ℕ → List ℕ → Action → Bool
committing guards cs (Acquire l) = false
committing guards cs (Release l) = leb (get_or cs l.0 0) 1
committing guards cs (Read v) = eqb (get_or guards v.0 0) unprotected_code
committing guards cs (Write v) = eqb (get_or guards v.0 0) unprotected_code
committing guards cs Begin = false
committing guards cs End = false

-- Where the unit of a thread started that is at depth d before its frame at place i: outside a block each frame starts one, and else it is as
-- before.
abbrev pub start_in : ℕ → ℕ → ℕ → ℕ
start_in d i before = cond (eqb d 0) i before

-- Whether a thread's unit has committed, after a frame that leaves the thread at depth d; c says whether the frame commits a block, and `done`
-- whether the unit had committed. Outside a block the next unit is to come.
abbrev pub committed_after : Bool → ℕ → Bool → Bool
committed_after c d done = cond (eqb d 0) false (c || done)

-- Whether a frame is one by which a unit commits, if it has not: "the frame that took it after commit, or its end if none did; a single frame
-- is its own commit".
abbrev pub settles : Bool → ℕ → Bool
settles c d = c || eqb d 0

-- The unit that a frame commits, by its start; absent where it commits none.
abbrev pub unit_committed : Bool → Bool → ℕ → Option ℕ
unit_committed s done start = cond done None (cond s (Some start) None)

-- The depth of a frame's thread before the frame, and the start of its unit.
abbrev pub depth_in : Frame → Units → ℕ
depth_in f x = get_or x.depths f.thread.0 0

abbrev pub start_at : ℕ → Frame → Units → ℕ
start_at i f x = start_in (depth_in f x) i (get_or x.starts f.thread.0 0)

-- The units after frame f at place i.
unfoldable pub visited : List ℕ → ℕ → Frame → Units → Units
visited guards i f x =
    units_of (counted f.action x.counts) (set x.depths f.thread.0 (nest (depth_in f x) f.action))
    (set x.starts f.thread.0 (start_at i f x))
    (set x.committed f.thread.0
    (committed_after (committing guards x.counts f.action) (nest (depth_in f x) f.action) (get_or x.committed f.thread.0 false)))

-- Where the unit started that frame f at place i commits; absent where it commits none.
unfoldable pub unit_start : List ℕ → ℕ → Frame → Units → Option ℕ
unit_start guards i f x =
    unit_committed (settles (committing guards x.counts f.action) (nest (depth_in f x) f.action)) (get_or x.committed f.thread.0 false)
    (start_at i f x)
