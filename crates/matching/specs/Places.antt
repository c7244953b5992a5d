-- What the functions of the comparison tell each other: where a thread's next frame stands, and the last places.
use Rattle.std.specs.Prelude.{ℕ, max, ◌<◌, List, length, get_or, set, replicate, Option, Some, None}
use Rattle.frame.specs.Limits.{lock_count, variable_count}
use Rattle.frame.specs.declared.Action.{Action}
use Rattle.frame.specs.declared.Action.TheVariants.{Acquire, Release, Read, Write, Begin, End}
use Rattle.exchange.specs.Exchange.{frame_of}
use Rattle.exchange.specs.Found.{Found}
use Rattle.matching.specs.declared.Lasts.{Lasts}

abbrev pub thread_of : ℕ → ℕ
thread_of w = (frame_of w).thread.0

abbrev pub word_at : List ℕ → ℕ → ℕ
word_at ws k = get_or ws k 0

-- The first place, `from` or later, of a frame of thread t is p. Where there is none, p is the length.
abbrev pub FoundIn : List ℕ → ℕ → ℕ → ℕ → Type 0
FoundIn ws t from p = Found thread_of (word_at ws) (length ws) t from p

-- The answer of a search for that place: it is a place of the recording, or there is none.
abbrev pub Finds : List ℕ → ℕ → ℕ → Option ℕ → Type 0
Finds ws t from (Some p) = (p < length ws) × FoundIn ws t from p
Finds ws t from None = FoundIn ws t from (length ws)

-- The k-th number is raised to q, if it is below q.
abbrev pub raised_to : List ℕ → ℕ → ℕ → List ℕ
raised_to l k q = set l k (max (get_or l k 0) q)

-- The last places: of each lock, and of the writes and the accesses of each variable.
abbrev pub lasts_of : List ℕ → List ℕ → List ℕ → Lasts
lasts_of l w a = record { locks = l; writes = w; accesses = a }

-- At the start nothing is matched.
unfoldable pub no_lasts : Lasts
no_lasts = lasts_of (replicate lock_count 0) (replicate variable_count 0) (replicate variable_count 0)

-- What a frame with the action must be matched behind.
abbrev pub last_at : Action → Lasts → ℕ
last_at (Acquire m) c = get_or c.locks m.0 0
last_at (Release m) c = get_or c.locks m.0 0
last_at (Read x) c = get_or c.writes x.0 0
last_at (Write x) c = get_or c.accesses x.0 0
last_at Begin c = 0
last_at End c = 0

-- The last places when a frame with the action is matched; q is one more than its place.
abbrev pub with_last : Action → ℕ → Lasts → Lasts
with_last (Acquire m) q c = lasts_of (set c.locks m.0 q) c.writes c.accesses
with_last (Release m) q c = lasts_of (set c.locks m.0 q) c.writes c.accesses
with_last (Read x) q c = lasts_of c.locks c.writes (raised_to c.accesses x.0 q)
with_last (Write x) q c = lasts_of c.locks (set c.writes x.0 q) (set c.accesses x.0 q)
with_last Begin q c = c
with_last End q c = c
