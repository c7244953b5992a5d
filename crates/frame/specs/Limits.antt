-- The limits of a recording. The code's are the constants of the same numbers in src/.
-- Quotes are from docs/FORMAT.md.
use Rattle.std.specs.Prelude.{ℕ}

-- "Threads are 0 to 31."
abbrev pub thread_count : ℕ
thread_count = 32

-- "lock 0 to 63"
abbrev pub lock_count : ℕ
lock_count = 64

-- "variable 0 to 1023"
abbrev pub variable_count : ℕ
variable_count = 1024

-- "A recording is 0 to 4,096 frames."
abbrev pub most_frames : ℕ
most_frames = 4096

-- "begin inside 15 open blocks of this thread"
abbrev pub deepest : ℕ
deepest = 15

-- "acquire of a lock that this thread holds 15 times already"
abbrev pub most_held : ℕ
most_held = 15

-- "all 64 locks": lock n is bit n of a set.
abbrev pub all_locks : ℕ
all_locks = 18446744073709551615
