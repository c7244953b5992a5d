-- What a guard list says: the guard of each variable, and what reading the list answers.
-- "A guard list names each variable at most once; a variable not named is unprotected. Line order in it has no meaning."
-- Quotes are from docs/FORMAT.md.
use Rattle.std.specs.Prelude.{ℕ, zero, suc, ◌+◌, ◌*◌, ◌/◌, ◌%◌, cond, List, length, get_or, set, replicate, ltb, leb, eqb, Ok, Err, Option, Some, None, Result}
use Rattle.frame.specs.Refusal.{refused_at}
use Rattle.frame.specs.Limits.{lock_count, variable_count, most_frames}
use Rattle.frame.specs.declared.Refused.{Refused}
use Rattle.frame.specs.declared.Refusal.{Refusal}
use Rattle.frame.specs.declared.Refusal.TheVariants as refusal
use Rattle.digits.specs.Digits.{line_of}
use Rattle.text.specs.Text.{word_at}
use Rattle.guards.specs.Judgement as judgement
use Rattle.guards.specs.Judgement.{Judgement}
use Rattle.guards.specs.declared.Guard.{Guard}
use Rattle.guards.specs.declared.Guard.TheVariants.{Locked, Unprotected, Inferred}
use Rattle.guards.specs.declared.GuardLine.{GuardLine}
use Rattle.guards.specs.declared.GuardsRead.{GuardsRead}

-- The codes of a variable that is unprotected, and of one whose guard is inferred; below them, a lock is its own code.
abbrev pub unprotected_code : ℕ
unprotected_code = lock_count

abbrev pub inferred_code : ℕ
inferred_code = unprotected_code + 1

-- The guard that a code stands for: 0 to 63 a lock, 64 "unprotected", any other the guard that the inferred rules use.
abbrev pub guard_of : ℕ → Guard
guard_of n = cond (ltb n lock_count) (Locked (record { 0 = n })) (cond (eqb n unprotected_code) Unprotected Inferred)

-- "A guard line has the same shape: variable in four digits, lock in four."
abbrev pub guard_variable : ℕ → ℕ
guard_variable w = w / 65536

abbrev pub guard_lock : ℕ → ℕ
guard_lock w = w % 65536

-- What reading a guard list answers (`GuardsRead`): its number of lines or its refusal, and the table that its lines give.
abbrev pub lines : ℕ → List ℕ → GuardsRead
lines n g = record { reply = Ok n; table = g }

abbrev pub stopped : Refusal → ℕ → List ℕ → GuardsRead
stopped r p g = record { reply = Err (refused_at r p); table = g }

-- "A guard line is tested for 1 before 11": what a line names on its own, or its refusal.
-- "11: variable above 1023 or lock above 63".
abbrev pub guard_line : Option ℕ → Result GuardLine Refusal
guard_line (Some w) =
    cond (leb variable_count (guard_variable w)) (Err refusal.GuardRange)
    (cond (leb lock_count (guard_lock w)) (Err refusal.GuardRange)
    (Ok (record { variable = record { 0 = guard_variable w }; lock = record { 0 = guard_lock w } })))
guard_line None = Err refusal.Line

-- "and 11 before 12": line i, with the table g of the lines before it. "12: variable already named".
-- `more` takes the table with the line's guard.
abbrev pub on_guard_line : Result GuardLine Refusal → ℕ → List ℕ → (List ℕ → GuardsRead) → GuardsRead
on_guard_line (Ok x) i g more =
    cond (eqb (get_or g x.variable.0 0) unprotected_code) (more (set g x.variable.0 x.lock.0)) (stopped refusal.GuardRepeated i g)
on_guard_line (Err r) i g more = stopped r i g

-- "guard list, line by line": the lines from line i on, of which k more may come, with the table g of the lines before.
-- Where a line is refused, the table is the one so far; callers do not use it. `ListsAreNeverTooLong` says that k never runs out.
unfoldable pub guards_from : ℕ → List ℕ → ℕ → List ℕ → GuardsRead
guards_from zero s i g = cond (leb (length s) (9 * i)) (lines i g) (stopped refusal.TooLong most_frames g)
guards_from (suc k) s i g =
    cond (leb (length s) (9 * i)) (lines i g)
    (on_guard_line (guard_line (line_of s (9 * i))) i g (λ g'. guards_from k s (i + 1) g'))

-- "a variable not named is unprotected": the table of no line.
abbrev pub no_guards : List ℕ
no_guards = replicate variable_count unprotected_code

-- What reading a guard list answers: its number of lines or its first refusal, and the code of each variable's guard.
abbrev pub guards_read : List ℕ → GuardsRead
guards_read s = guards_from most_frames s 0 no_guards

-- "There are no unprotected variables here": the guard of every variable is inferred.
unfoldable pub inferred_guards : List ℕ
inferred_guards = replicate variable_count inferred_code

-- The guards of a judgement: those that a list names, or all inferred, for which no list is read.
abbrev pub guards_under : Judgement → List ℕ → GuardsRead
guards_under judgement.Declared list = guards_read list
guards_under judgement.Inferred list = lines 0 inferred_guards

-- "a variable not named is unprotected": the guard of variable x by the first n lines of a list, the lock of the line that names it.
unfoldable pub listed_guard : List ℕ → ℕ → ℕ → Guard
listed_guard s zero x = Unprotected
listed_guard s (suc n) x = cond (eqb (guard_variable (word_at s n)) x) (Locked (record { 0 = guard_lock (word_at s n) })) (listed_guard s n x)
