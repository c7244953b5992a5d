-- What the functions for C programs answer and leave that write texts, and read and write verdict lines. A number that answers has the refusal's
-- number in the high 32 bits and its place in the low 32 (`packed`), or what is answered.
-- Quotes are from docs/FORMAT.md.
use Rattle.std.specs.Prelude.{ℕ, cond, List, ◌++◌, ltb, length, drop, Result, Ok, Err}
use Rattle.frame.specs.Refusal.{refused_at}
use Rattle.frame.specs.declared.Refusal.TheVariants as refusal
use Rattle.line.specs.Line.{place_width, line_length, mark_field, field_mark}
use Rattle.line.specs.declared.Fields.{Fields}
use Rattle.fields.specs.Fields.{written_line}
use Rattle.reply.specs.Reply.{packed, answered}
use Rattle.frame.specs.declared.Refused.{Refused}

abbrev pub write_answer : Result ℕ Refused → ℕ
write_answer = answered

-- 0 for a line that is read.
abbrev pub fields_answer : Result Fields Refused → ℕ
fields_answer (Ok f) = 0
fields_answer (Err r) = packed r

-- What a number is left with that had the value old: what `of` takes from the fields of a line, or old where it is refused.
abbrev pub left : (Fields → ℕ) → Result Fields Refused → ℕ → ℕ
left of (Ok f) old = of f
left of (Err r) old = old

-- The number of a field, "absent is FFFF".
abbrev pub kind_of : Fields → ℕ
kind_of f = f.kind

abbrev pub frame_of : Fields → ℕ
frame_of f = f.frame

abbrev pub thread_of : Fields → ℕ
thread_of f = f.thread

abbrev pub begin_of : Fields → ℕ
begin_of f = mark_field place_width f.begin

abbrev pub commit_of : Fields → ℕ
commit_of f = mark_field place_width f.commit

abbrev pub locks_of : Fields → ℕ
locks_of f = f.locks

-- The fields with these numbers: a begin or a commit of FFFF is absent.
abbrev pub given : ℕ → ℕ → ℕ → ℕ → ℕ → ℕ → Fields
given k f t b c l = record { kind = k; frame = f; thread = t; begin = field_mark place_width b; commit = field_mark place_width c; locks = l }

-- The bytes written, or the refusal.
abbrev pub line_answer : Result (List ℕ) Refused → ℕ
line_answer (Ok l) = line_length
line_answer (Err r) = packed r

-- "17: shorter than 33 bytes; 33; line buffer, first of all": writing fields into a buffer of n bytes.
abbrev pub write_line_answer : Fields → ℕ → ℕ
write_line_answer f n = cond (ltb n line_length) (packed (refused_at refusal.LineBuffer line_length)) (line_answer (written_line f))

abbrev pub line_over : Result (List ℕ) Refused → List ℕ → List ℕ
line_over (Ok l) buffer = l ++ drop line_length buffer
line_over (Err r) buffer = buffer

-- The first bytes of the buffer are the line; a refusal writes nothing.
abbrev pub write_line_after : Fields → List ℕ → List ℕ
write_line_after f buffer = cond (ltb (length buffer) line_length) buffer (line_over (written_line f) buffer)
