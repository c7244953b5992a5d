-- What the functions for C programs answer and write, from the definitions of the crates below.
-- Quotes are from docs/FORMAT.md.
use Rattle.std.specs.Prelude.{ℕ, ◌+◌, cond, List, ◌++◌, ltb, length, drop, Result}
use Rattle.frame.specs.Refusal.{refusal_number}
use Rattle.frame.specs.declared.Refusal.TheVariants as refusal
use Rattle.reply.specs.Reply.{Reply, answered}
use Rattle.line.specs.Line.{line_length, verdict_line}
use Rattle.verdict.specs.Verdict.{inferred_sets}
use Rattle.answer.specs.Answer.{reply_kind}
use Rattle.frame.specs.declared.Refused.{Refused}

abbrev pub read_answer : Result ℕ Refused → ℕ
read_answer = answered

abbrev pub guards_answer : Result ℕ Refused → ℕ
guards_answer = answered

-- "The C entry returns the kind as a number"; "refused by 17 it returns 91 hexadecimal": 17 where the buffer, n bytes long, is "shorter
-- than 33 bytes", "first of all".
abbrev pub kind_answer : Reply → ℕ → ℕ
kind_answer r n = cond (ltb n line_length) (128 + refusal_number refusal.LineBuffer) (reply_kind r)

-- "writes the first 33 bytes and leaves the rest; refused by 17 it .. writes nothing"
abbrev pub line_after : Reply → ℕ → List ℕ → List ℕ
line_after r frames line = cond (ltb (length line) line_length) line (verdict_line r frames ++ drop line_length line)

-- The table of candidate sets after the inferred verdict into a line buffer of n bytes.
abbrev pub sets_after : List ℕ → List ℕ → ℕ → List ℕ
sets_after ws sets n = cond (ltb n line_length) sets (inferred_sets ws sets)
