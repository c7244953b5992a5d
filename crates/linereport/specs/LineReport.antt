-- A verdict line in words.
-- Quotes are from docs/TOOL.md.
use Rattle.std.specs.Prelude.{ℕ, cond, List, ◌++◌, eqb, Result, Ok, Err}
use Rattle.frame.specs.Refusal.{refusal_number}
use Rattle.reply.specs.Reply.{Reply}
use Rattle.fields.specs.Fields.{line_fields}
use Rattle.kept.specs.Kept.{kept_reply}
use Rattle.output.specs.Output.{bytes, decimal}
use Rattle.phrase.specs.declared.Source.{Source}
use Rattle.phrase.specs.declared.Source.TheVariants as source
use Rattle.refusaltext.specs.RefusalText.{refusal_text}
use Rattle.explain.specs.Explain.{explanation}
use Rattle.frame.specs.declared.Refused.{Refused}
use Rattle.line.specs.declared.Fields.{Fields}

-- "SOURCE is the text in a refusal by 1, which may be of a recording or of a guard list; the guard list in 11 and 12; and else the recording."
abbrev pub source_by : ℕ → Source
source_by n = cond (eqb n 1) source.Text (cond (eqb n 11) source.GuardList (cond (eqb n 12) source.GuardList source.Recording))

abbrev pub source_of : Reply → Source
source_of (Err x) = source_by (refusal_number x.reason)
source_of (Ok v) = source.Recording

-- "refused: number NUMBER, which this check does not give; its place is PLACE."
abbrev pub other_text : ℕ → ℕ → List ℕ
other_text n p = bytes "refused: number " ++ (decimal n ++ (bytes ", which this check does not give; its place is " ++ (decimal p ++ bytes ".\n")))

-- The answer that a line tells, with the words of its recording at hand; "A kept verdict line is explained as the recording would be, as far as
-- the line alone tells it": there are no words then.
abbrev pub kept_text : Result Reply ℕ → List ℕ → ℕ → List ℕ
kept_text (Ok r) ws p = explanation (source_of r) ws r p
kept_text (Err n) ws p = other_text n p

-- "A word that is no verdict line is refused by 18"
abbrev pub line_read : Result Fields Refused → List ℕ → List ℕ
line_read (Ok f) ws = kept_text (kept_reply f) ws f.frame
line_read (Err x) ws = refusal_text source.Text ws x

abbrev pub line_report : List ℕ → List ℕ → List ℕ
line_report l ws = line_read (line_fields l) ws
