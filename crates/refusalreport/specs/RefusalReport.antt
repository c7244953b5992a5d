-- A call's refusal in words.
use Rattle.std.specs.Prelude.{ℕ, ◌/◌, ◌%◌, cond, List, [], eqb, ltb, length}
use Rattle.frame.specs.Refusal.{refusals, refusal_by, refused_at}
use Rattle.phrase.specs.Phrase.{source_named}
use Rattle.phrase.specs.declared.Source.{Source}
use Rattle.linereport.specs.LineReport.{other_text}
use Rattle.linefault.specs.LineFault.{refused_text}

-- The refusal of a number at a place; a number 0 is none, and one above the last is "which this check does not give" (docs/TOOL.md).
abbrev pub numbered_text : ℕ → ℕ → Source → List ℕ → List ℕ → List ℕ
numbered_text n p s text ws =
    cond (eqb n 0) [] (cond (ltb (length refusals) n) (other_text n p) (refused_text s text ws (refused_at (refusal_by n) p)))

-- A reply has the refusal's number in the high 32 bits, where 256 may be added for the right recording, and its place in the low 32.
abbrev pub refusal_report : ℕ → ℕ → List ℕ → List ℕ → List ℕ
refusal_report r s text ws = numbered_text (r / 4294967296 % 256) (r % 4294967296) (source_named s) text ws
