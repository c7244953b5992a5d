-- No answer in words is longer than 4,096 bytes, whatever is asked.
use Rattle.std.specs.Prelude.{ℕ, ◌≤◌, List, length}
use Rattle.linereport.specs.LineReport.{line_report}
use Rattle.refusalreport.specs.RefusalReport.{refusal_report}

abbrev pub most_text : ℕ
most_text = 4096

-- A verdict line with any words beside it, and a reply of anything with any text and any words.
abbrev pub TextsFit : Type 0
TextsFit =
    ((line words : List ℕ) → length (line_report line words) ≤ most_text)
    × ((reply source : ℕ) (text words : List ℕ) → length (refusal_report reply source text words) ≤ most_text)
