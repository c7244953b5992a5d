-- What is wrong with a line that is refused by 1, in words: "the first byte that is wrong, its column" (docs/TOOL.md), and what to do.
use Rattle.std.specs.Prelude.{ℕ, ◌+◌, ◌*◌, cond, List, [], ◌++◌, length, get_or, drop, eqb, leb, ltb}
use Prim.Native.String.{String}
use Rattle.frame.specs.Refusal.{refusal_number}
use Rattle.frame.specs.declared.Refused.{Refused}
use Rattle.digits.specs.Digits.{digits}
use Rattle.fault.specs.Fault.{leading, fault_of}
use Rattle.output.specs.Output.{bytes, decimal}
use Rattle.phrase.specs.declared.Source.{Source}
use Rattle.sentence.specs.Sentence.{filled}
use Rattle.facts.specs.Facts.{place_facts}
use Rattle.refusaltext.specs.RefusalText.{refusal_text}
use Rattle.fault.specs.declared.Fault.{Fault}
use Rattle.fault.specs.declared.Fault.TheVariants as fault

-- What it is, and what to do.
abbrev pub fault_sentence : Fault → String
fault_sentence fault.Mark = "a byte-order mark; save the file without it.\n"
fault_sentence fault.BlankLine = "an LF, so the line is blank; drop it.\n"
fault_sentence fault.TooFew = "an LF, so there are too few digits; write eight.\n"
fault_sentence fault.Unfinished = "so there are too few digits and no LF; write eight and an LF.\n"
fault_sentence fault.NoLinefeed = "so the last line has no LF; add it.\n"
fault_sentence fault.Return = "a CR; end each line with LF alone.\n"
fault_sentence fault.Blank = "a blank or a tab; write none.\n"
fault_sentence fault.TooMany = "a digit too many; write eight.\n"
fault_sentence fault.NoEnd = "not the LF; end the line behind eight digits.\n"
fault_sentence fault.LowerCase = "a lower-case letter; write A-F.\n"
fault_sentence fault.NoDigit = "not a digit; write 0-9 A-F.\n"

-- The byte of a column, which counts from 1, "as two digits".
abbrev pub byte_text : List ℕ → ℕ → List ℕ
byte_text t c =
    cond (leb (length t) c) (bytes " is behind the end of the file, ") (bytes " has byte " ++ (digits 2 (get_or t c 0) ++ bytes ", "))

abbrev pub column_text : List ℕ → ℕ → List ℕ
column_text t c = bytes "column " ++ (decimal (c + 1) ++ byte_text t c)

abbrev pub line_fault : String
line_fault = "refused: number 1, @ of % is not eight digits 0-9 A-F and one LF: "

-- The line at place p of a text, which starts here.
abbrev pub fault_from : Source → List ℕ → ℕ → List ℕ
fault_from s t p =
    filled (place_facts s [] p) (bytes line_fault) ++ (column_text t (leading 8 t) ++ bytes (fault_sentence (fault_of t p (leading 8 t))))

-- A line has nine bytes.
abbrev pub line_fault_text : Source → List ℕ → ℕ → List ℕ
line_fault_text s text p = fault_from s (drop (9 * p) text) p

-- A refusal, with what is at hand of what is refused: refusal 1 of a line that begins in the text names its byte, and the words are those of the
-- recording.
abbrev pub refused_text : Source → List ℕ → List ℕ → Refused → List ℕ
refused_text s text ws x =
    cond (eqb (refusal_number x.reason) 1)
    (cond (ltb (9 * x.place) (length text)) (line_fault_text s text x.place) (refusal_text s ws x))
    (refusal_text s ws x)
