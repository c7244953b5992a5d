-- "Reading a written line returns the fields, but for such a begin or commit; writing what was read returns the line": claims over whole lines,
-- about the definitions that the contracts of `fields::read_fields`, `fields::write_fields` and `kept::reply_of` cite. What a written begin or commit reads back
-- as is said once, over any number of digits.
-- Quotes are from docs/FORMAT.md.
use Rattle.std.specs.Prelude.{ℕ, ◌<◌, ◌≡◌, cond, List, eqb, Ok, Option, Some, None}
use Rattle.digits.specs.Digits.{value, digits_value, digits, too_wide}
use Rattle.reply.specs.Reply.{Reply}
use Rattle.line.specs.Line.{kind_width, place_width, thread_width, locks_width, absent_in, mark_field, field_mark, reply_fields, verdict_line, Exact}
use Rattle.line.specs.declared.Fields.{Fields}
use Rattle.fields.specs.Fields.{line_fields, written_line}
use Rattle.kept.specs.Kept.{kept_reply}

-- What a begin or a commit reads back as that is written in n digits: "A begin or commit at 65,535 is written FFFF, and so reads back as absent."
abbrev pub read_back : ℕ → Option ℕ → Option ℕ
read_back n (Some i) = cond (eqb i (absent_in n)) None (Some i)
read_back n None = None

-- A begin or a commit that n digits hold.
abbrev pub MarkHeld : ℕ → Option ℕ → Type 0
MarkHeld n (Some i) = i < too_wide n
MarkHeld n None = Unit {0}

-- The digits of a written begin or commit have a number that says just that, whatever their number n.
abbrev pub WrittenMarksRead : Type 0
WrittenMarksRead =
    (n : ℕ) (m : Option ℕ) → MarkHeld n m → (v : ℕ) × (digits_value 0 (digits n (mark_field n m)) ≡ value v) × (field_mark n v ≡ read_back n m)

-- Fields that a line holds: those that a caller can hand in, by their types.
pub record Held (f : Fields) : Type 0 where
  pub kind : f.kind < too_wide kind_width
  pub frame : f.frame < too_wide place_width
  pub thread : f.thread < too_wide thread_width
  pub begin : MarkHeld place_width f.begin
  pub commit : MarkHeld place_width f.commit
  pub locks : f.locks < too_wide locks_width

-- The fields as they read back.
abbrev pub fields_back : Fields → Fields
fields_back f = record {
  kind = f.kind;
  frame = f.frame;
  thread = f.thread;
  begin = read_back place_width f.begin;
  commit = read_back place_width f.commit;
  locks = f.locks;
}

-- Fields that are written read back.
abbrev pub WrittenLineReads : Type 0
WrittenLineReads = (f : Fields) (l : List ℕ) → Held f → written_line f ≡ Ok l → line_fields l ≡ Ok (fields_back f)

-- A line that is read is written again, byte for byte.
abbrev pub ReadLineWrites : Type 0
ReadLineWrites = (l : List ℕ) (f : Fields) → line_fields l ≡ Ok f → written_line f ≡ Ok l

-- "The line of a verdict or of a refusal is read into the fields that tell that verdict or refusal": every reply whose places its line tells,
-- as those of the verdicts are (`RepliesFit`, crate answer).
abbrev pub KeptLinesTell : Type 0
KeptLinesTell =
    (r : Reply) (n : ℕ) → Exact (reply_fields r n) → (line_fields (verdict_line r n) ≡ Ok (reply_fields r n)) × (kept_reply (reply_fields r n) ≡ Ok r)
