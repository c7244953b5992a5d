-- The fields of a reply with their digits, the bytes of its verdict line, and for which replies these are exact.
-- Quotes are from docs/FORMAT.md.
use Rattle.std.specs.Prelude.{ℕ, ◌+◌, ◌-◌, ◌%◌, ◌<◌, ◌≡◌, cond, List, [], ◌∷◌, ◌++◌, eqb, Ok, Err, Option, Some, None}
use Rattle.frame.specs.Refusal.{refusal_number}
use Rattle.digits.specs.Digits.{digits, too_wide}
use Rattle.reply.specs.Reply.{kind_number, Verdict, Reply}
use Rattle.line.specs.declared.Fields.{Fields}

-- "A verdict line is 32 digits and LF: kind (2), frame (4), thread (2), begin (4), commit (4), locks (16)." The digits of each; a frame, a
-- begin and a commit are places.
abbrev pub kind_width : ℕ
kind_width = 2

abbrev pub place_width : ℕ
place_width = 4

abbrev pub thread_width : ℕ
thread_width = 2

abbrev pub locks_width : ℕ
locks_width = 16

-- Where the fields behind the kind start.
abbrev pub frame_at : ℕ
frame_at = kind_width

abbrev pub thread_at : ℕ
thread_at = frame_at + place_width

abbrev pub begin_at : ℕ
begin_at = thread_at + thread_width

abbrev pub commit_at : ℕ
commit_at = begin_at + place_width

abbrev pub locks_at : ℕ
locks_at = commit_at + place_width

-- Where the LF of a line stands, and the bytes of a line.
abbrev pub line_end : ℕ
line_end = locks_at + locks_width

abbrev pub line_length : ℕ
line_length = line_end + 1

-- "Absent begin or commit is FFFF": the highest number that n digits hold.
abbrev pub absent_in : ℕ → ℕ
absent_in n = too_wide n - 1

-- The number that is written in n digits for a begin or a commit.
abbrev pub mark_field : ℕ → Option ℕ → ℕ
mark_field n (Some i) = i
mark_field n None = absent_in n

-- "FFFF in begin or commit is always absent": what a number in n digits says of a begin or a commit.
abbrev pub field_mark : ℕ → ℕ → Option ℕ
field_mark n v = cond (eqb v (absent_in n)) None (Some v)

-- Of a kind and a frame, with "thread 00, FFFF twice, locks zero".
abbrev pub bare_fields : ℕ → ℕ → Fields
bare_fields k p = record { kind = k; frame = p; thread = 0; begin = None; commit = None; locks = 0 }

-- "Reducible: kind 00, frame = number of frames, thread 00, FFFF twice, locks zero." A violation: the number of its kind, and its values.
abbrev pub verdict_fields : Verdict → ℕ → Fields
verdict_fields (Ok tt) n = bare_fields 0 n
verdict_fields (Err v) n = record {
  kind = kind_number v.kind;
  frame = v.frame;
  thread = v.thread.0;
  begin = v.begin;
  commit = v.commit;
  locks = v.locks;
}

-- "Refusal n: kind 80 hexadecimal plus n, frame = place, the rest as for reducible."
abbrev pub reply_fields : Reply → ℕ → Fields
reply_fields (Err r) n = bare_fields (128 + refusal_number r.reason) r.place
reply_fields (Ok v) n = verdict_fields v n

-- The digits of a place that a line has, its low ones.
abbrev pub held_place : ℕ → ℕ
held_place p = p % too_wide place_width

abbrev pub held_mark : Option ℕ → Option ℕ
held_mark (Some i) = Some (held_place i)
held_mark None = None

-- Fields with places that a line holds. Those of the verdicts' replies are so: `RepliesFit` (crate answer).
abbrev pub held_fields : Fields → Fields
held_fields f = record {
  kind = f.kind;
  frame = held_place f.frame;
  thread = f.thread;
  begin = held_mark f.begin;
  commit = held_mark f.commit;
  locks = f.locks;
}

-- The fields in their order, and LF.
unfoldable pub fields_line : Fields → List ℕ
fields_line f =
    digits kind_width f.kind ++ digits place_width f.frame ++ digits thread_width f.thread
    ++ digits place_width (mark_field place_width f.begin) ++ digits place_width (mark_field place_width f.commit) ++ digits locks_width f.locks
    ++ (10 ∷ [])

-- The line of a reply to a recording of n frames.
abbrev pub verdict_line : Reply → ℕ → List ℕ
verdict_line r n = fields_line (reply_fields r n)

-- A begin or a commit that n digits tell: absent, or a place below the number that stands for absent.
abbrev pub MarkTold : ℕ → Option ℕ → Type 0
MarkTold n (Some i) = i < absent_in n
MarkTold n None = Unit {0}

-- Fields that their digits tell. (The kind, the thread and the locks of a reply always are so. The places of the verdicts' replies are, too:
-- `RepliesFit`, crate answer.)
pub record Exact (f : Fields) : Type 0 where
  pub kind : f.kind < too_wide kind_width
  pub frame : f.frame < too_wide place_width
  pub thread : f.thread < too_wide thread_width
  pub begin : MarkTold place_width f.begin
  pub commit : MarkTold place_width f.commit
  pub locks : f.locks < too_wide locks_width

-- For which replies the line is exact: where their fields are told by their digits, one line means one choice of fields.
abbrev pub LinesAreExact : Type 0
LinesAreExact =
    (r q : Reply) (n m : ℕ) → Exact (reply_fields r n) → Exact (reply_fields q m) → verdict_line r n ≡ verdict_line q m → reply_fields r n ≡ reply_fields q m
