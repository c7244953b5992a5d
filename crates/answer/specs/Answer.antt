-- The kind of a reply, the verdict on a text, which of its bytes decide, and that a line holds every place.
-- Quotes are from docs/FORMAT.md.
use Rattle.std.specs.Prelude.{ℕ, ◌+◌, ◌<◌, ◌≡◌, List, [], length, take, Result, Ok, Err}
use Rattle.guards.specs.Judgement.{Inferred, Judgement}
use Rattle.digits.specs.Digits.{too_wide}
use Rattle.text.specs.Text.{scanned, words_to, most_bytes}
use Rattle.reply.specs.Reply.{Reply}
use Rattle.line.specs.Line.{place_width, MarkTold, reply_fields}
use Rattle.line.specs.declared.Fields.{Fields}
use Rattle.verdict.specs.Verdict.{verdict_under, inferred_reply}
use Rattle.answer.specs.declared.TextJudged.{TextJudged}
use Rattle.frame.specs.declared.Refused.{Refused}

-- The kind of a reply's verdict line, whatever the number of frames.
abbrev pub reply_kind : Reply → ℕ
reply_kind r = (reply_fields r 0).kind

-- "recording text in, one verdict line out, guards inferred"; "All lines of a text come before any of its frames."
abbrev pub on_read : Result ℕ Refused → List ℕ → TextJudged
on_read (Ok n) s = record { reply = verdict_under Inferred [] (words_to s n); frames = n }
on_read (Err r) s = record { reply = Err r; frames = 0 }

unfoldable pub text_judged : List ℕ → TextJudged
text_judged s = on_read (scanned s) s

-- "The small program does the same": it reads at most one byte more than a text may have, and these decide what the planner's call would
-- answer of all.
abbrev pub FirstBytesDecideAnswers : Type 0
FirstBytesDecideAnswers = (s : List ℕ) → text_judged (take (most_bytes + 1) s) ≡ text_judged s

-- The places of a reply are told by its line.
pub record PlacesFit (f : Fields) : Type 0 where
  pub frame : f.frame < too_wide place_width
  pub begin : MarkTold place_width f.begin
  pub commit : MarkTold place_width f.commit

-- Every reply of the verdicts is so, whatever is handed in: the line loses no digit of it.
abbrev pub RepliesFit : Type 0
RepliesFit =
    ((s : List ℕ) → PlacesFit (reply_fields (text_judged s).reply (text_judged s).frames))
    × ((j : Judgement) (list ws : List ℕ) → PlacesFit (reply_fields (verdict_under j list ws) (length ws)))
    × ((ws : List ℕ) (n : ℕ) → PlacesFit (reply_fields (inferred_reply ws n) (length ws)))
