-- What writing a recording as text answers, and what it leaves in the text.
-- Quotes are from docs/FORMAT.md.
use Rattle.std.specs.Prelude.{ℕ, ◌-◌, ◌*◌, cond, List, ltb, length, Result, Ok, Err}
use Rattle.digits.specs.Digits.{lines_of, pasted}
use Rattle.frame.specs.Refusal.{refused_at}
use Rattle.frame.specs.declared.Refusal.TheVariants as refusal
use Rattle.soundness.specs.Soundness.{check_reply}
use Rattle.frame.specs.declared.Refused.{Refused}

-- "19: the place lies beyond the text's end, or fewer than nine bytes for each frame stand from there; nine times the frames": n frames, into
-- a text of so many bytes. "the reply is the number of bytes written, nine for each frame".
abbrev pub room_reply : ℕ → ℕ → ℕ → Result ℕ Refused
room_reply n size at =
    cond (ltb size at) (Err (refused_at refusal.TextBuffer (9 * n)))
    (cond (ltb (size - at) (9 * n)) (Err (refused_at refusal.TextBuffer (9 * n))) (Ok (9 * n)))

-- "text to be written, after the recording"
abbrev pub on_check : Result Unit Refused → Result ℕ Refused → Result ℕ Refused
on_check (Ok tt) r = r
on_check (Err x) r = Err x

-- The reply to writing ws from a place of a text of so many bytes on.
unfoldable pub write_reply : List ℕ → ℕ → ℕ → Result ℕ Refused
write_reply ws size at = on_check (check_reply ws) (room_reply (length ws) size at)

-- "Bytes outside the written stretch stay"; "A refusal is its number and place; no lent buffer changes".
abbrev pub text_after : Result ℕ Refused → List ℕ → List ℕ → ℕ → List ℕ
text_after (Ok n) ws text at = pasted text at n (lines_of ws)
text_after (Err x) ws text at = text
