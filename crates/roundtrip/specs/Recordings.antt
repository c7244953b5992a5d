-- "Reading a written recording returns the frames, and writing what was read, if sound, returns the text": claims over whole texts, about the
-- definitions that the contracts of `writer::write_recording` and `text::read_recording` cite.
-- Quotes are from docs/FORMAT.md.
use Rattle.std.specs.Prelude.{ℕ, ◌+◌, ◌*◌, ◌≤◌, ◌≡◌, List, ◌++◌, length, take, drop, Ok}
use Rattle.soundness.specs.Soundness.{check_reply}
use Rattle.text.specs.Text.{words_to, read_reply, read_words}
use Rattle.writer.specs.Writer.{write_reply, text_after}

-- The text with ws written into it from a place on, by what the call leaves.
abbrev pub written_into : List ℕ → List ℕ → ℕ → List ℕ
written_into ws text at = text_after (write_reply ws (length text) at) ws text at

-- Every sound recording, every text and place with room: nine bytes for each frame are written, all others stay, and what is read of the
-- written stretch, into any words with room, is the number of frames and those frames.
abbrev pub WrittenRecordingReads : Type 0
WrittenRecordingReads =
    (ws text words : List ℕ) (at : ℕ) → check_reply ws ≡ (Ok tt) → at + 9 * length ws ≤ length text → length ws ≤ length words
    → (write_reply ws (length text) at ≡ Ok (9 * length ws))
    × (take at (written_into ws text at) ≡ take at text)
    × (drop (at + 9 * length ws) (written_into ws text at) ≡ drop (at + 9 * length ws) text)
    × (read_reply (take (9 * length ws) (drop at (written_into ws text at))) (length words) ≡ Ok (length ws))
    × (read_words (take (9 * length ws) (drop at (written_into ws text at))) words ≡ ws ++ drop (length ws) words)

-- Every text that is read with n lines, into any number of words, whose words are sound: writing these into any text with room, from any place
-- on, writes the text read, byte for byte.
abbrev pub ReadRecordingWrites : Type 0
ReadRecordingWrites =
    (s text : List ℕ) (m n at : ℕ) → read_reply s m ≡ Ok n → check_reply (words_to s n) ≡ (Ok tt) → at + length s ≤ length text
    → (write_reply (words_to s n) (length text) at ≡ Ok (length s))
    × (written_into (words_to s n) text at ≡ take at text ++ (s ++ drop (at + length s) text))
