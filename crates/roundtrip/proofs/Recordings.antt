-- Reading a written recording, and writing what was read. In this order: the lines of words, read; the words of a sound recording; a text
-- written; a written text read; the lines of a text that is read; the claims.
use Rattle.std.specs.Prelude.{Result, Ok, Err, Some}
use Prim.Native.Nat.{ℕ, zero, suc, ◌+◌, ◌-◌, ◌*◌, ◌/◌, ◌≤◌, ◌<◌}
use mathlib.Core.Path.{◌≡◌, refl, sym, ap, ◌∙◌}
use mathlib.Core.List.{List, [], ◌∷◌, ◌++◌, append_assoc}
use native.Mathlib.Omega.{arith}
use borrow.Author.Tests.{lt-ltb, le-ltb, ltb-true, ltb-false}
use lib.Dec.{ltb}
use lib.ListN.{length, get_or, take, drop, replicate, length-append, length-replicate}
use lib.Seq.{take-suc, take_all, take-add, take_at, drop_at, drop-append-add, length-take-le}
use borrow.Author.Tests.{le-leb, lt-leb}
use Rattle.laws.proofs.Logic.{by_test}
use Rattle.frame.specs.Limits.{most_frames}
use Rattle.frame.specs.Frame.{decode_parts, decode_word}
use Rattle.frame.specs.declared.Refusal.TheVariants as refusal
use Rattle.digits.specs.Digits.{line_of, word_line, lines_of, pasted}
use Rattle.digits.proofs.Writing.{length_word_line, length_lines, lines_behind}
use Rattle.digits.proofs.Inverse.{line_read, line_written}
use Rattle.soundness.specs.Soundness.{check_reply}
use Rattle.soundness.proofs.Laws.{sound_fits, sound_not_bad}
use Rattle.text.specs.Text.{word_in, word_at, scan_from, scanned, words_to, read_reply, read_words, written}
use Rattle.text.proofs.Laws.{length_words_to, lines_are_linefeeds}
use Rattle.writer.specs.Writer.{write_reply, text_after}
use Rattle.roundtrip.specs.Recordings.{written_into, WrittenRecordingReads, ReadRecordingWrites}
use Rattle.frame.specs.declared.Refused.{Refused}

-- the nine bytes of line i
line_bytes_lem : (ws : List ℕ) (i : ℕ) → i < length ws → take 9 (drop (9 * i) (lines_of ws)) ≡ word_line (get_or ws i 0)
unfolding lines_of
line_bytes_lem [] i h = absurd (omega arith)
line_bytes_lem (w ∷ ws) zero h = take_at (word_line w) (lines_of ws) 9 (length_word_line w)
line_bytes_lem (w ∷ ws) (suc i) h =
    let n : 9 * suc i ≡ length (word_line w) + 9 * i = omega (arith, length_word_line w) in
    rw (n, drop-append-add (word_line w) (lines_of ws) (9 * i)) (line_bytes_lem ws i (omega arith))

-- words that fit 32 bits
abbrev pub Narrow : List ℕ → Type 0
Narrow ws = (k : ℕ) → k < length ws → get_or ws k 0 < 4294967296

pub line_at : (ws : List ℕ) → Narrow ws → (i : ℕ) → i < length ws → line_of (lines_of ws) (9 * i) ≡ Some (get_or ws i 0)
line_at ws small i h = line_read (lines_of ws) (9 * i) (get_or ws i 0) (small i h) (line_bytes_lem ws i h)

-- the lines from line i on are read, where as many more may come
lines_scanned : (ws : List ℕ) → Narrow ws → (k i : ℕ) → i ≤ length ws → length ws ≤ i + k → scan_from k (lines_of ws) i ≡ Ok (length ws)
unfolding scan_from
lines_scanned ws small zero i h l =
    let e : i ≡ length ws = omega arith in
    rw (le-leb (length (lines_of ws)) (9 * i) (omega (arith, length_lines ws)), e)
lines_scanned ws small (suc k) i h l = by_test (ltb i (length ws))
    (λ q.
    let m = ltb-true i (length ws) q in
    rw (lt-leb (length (lines_of ws)) (9 * i) (omega (arith, length_lines ws)), line_at ws small i m) (lines_scanned ws small k (i + 1) (omega arith) (omega arith)))
    (λ q.
    let e : i ≡ length ws = omega (arith, ltb-false i (length ws) q) in
    rw (le-leb (length (lines_of ws)) (9 * i) (omega (arith, length_lines ws)), e))

-- and give the words
lines_words : (ws : List ℕ) → Narrow ws → (i : ℕ) → i ≤ length ws → words_to (lines_of ws) i ≡ take i ws
unfolding words_to word_at
lines_words ws small zero h = refl
lines_words ws small (suc i) h =
    rw (lines_words ws small i (omega arith), line_at ws small i (omega arith)) (sym (take-suc ws i 0 (omega arith)))

-- a word that is a frame has 32 bits
wide_bad : (w : ℕ) → 4294967296 ≤ w → decode_word w ≡ Err refusal.Operation
unfolding decode_parts
wide_bad w h =
    let o : 256 ≤ w / 16777216 = omega arith in
    rw (le-ltb (w / 16777216) 1 (omega arith), lt-ltb 6 (w / 16777216) (omega arith))

sound_narrow : (ws : List ℕ) → check_reply ws ≡ (Ok tt) → Narrow ws
sound_narrow ws sound k h = by_test (ltb (get_or ws k 0) 4294967296)
    (λ q. ltb-true (get_or ws k 0) 4294967296 q)
    (λ q. sound_not_bad ws sound k h (wide_bad (get_or ws k 0) (ltb-false (get_or ws k 0) 4294967296 q)))

-- a sound recording is written where there is room
module _ (ws text : List ℕ) (at : ℕ) (sound : check_reply ws ≡ (Ok tt)) (room : at + 9 * length ws ≤ length text) where
  pub is_written : write_reply ws (length text) at ≡ Ok (9 * length ws)
  unfolding write_reply
  is_written = rw (sound, le-ltb (length text) at (omega arith), le-ltb (length text - at) (9 * length ws) (omega arith))

  pub all_written : written_into ws text at ≡ pasted text at (9 * length ws) (lines_of ws)
  all_written = ap (λ (r : Result ℕ Refused). text_after r ws text at) is_written

  long : length (take at text) ≡ at
  long = length-take-le at text (omega arith)

  before : take at (written_into ws text at) ≡ take at text
  before = rw all_written (take_at (take at text) (lines_of ws ++ drop (at + 9 * length ws) text) at long)

  from_place : drop at (written_into ws text at) ≡ lines_of ws ++ drop (at + 9 * length ws) text
  from_place = rw all_written (drop_at (take at text) (lines_of ws ++ drop (at + 9 * length ws) text) at long)

  stretch : take (9 * length ws) (drop at (written_into ws text at)) ≡ lines_of ws
  stretch = rw from_place (take_at (lines_of ws) (drop (at + 9 * length ws) text) (9 * length ws) (length_lines ws))

  behind : drop (at + 9 * length ws) (written_into ws text at) ≡ drop (at + 9 * length ws) text
  behind =
      rw (all_written, ← append_assoc (take at text) (lines_of ws) (drop (at + 9 * length ws) text))
      (drop_at (take at text ++ lines_of ws) (drop (at + 9 * length ws) text) (at + 9 * length ws) (length-append (take at text) (lines_of ws) ∙ omega (arith, long, length_lines ws)))

-- the lines of a sound recording, read
module _ (ws words : List ℕ) (sound : check_reply ws ≡ (Ok tt)) (room : length ws ≤ length words) where
  reads_lines : read_reply (lines_of ws) (length words) ≡ Ok (length ws)
  reads_lines =
      let s : scanned (lines_of ws) ≡ Ok (length ws) = lines_scanned ws (sound_narrow ws sound) most_frames 0 (omega arith) (omega (arith, sound_fits ws sound)) in
      rw (s, le-ltb (length words) (length ws) room)

  reads_words : read_words (lines_of ws) words ≡ ws ++ drop (length ws) words
  reads_words =
      ap (λ (r : Result ℕ Refused). written r (lines_of ws) words) reads_lines
      ∙ ap (λ (l : List ℕ). l ++ drop (length ws) words) (lines_words ws (sound_narrow ws sound) (length ws) (omega arith) ∙ take_all (length ws) ws (omega arith))

-- Reading a written recording returns the frames.
pub written_recording_reads : WrittenRecordingReads
written_recording_reads ws text words at sound room fits = (
  is_written ws text at sound room,
  before ws text at sound room,
  behind ws text at sound room,
  rw (stretch ws text at sound room) (reads_lines ws words sound fits),
  rw (stretch ws text at sound room) (reads_words ws words sound fits),
)

-- the lines of the words that a text gives are the text
module _ (s : List ℕ) (n : ℕ) (lines : (i : ℕ) → i < n → line_of s (9 * i) ≡ Some (word_at s i)) where
  words_lines : (i : ℕ) → i ≤ n → lines_of (words_to s i) ≡ take (9 * i) s
  unfolding words_to lines_of
  words_lines zero h = refl
  words_lines (suc i) h =
      let m : 9 * suc i ≡ 9 * i + 9 = omega arith in
      lines_behind (words_to s i) (word_at s i)
      ∙ rw (words_lines i (omega arith), m, take-add (9 * i) 9 s, line_written s (9 * i) (word_at s i) (lines i (omega arith)))

-- what is known of a text that is read
module _ (s : List ℕ) (m n : ℕ) (e : read_reply s m ≡ Ok n) where
  known : (9 * n ≡ length s) × ((i : ℕ) → i < n → line_of s (9 * i) ≡ Some (word_at s i))
  unfolding word_at
  known =
      let r = lines_are_linefeeds s (replicate m 0) n (rw (length-replicate {A = ℕ} m 0) e) in
      (r.1, λ i h. r.4 i h ∙ ap Some (sym (ap word_in (r.4 i h))))

  pub same_text : lines_of (words_to s n) ≡ s
  same_text = words_lines s n known.1 n (omega arith) ∙ take_all (9 * n) s (omega (arith, known.0))

-- Writing what was read, if sound, returns the text.
pub read_recording_writes : ReadRecordingWrites
read_recording_writes s text m n at e sound room =
    let k : 9 * length (words_to s n) ≡ length s = omega (arith, (known s m n e).0, length_words_to s n) in
    let r : at + 9 * length (words_to s n) ≤ length text = omega arith in
    (is_written (words_to s n) text at sound r ∙ ap Ok k, all_written (words_to s n) text at sound r ∙ rw (k, same_text s m n e))
