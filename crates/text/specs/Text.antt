-- What a text says: its lines, the words on them, and what reading a recording's text answers and writes. In this order: the lines of a text,
-- the words written, the LFs of a text, the claims on the number of lines and on long texts. What one line says is in crate digits.
-- Quotes are from docs/FORMAT.md.
use Rattle.std.specs.Prelude.{ℕ, zero, suc, ◌+◌, ◌*◌, ◌≤◌, ◌<◌, ◌≡◌, cond, List, [], ◌∷◌, ◌++◌, length, get_or, take, drop, ltb, leb, eqb, Result, Ok, Err, Option, Some, None}
use Rattle.frame.specs.Limits.{most_frames}
use Rattle.frame.specs.Refusal.{refused_at}
use Rattle.frame.specs.declared.Refusal.TheVariants as refusal
use Rattle.digits.specs.Digits.{line_of}
use Rattle.frame.specs.declared.Refused.{Refused}

abbrev pub word_in : Option ℕ → ℕ
word_in (Some w) = w
word_in None = 0

-- The word of line i: "places and lines count from 0".
unfoldable pub word_at : List ℕ → ℕ → ℕ
word_at s i = word_in (line_of s (9 * i))

abbrev pub if_line : Option ℕ → Result ℕ Refused → Result ℕ Refused → Result ℕ Refused
if_line (Some w) a b = a
if_line None a b = b

-- Line i: its word, none where the text ends before it, or why it is refused.
abbrev pub numbered : ℕ → Option ℕ → Result (Option ℕ) Refused
numbered i (Some w) = Ok (Some w)
numbered i None = Err (refused_at refusal.Line i)

abbrev pub line_at : List ℕ → ℕ → Result (Option ℕ) Refused
line_at s i = cond (leb (length s) (9 * i)) (Ok None) (numbered i (line_of s (9 * i)))

-- The lines from line i on, of which k more may come.
-- "1: not eight digits 0-9 A-F and an LF (blank, lower case, CR, unfinished last line)", at the line;
-- "2: a byte stands after the 4,096th line .. comes before 1 for that line", at 4096.
unfoldable pub scan_from : ℕ → List ℕ → ℕ → Result ℕ Refused
scan_from zero s i = cond (leb (length s) (9 * i)) (Ok i) (Err (refused_at refusal.TooLong most_frames))
scan_from (suc k) s i =
    cond (leb (length s) (9 * i)) (Ok i)
    (if_line (line_of s (9 * i)) (scan_from k s (i + 1)) (Err (refused_at refusal.Line i)))

-- "A recording is 0 to 4,096 frames": the number of lines of a text, or the first refusal among them.
abbrev pub scanned : List ℕ → Result ℕ Refused
scanned s = scan_from most_frames s 0

-- The number of lines before the end or the refusal.
abbrev pub reached : Result ℕ Refused → ℕ
reached (Ok n) = n
reached (Err r) = r.place

-- The words of the first n lines.
unfoldable pub words_to : List ℕ → ℕ → List ℕ
words_to s zero = []
words_to s (suc n) = words_to s n ++ (word_at s n ∷ [])

-- "3: fewer words than lines; the number of lines; word buffer, after all lines"; m is the number of words.
abbrev pub room_reply : ℕ → Result ℕ Refused → Result ℕ Refused
room_reply m (Ok n) = cond (ltb m n) (Err (refused_at refusal.WordBuffer n)) (Ok n)
room_reply m (Err r) = Err r

abbrev pub read_reply : List ℕ → ℕ → Result ℕ Refused
read_reply s m = room_reply m (scanned s)

-- "Reading a recording's text gives the number of lines and writes that many words; later words keep their contents."
-- "A refusal is its number and place; no lent buffer changes".
abbrev pub written : Result ℕ Refused → List ℕ → List ℕ → List ℕ
written (Ok n) s ws = words_to s n ++ drop n ws
written (Err r) s ws = ws

abbrev pub read_words : List ℕ → List ℕ → List ℕ
read_words s ws = written (read_reply s (length ws)) s ws

-- The number of LFs of a text.
unfoldable pub linefeeds : List ℕ → ℕ
linefeeds [] = 0
linefeeds (b ∷ bs) = cond (eqb b 10) (linefeeds bs + 1) (linefeeds bs)

-- "The number of lines of an accepted text is the number of its LFs": the line reader's claim, over the definitions that its contract
-- cites. Each line has nine bytes, all words fit, and the i-th word written is that of line i.
abbrev pub LinesAreLinefeeds : Type 0
LinesAreLinefeeds =
    (s ws : List ℕ) (n : ℕ) → read_reply s (length ws) ≡ Ok n
    → (linefeeds s ≡ n) × (9 * n ≡ length s) × (n ≤ most_frames) × (n ≤ length ws)
    × ((i : ℕ) → i < n → line_of s (9 * i) ≡ Some (get_or (read_words s ws) i 0))

-- The most bytes that a text may have: a line has nine.
abbrev pub most_bytes : ℕ
most_bytes = 9 * most_frames

-- So many bytes of a text and one more decide what is answered: a program need read no more.
abbrev pub FirstBytesDecide : Type 0
FirstBytesDecide = (s : List ℕ) → scanned (take (most_bytes + 1) s) ≡ scanned s
