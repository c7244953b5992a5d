-- What digits and a line of eight of them say, and how they are written. In this order: digits read, the values that the code adds up, one
-- line read; digits written, lines written; the claims that reading and writing undo each other, over any number of digits.
-- Quotes are from docs/FORMAT.md.
use Rattle.std.specs.Prelude.{ℕ, zero, suc, ◌+◌, ◌-◌, ◌*◌, ◌/◌, ◌%◌, ◌^◌, ◌≤◌, ◌<◌, ◌≡◌, Bool, true, false, cond, List, [], ◌∷◌, ◌++◌, length, get_or, take, drop, ltb, eqb, Option, Some, None}

-- "digits 0-9 A-F": the value of each, and 16 for any other byte.
unfoldable pub digit_of : ℕ → ℕ
digit_of b = cond (ltb b 48) 16 (cond (ltb b 58) (b - 48) (cond (ltb b 65) 16 (cond (ltb b 71) (b - 55) 16)))

-- The same of the digits A-F alone.
unfoldable pub letter_of : ℕ → ℕ
letter_of b = cond (ltb b 65) 16 (cond (ltb b 71) (b - 55) 16)

-- The value of some digits, or that one of them is none.
pub data Digits : Type 0 where
  value : ℕ → Digits
  none : Digits

-- "eight digits 0-9 A-F, top digit first": the digits that follow those with the value v.
unfoldable pub digits_value : ℕ → List ℕ → Digits
digits_value v [] = value v
digits_value v (b ∷ bs) = cond (ltb 15 (digit_of b)) none (digits_value (v * 16 + digit_of b) bs)

-- Whether all bytes are digits.
unfoldable pub all_digits : List ℕ → Bool
all_digits [] = true
all_digits (b ∷ bs) = cond (ltb 15 (digit_of b)) false (all_digits bs)

-- The values of bytes as digits, and how many of the bytes are none.
unfoldable pub values_of : List ℕ → List ℕ
values_of [] = []
values_of (b ∷ bs) = digit_of b ∷ values_of bs

unfoldable pub others : List ℕ → ℕ
others [] = 0
others (b ∷ bs) = digit_of b / 16 + others bs

-- The number that values of digits make, behind the number v, top digit first.
unfoldable pub joined : ℕ → List ℕ → ℕ
joined v [] = v
joined v (d ∷ ds) = joined (v * 16 + d) ds

-- Values of digits alone.
unfoldable pub DigitValues : List ℕ → Type 0
DigitValues ds = (k : ℕ) → get_or ds k 0 ≤ 15

-- The value of a byte as a digit, and 2^32 where it is none.
unfoldable pub value_of : ℕ → ℕ
value_of b = cond (ltb 15 (digit_of b)) 4294967296 (digit_of b)

abbrev pub line_word : Digits → Option ℕ
line_word (value v) = Some v
line_word none = None

-- "On a line it is eight digits 0-9 A-F, top digit first, then one LF": the line that starts at a byte.
unfoldable pub line_of : List ℕ → ℕ → Option ℕ
line_of s at =
    cond (ltb (length s - at) 9) None
    (cond (eqb (get_or s (at + 8) 0) 10) (line_word (digits_value 0 (take 8 (drop at s)))) None)

-- Eight digits whose values add up to v: from 2^32 on, one of them is none.
abbrev pub digits_of_sum : ℕ → Digits
digits_of_sum v = cond (ltb 4294967295 v) none (value v)

-- The digit 0-9 A-F of a value below 16.
unfoldable pub byte_of : ℕ → ℕ
byte_of v = cond (ltb v 10) (v + 48) (v + 55)

-- The low n digits of v, top digit first.
unfoldable pub digits : ℕ → ℕ → List ℕ
digits zero v = []
digits (suc n) v = digits n (v / 16) ++ (byte_of (v % 16) ∷ [])

-- A buffer with n of its bytes replaced from a place on.
abbrev pub pasted : List ℕ → ℕ → ℕ → List ℕ → List ℕ
pasted s at n xs = take at s ++ (xs ++ drop (at + n) s)

-- "On a line it is eight digits 0-9 A-F, top digit first, then one LF": the line of a word.
unfoldable pub word_line : ℕ → List ℕ
word_line w = digits 8 w ++ (10 ∷ [])

-- "A recording's text is its lines, in order, and nothing else": words as lines.
unfoldable pub lines_of : List ℕ → List ℕ
lines_of [] = []
lines_of (w ∷ ws) = word_line w ++ lines_of ws

-- The least number that n digits cannot hold.
abbrev pub too_wide : ℕ → ℕ
too_wide n = 16 ^ n

-- What is written reads back: n digits of a value that they hold have that value.
abbrev pub WrittenDigitsRead : Type 0
WrittenDigitsRead = (n v : ℕ) → v < too_wide n → digits_value 0 (digits n v) ≡ value v

-- What was read is written again: bytes that have a value are its digits, and so many digits hold it.
abbrev pub ReadDigitsWrite : Type 0
ReadDigitsWrite = (bs : List ℕ) (v : ℕ) → digits_value 0 bs ≡ value v → (digits (length bs) v ≡ bs) × (v < too_wide (length bs))
