-- Reading and writing undo each other: a digit, any number of digits, a word's line.
use Rattle.std.specs.Prelude.{Some}
use Prim.Native.Nat.{ℕ, zero, suc, ◌+◌, ◌-◌, ◌*◌, ◌/◌, ◌%◌, ◌≤◌, ◌<◌}
use mathlib.Core.Path.{◌≡◌, sym, ap, ◌∙◌}
use mathlib.Core.List.{List, [], ◌∷◌, ◌++◌, append-nil}
use native.Mathlib.Omega.{arith}
use native.Mathlib.Nat.{add-zero, zero-add, pow-succ'}
use lib.ListN.{length, get_or, take, drop, length-take, length-drop}
use lib.Seq.{length-take-le, append_snoc, take-suc, take-take, take_at, take_all, get_or_at, get_or-take, get_or-drop}
use borrow.Author.Tests.{le-ltb}
use Rattle.std.proofs.lemmas.Bool.Decides.{nat_tests}
use Rattle.digits.specs.Digits.{Digits, value, none, digit_of, digits_value, line_of, byte_of, digits, word_line, too_wide, WrittenDigitsRead, ReadDigitsWrite}
use Rattle.digits.proofs.Sums.{digits_bound}
use Rattle.digits.proofs.Laws.{shown}
use Rattle.digits.proofs.Writing.{length_digits, length_word_line}

-- the digit of a value has that value
digit_read : (v : ℕ) → v < 16 → digit_of (byte_of v) ≡ v
unfolding digit_of byte_of
digit_read v h = grind (arith, nat_tests)

-- a byte that has a value is the digit of it
read_digit : (b : ℕ) → digit_of b ≤ 15 → byte_of (digit_of b) ≡ b
unfolding digit_of byte_of
read_digit b h = grind (arith, nat_tests)

-- one digit more behind others
abbrev next : Digits → ℕ → Digits
next (value v) d = value (v * 16 + d)
next none d = none

digits_next : (v : ℕ) (bs : List ℕ) (b : ℕ) → digit_of b ≤ 15 → digits_value v (bs ++ (b ∷ [])) ≡ next (digits_value v bs) (digit_of b)
unfolding digits_value
digits_next v [] b h = rw (le-ltb 15 (digit_of b) h)
digits_next v (x ∷ bs) b h = grind (arith, nat_tests, digits_next (v * 16 + digit_of x) bs b h)

pub written_digits_read : WrittenDigitsRead
unfolding digits digits_value
written_digits_read zero v h = ap value (omega arith)
written_digits_read (suc n) v h =
    let l : v < 16 * too_wide n = rw (pow-succ' 16 n) at h in
    let d : digit_of (byte_of (v % 16)) ≡ v % 16 = digit_read (v % 16) (omega arith) in
    digits_next 0 (digits n (v / 16)) (byte_of (v % 16)) (omega arith) ∙ rw (written_digits_read n (v / 16) (omega arith), d) (ap value (omega arith))

-- bytes behind the k digits of v, with the value w
digits_behind : (k v : ℕ) (bs : List ℕ) (w : ℕ) → digits_value v bs ≡ value w → digits (length bs + k) w ≡ digits k v ++ bs
unfolding digits digits_value
digits_behind k v [] w e = let q : v ≡ w = cc in rw (← q, zero-add k) (sym (append-nil (digits k v)))
digits_behind k v (b ∷ bs) w e =
    let l : digit_of b ≤ 15 = grind (arith, nat_tests) in
    let f : digits_value (v * 16 + digit_of b) bs ≡ value w = grind (arith, nat_tests) in
    let a : (v * 16 + digit_of b) / 16 ≡ v = omega arith in
    let r : (v * 16 + digit_of b) % 16 ≡ digit_of b = omega arith in
    let n : suc (length bs) + k ≡ length bs + suc k = omega arith in
    rw n (digits_behind (suc k) (v * 16 + digit_of b) bs w f ∙ rw (a, r, read_digit b l) (append_snoc (digits k v) b bs))

pub read_digits_write : ReadDigitsWrite
unfolding digits
read_digits_write bs v e = (rw add-zero at (digits_behind 0 0 bs v e), omega (arith, digits_bound 0 bs v e))

-- values that n digits hold, with the same digits
pub digits_same : (n v w : ℕ) → v < too_wide n → w < too_wide n → digits n v ≡ digits n w → v ≡ w
digits_same n v w h l e =
    let q : value v ≡ value w = sym (written_digits_read n v h) ∙ ap (digits_value 0) e ∙ written_digits_read n w l in cc

-- nine bytes that are a word's line are read as the word
pub line_read : (s : List ℕ) (at w : ℕ) → w < 4294967296 → take 9 (drop at s) ≡ word_line w → line_of s at ≡ Some w
unfolding line_of word_line
line_read s at w h e =
    let n : length (take 9 (drop at s)) ≡ 9 = ap length e ∙ length_word_line w in
    let l : 9 ≤ length s - at = omega (arith, simp (length-take, length-drop) at n) in
    let f : get_or s (at + 8) 0 ≡ 10 = sym (get_or-drop at s 8 0) ∙ sym (get_or-take 9 (drop at s) 8 0 (omega arith)) ∙ rw e (get_or_at (digits 8 w) 10 [] 0 8 (length_digits 8 w)) in
    let d : take 8 (drop at s) ≡ digits 8 w = sym (take-take 8 9 (drop at s) (omega arith)) ∙ rw e (take_at (digits 8 w) (10 ∷ []) 8 (length_digits 8 w)) in
    rw (le-ltb (length s - at) 9 l, f, d, written_digits_read 8 w h)

-- the nine bytes of a line that is read as a word are the word's line
pub line_written : (s : List ℕ) (at w : ℕ) → line_of s at ≡ Some w → take 9 (drop at s) ≡ word_line w
unfolding word_line
line_written s at w e =
    let h = shown s at w e in
    let n : length (take 8 (drop at s)) ≡ 8 = length-take-le 8 (drop at s) (rw length-drop (omega arith)) in
    let d : digits 8 w ≡ take 8 (drop at s) = rw n at (read_digits_write (take 8 (drop at s)) w h.digits).0 in
    take-suc (drop at s) 8 0 (rw length-drop (omega arith)) ∙ rw (d, get_or-drop at s 8 0, h.linefeed)

pub word_line_read : (w : ℕ) → w < 4294967296 → line_of (word_line w) 0 ≡ Some w
word_line_read w h = line_read (word_line w) 0 w h (take_all 9 (word_line w) (omega (arith, length_word_line w)))
