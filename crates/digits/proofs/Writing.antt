-- Laws of what is written: how many bytes there are, and one more written.
use Prim.Native.Nat.{ℕ, zero, suc, ◌+◌, ◌*◌, ◌/◌, ◌%◌, ◌<◌}
use mathlib.Core.Path.{◌≡◌, refl, sym, ap, ◌∙◌}
use mathlib.Core.List.{List, [], ◌∷◌, ◌++◌, append-nil, append_assoc}
use native.Mathlib.Omega.{arith}
use native.Mathlib.Numerals.{add-one}
use native.Mathlib.Nat.{pow-succ', mod-lt, mod-eq_of_lt, div-add-mod, add-mul-mod_self_left, one-le-pow, mul_assoc}
use borrow.Rule.Slice.PartMut.{put_mid}
use lib.ListN.{length, drop, set, length-append}
use lib.Seq.{append_snoc, take_at, drop_at, drop-drop}
use Rattle.laws.proofs.Lists.{drop_stored}
use Rattle.digits.specs.Digits.{byte_of, digits, word_line, lines_of, too_wide}

-- as many digits as asked for
pub length_digits : (n v : ℕ) → length (digits n v) ≡ n
unfolding digits
length_digits zero v = refl
length_digits (suc n) v = simp (length-append, length_digits n (v / 16), add-one)

-- a number by 16 and by 16 * p, where m stands for p times what is left
low_part : (v w p m : ℕ) → v ≡ w + 16 * m → (w / 16 ≡ (w / 16 + m) % p) → (w % 16 ≡ v % 16) × (w / 16 ≡ v / 16 % p)
low_part v w p m e f =
    let q : v / 16 ≡ w / 16 + m = omega arith in
    (omega arith, rw q f)

-- n digits are those of the part that they hold
pub digits_low : (n v : ℕ) → digits n (v % too_wide n) ≡ digits n v
unfolding digits
digits_low zero v = refl
digits_low (suc n) v =
    let p = too_wide n in
    let w = v % (16 * p) in
    let m = p * (v / (16 * p)) in
    let h : w < 16 * p = mod-lt v (omega (arith, one-le-pow n 16 (omega arith))) in
    let e : v ≡ w + 16 * m = omega (arith, div-add-mod v (16 * p), mul_assoc 16 p (v / (16 * p))) in
    let f : w / 16 ≡ (w / 16 + m) % p = sym (add-mul-mod_self_left (w / 16) p (v / (16 * p)) ∙ mod-eq_of_lt (omega arith)) in
    let a = low_part v w p m e f in
    rw (pow-succ' 16 n, a.0, a.1, digits_low n (v / 16))

-- a word's line has nine bytes
pub length_word_line : (w : ℕ) → length (word_line w) ≡ 9
unfolding word_line
length_word_line w = simp (length-append, length_digits)

-- and lines nine each
pub length_lines : (ws : List ℕ) → length (lines_of ws) ≡ 9 * length ws
unfolding lines_of
length_lines [] = refl
length_lines (w ∷ ws) = omega (arith, length-append (word_line w) (lines_of ws), length_word_line w, length_lines ws)

-- the last digit is stored, and the others are left before it
pub digit_stored : (s : List ℕ) (k v b : ℕ) → k < length s → b ≡ byte_of (v % 16)
    → digits k (v / 16) ++ drop k (set s k b) ≡ digits (k + 1) v ++ drop (k + 1) s
unfolding digits
digit_stored s k v b h e =
    rw (drop_stored s k b h, add-one k, e, append_snoc (digits k (v / 16)) (byte_of (v % 16)) (drop (suc k) s))

-- one word's line more behind others
pub lines_behind : (ws : List ℕ) (w : ℕ) → lines_of (ws ++ (w ∷ [])) ≡ lines_of ws ++ word_line w
unfolding lines_of
lines_behind [] w = append-nil (word_line w)
lines_behind (x ∷ ws) w = ap (λ (l : List ℕ). word_line x ++ l) (lines_behind ws w) ∙ sym (append_assoc (word_line x) (lines_of ws) (word_line w))

-- a part written behind the bytes p at the front of a list
pub part_next : (p s xs : List ℕ) (at n : ℕ) → length p ≡ at → put_mid at n (p ++ drop at s) xs ≡ (p ++ xs) ++ drop (at + n) s
part_next p s xs at n l = rw (take_at p (drop at s) at l, drop_at p (drop at s) at l, drop-drop n at s, append_assoc)
