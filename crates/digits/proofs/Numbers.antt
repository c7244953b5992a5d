-- Bytes as values of digits, and the numbers that these make. In this order: one byte; the turns of the loops; what all values together
-- say, over any number of digits.
use Prim.Native.Nat.{ℕ, zero, suc, ◌+◌, ◌*◌, ◌/◌, ◌^◌, ◌≤◌, ◌<◌}
use mathlib.Core.Path.{◌≡◌, refl, ap, ◌∙◌}
use mathlib.Core.Bool.{true, false}
use mathlib.Core.List.{List, [], ◌∷◌, ◌++◌}
use native.Mathlib.Omega.{arith}
use native.Mathlib.Numerals.{add-one}
use native.Mathlib.Nat.{pow-suc, pow-le-pow_right}
use lib.ListN.{length, get_or, take, drop, set, length-take}
use lib.Seq.{take-suc, drop-cons, get_or-take, get_or-drop, length-take-le}
use borrow.Author.Tests.{le-ltb, ltb-true, ltb-false}
use lib.Dec.{ltb}
use Rattle.std.proofs.lemmas.List.{get_or_past}
use Rattle.std.proofs.lemmas.Bool.Decides.{nat_tests}
use Rattle.laws.proofs.Logic.{by_test}
use Rattle.laws.proofs.Lists.{front_next}
use Rattle.digits.specs.Digits.{value, digit_of, digits_value, all_digits, values_of, others, joined, DigitValues}

-- a byte's value as a digit, or 16
pub digit_most : (b d : ℕ) → d ≡ digit_of b → d ≤ 16
unfolding digit_of
digit_most b d e = grind (arith, nat_tests)

-- one byte more behind others
values_behind : (xs : List ℕ) (b : ℕ) → values_of (xs ++ (b ∷ [])) ≡ values_of xs ++ (digit_of b ∷ [])
unfolding values_of
values_behind [] b = refl
values_behind (x ∷ xs) b = ap (λ (l : List ℕ). digit_of x ∷ l) (values_behind xs b)

others_behind : (xs : List ℕ) (b : ℕ) → others (xs ++ (b ∷ [])) ≡ others xs + digit_of b / 16
unfolding others
others_behind [] b = omega arith
others_behind (x ∷ xs) b = omega (arith, others_behind xs b)

-- as many values as bytes
pub length_values : (bs : List ℕ) → length (values_of bs) ≡ length bs
unfolding values_of
length_values [] = refl
length_values (b ∷ bs) = ap suc (length_values bs)

-- the values of the first k bytes stand at the front of out₀: the next one stored
pub value_more : (s out₀ out : List ℕ) (k d : ℕ) → k < length s → k < length out₀ → d ≡ digit_of (get_or s k 0) → out ≡ values_of (take k s) ++ drop k out₀
    → set out k d ≡ values_of (take (k + 1) s) ++ drop (k + 1) out₀
value_more s out₀ out k d h l is e =
    let n : length (values_of (take k s)) ≡ k = length_values (take k s) ∙ length-take-le k s (omega arith) in
    rw (e, front_next (values_of (take k s)) out₀ k d n l, add-one k, take-suc s k 0 h, values_behind (take k s) (get_or s k 0), is)

pub count_more : (s : List ℕ) (k d n : ℕ) → k < length s → d ≡ digit_of (get_or s k 0) → n ≡ others (take k s) → n + d / 16 ≡ others (take (k + 1) s)
count_more s k d n h is e = rw (add-one k, take-suc s k 0 h, others_behind (take k s) (get_or s k 0), e, is)

-- the number of the values from the k-th on, behind v
pub joined_more : (d : List ℕ) (v k : ℕ) → k < length d → joined v (drop k d) ≡ joined (v * 16 + get_or d k 0) (drop (k + 1) d)
unfolding joined
joined_more d v k h = rw (drop-cons d k 0, add-one k)

-- a value of k digits, and one more
pub wider : (v k d : ℕ) → v < 16 ^ k → d ≤ 15 → v * 16 + d < 16 ^ (k + 1)
wider v k d h l = rw (add-one k, pow-suc 16 k) (omega arith)

-- 16 digits are held by 64 bits
pub sixteen : (k : ℕ) → k ≤ 15 → 16 ^ k ≤ 1152921504606846976
sixteen k h = pow-le-pow_right {n = 16} (omega arith) h

-- bytes none of which is no digit are digits, with values of digits
pub no_others : (bs : List ℕ) → others bs ≡ 0 → (all_digits bs ≡ true) × DigitValues (values_of bs)
unfolding others all_digits values_of DigitValues
no_others [] e = (refl, λ k. omega arith)
no_others (b ∷ bs) e =
    let d : digit_of b ≤ 15 = omega arith in
    let r = no_others bs (omega arith) in
    (rw (le-ltb 15 (digit_of b) d) r.0, λ k. first k d r.1)
  where
    first : (k : ℕ) → digit_of b ≤ 15 → ((i : ℕ) → get_or (values_of bs) i 0 ≤ 15) → get_or (digit_of b ∷ values_of bs) k 0 ≤ 15
    first zero d f = d
    first (suc k) d f = f k

pub some_others : (bs : List ℕ) → 0 < others bs → all_digits bs ≡ false
unfolding others all_digits
some_others [] h = absurd (omega arith)
some_others (b ∷ bs) h = grind (arith, nat_tests, some_others bs)

-- digits say the number that their values make, and no others do
pub digits_said : (v : ℕ) (bs : List ℕ) → all_digits bs ≡ true → digits_value v bs ≡ value (joined v (values_of bs))
unfolding all_digits digits_value values_of joined
digits_said v [] e = refl
digits_said v (b ∷ bs) e = grind (arith, nat_tests, digits_said (v * 16 + digit_of b) bs)

pub said_digits : (v : ℕ) (bs : List ℕ) (w : ℕ) → digits_value v bs ≡ value w → (all_digits bs ≡ true) × (joined v (values_of bs) ≡ w)
unfolding all_digits digits_value values_of joined
said_digits v [] w e = (refl, cc)
said_digits v (b ∷ bs) w e = grind (arith, nat_tests, said_digits (v * 16 + digit_of b) bs w)

-- the values of a part are a part of the values
values_take : (n : ℕ) (bs : List ℕ) → values_of (take n bs) ≡ take n (values_of bs)
unfolding values_of
values_take zero bs = refl
values_take (suc n) [] = refl
values_take (suc n) (b ∷ bs) = ap (λ (l : List ℕ). digit_of b ∷ l) (values_take n bs)

values_drop : (n : ℕ) (bs : List ℕ) → values_of (drop n bs) ≡ drop n (values_of bs)
unfolding values_of
values_drop zero bs = refl
values_drop (suc n) [] = refl
values_drop (suc n) (b ∷ bs) = values_drop n bs

pub values_part : (at n : ℕ) (bs : List ℕ) → values_of (take n (drop at bs)) ≡ take n (drop at (values_of bs))
values_part at n bs = values_take n (drop at bs) ∙ ap (take n) (values_drop at bs)

pub part_digits : (ds : List ℕ) → DigitValues ds → (at n : ℕ) → DigitValues (take n (drop at ds))
unfolding DigitValues
part_digits ds h at n = λ k. by_test (ltb k n)
    (λ q. rw (get_or-take n (drop at ds) k 0 (ltb-true k n q), get_or-drop at ds k 0) (h (at + k)))
    (λ q. rw (get_or_past (take n (drop at ds)) k 0 (omega (arith, length-take n (drop at ds), ltb-false k n q))) (omega arith))
