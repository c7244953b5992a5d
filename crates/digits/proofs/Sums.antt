-- Eight digits by one sum: each byte that is no digit counts 2^32, so the sum is below 2^32 exactly if all eight are digits.
use Prim.Native.Nat.{ℕ, ◌+◌, ◌*◌, ◌^◌, ◌≤◌, ◌<◌}
use mathlib.Core.Path.{◌≡◌, refl, ◌∙◌}
use mathlib.Core.List.{List, [], ◌∷◌}
use native.Mathlib.Omega.{arith}
use native.Mathlib.Numerals.{add-one}
use native.Mathlib.Nat.{pow-suc, pow-le-pow_right, mul-le-mul_right, mul_assoc, pow-succ'}
use lib.ListN.{length, get_or, drop}
use lib.Seq.{drop-cons}
use Rattle.std.proofs.lemmas.Bool.Decides.{nat_tests}
use Rattle.digits.specs.Digits.{Digits, value, none, digit_of, value_of, digits_value, digits_of_sum}

-- values of bytes added up after v, top digit first
unfoldable pub sum_from : ℕ → List ℕ → ℕ
sum_from v [] = v
sum_from v (b ∷ bs) = sum_from (v * 16 + value_of b) bs

-- what adds up to 2^32 stays above it
sum_large : (v : ℕ) (xs : List ℕ) → 4294967296 ≤ v → 4294967296 ≤ sum_from v xs
unfolding sum_from
sum_large v [] h = h
sum_large v (b ∷ bs) h = sum_large (v * 16 + value_of b) bs (omega arith)

sum_value : (v : ℕ) (xs : List ℕ) (r : ℕ) → digits_value v xs ≡ value r → sum_from v xs ≡ r
unfolding digits_value sum_from value_of
sum_value v [] r e = cc
sum_value v (b ∷ bs) r e = grind (arith, nat_tests, sum_value (v * 16 + digit_of b) bs r)

sum_not : (v : ℕ) (xs : List ℕ) → digits_value v xs ≡ none → 4294967296 ≤ sum_from v xs
unfolding digits_value sum_from value_of
sum_not v [] e = absurd (cc)
sum_not v (b ∷ bs) e = grind (arith, nat_tests, sum_large (v * 16 + 4294967296) bs, sum_not (v * 16 + digit_of b) bs)

pub value_bound : (b : ℕ) → value_of b ≤ 4294967296
unfolding value_of
value_bound b = grind (arith, nat_tests)

pub value_fits : (b d : ℕ) → d ≡ value_of b → d ≤ 4294967296
value_fits b d e = rw e (value_bound b)

-- one byte: the next place, with the sum so far
pub sum_more : (s : List ℕ) (v k d : ℕ) → k < length s → d ≡ value_of (get_or s k 0)
    → sum_from v (drop k s) ≡ sum_from (v * 16 + d) (drop (k + 1) s)
unfolding sum_from
sum_more s v k d h is = rw (drop-cons s k 0, add-one k, is)

-- the bound of a sum of k values
pub bound_more : (v k d : ℕ) → 15 * v + 4294967296 ≤ 4294967296 * 16 ^ k → d ≤ 4294967296 → 15 * (v * 16 + d) + 4294967296 ≤ 4294967296 * 16 ^ (k + 1)
bound_more v k d a b = rw (add-one k, pow-suc 16 k) (omega arith)

pub power_below : (k : ℕ) → k ≤ 7 → 16 ^ k ≤ 268435456
power_below k h = pow-le-pow_right {n = 16} (omega arith) h

-- a field of n digits is below sixteen to the n
pub digits_bound : (v : ℕ) (xs : List ℕ) (r : ℕ) → digits_value v xs ≡ value r → r < (v + 1) * 16 ^ length xs
unfolding digits_value
digits_bound v [] r e = let q : v ≡ r = cc in omega arith
digits_bound v (b ∷ bs) r e =
    let l : digit_of b ≤ 15 = grind (arith, nat_tests) in
    let f : digits_value (v * 16 + digit_of b) bs ≡ value r = grind (arith, nat_tests) in
    let m : (v * 16 + digit_of b + 1) * 16 ^ length bs ≤ (v + 1) * 16 * 16 ^ length bs = mul-le-mul_right (16 ^ length bs) (omega arith) in
    rw (pow-succ' 16 (length bs)) (omega (arith, digits_bound (v * 16 + digit_of b) bs r f, mul_assoc (v + 1) 16 (16 ^ length bs)))

word_bound : (bs : List ℕ) (r : ℕ) → length bs ≡ 8 → digits_value 0 bs ≡ value r → r < 4294967296
word_bound bs r h e =
    let b = digits_bound 0 bs r e in
    let g : r < 1 * 16 ^ 8 = rw h at b in
    omega arith

-- eight digits, by their sum
pub eight : (bs : List ℕ) → length bs ≡ 8 → digits_value 0 bs ≡ digits_of_sum (sum_from 0 bs)
eight bs h = go (digits_value 0 bs) refl
  where
    go : (x : Digits) → digits_value 0 bs ≡ x → digits_value 0 bs ≡ digits_of_sum (sum_from 0 bs)
    go (value r) e = e ∙ grind (arith, nat_tests, sum_value 0 bs r e, word_bound bs r h e)
    go none e = e ∙ grind (arith, nat_tests, sum_not 0 bs e)
