-- Sets of locks as numbers: what two sets share, the set of all locks, and a lock of a set that is not empty.
use Prim.Native.Nat.{ℕ, zero, suc, ◌+◌, ◌-◌, ◌*◌, ◌^◌, ◌/◌, ◌%◌, ◌<◌, min}
use mathlib.Core.Path.{◌≡◌, refl, sym, ap, ◌∙◌}
use mathlib.Core.Bool.{true}
use native.Mathlib.Omega.{arith}
use native.Mathlib.Nat.{pow-succ', div-one, div-div-eq-div-mul}
use native.Mathlib.Decide.{ℕ_discrete}
use borrow.Author.Tests.{eq-eqb, eqb-true}
use lib.Bits.{bit_and, and_step, and_shr}
use lib.Pow.{pow_pos}
use Rattle.frame.specs.Limits.{lock_count, all_locks}
use Rattle.frame.specs.declared.Lock.{Lock}
use Rattle.instrumented.specs.Rules.{contains}

-- bit m of a number
abbrev pub bit : ℕ → ℕ → ℕ
bit s m = s / 2 ^ m % 2

-- bit 0 is the remainder, and each next bit is one of the half
pub bit_zero : (s : ℕ) → bit s 0 ≡ s % 2
bit_zero s = ap (λ (n : ℕ). n % 2) (div-one s)

pub bit_suc : (s m : ℕ) → bit s (suc m) ≡ bit (s / 2) m
bit_suc s m = ap (λ (n : ℕ). n % 2) (ap (λ (n : ℕ). s / n) (pow-succ' 2 m) ∙ sym (div-div-eq-div-mul s 2 (2 ^ m)))

-- a bit of what two numbers share is the lesser of their bits
low : (n q r s : ℕ) → n ≡ q * 2 + min (r % 2) (s % 2) → n % 2 ≡ min (r % 2) (s % 2)
low n q r s e = omega arith

bit_and_lem : (a b m : ℕ) → bit (bit_and a b) m ≡ min (bit a m) (bit b m)
bit_and_lem a b m =
    ap (λ (n : ℕ). n % 2) (and_shr a b m)
    ∙ low _ (bit_and (a / 2 ^ m / 2) (b / 2 ^ m / 2)) (a / 2 ^ m) (b / 2 ^ m) (and_step (a / 2 ^ m) (b / 2 ^ m))

-- a lock is in what two sets share if it is in both
pub and_holds : (a b : ℕ) (l : Lock) → contains a l ≡ true → contains b l ≡ true → contains (bit_and a b) l ≡ true
and_holds a b l p q =
    eq-eqb _ 1 (bit_and_lem a b l.0 ∙ meet _ _ (eqb-true _ 1 p) (eqb-true _ 1 q))
  where
    meet : (x y : ℕ) → x ≡ 1 → y ≡ 1 → min x y ≡ 1
    meet x y e f = omega arith

-- and in both if it is in what they share
pub and_holds_both : (a b : ℕ) (l : Lock) → contains (bit_and a b) l ≡ true → (contains a l ≡ true) × (contains b l ≡ true)
and_holds_both a b l p =
    let e : min (bit a l.0) (bit b l.0) ≡ 1 = sym (bit_and_lem a b l.0) ∙ eqb-true _ 1 p in
    (eq-eqb _ 1 (left (a / 2 ^ l.0) (b / 2 ^ l.0) e), eq-eqb _ 1 (right (a / 2 ^ l.0) (b / 2 ^ l.0) e))
  where
    left : (x y : ℕ) → min (x % 2) (y % 2) ≡ 1 → x % 2 ≡ 1
    left x y e = omega arith

    right : (x y : ℕ) → min (x % 2) (y % 2) ≡ 1 → y % 2 ≡ 1
    right x y e = omega arith

-- 0 has no bit
pub none_in : (m : ℕ) → bit 0 m ≡ 0
none_in zero = refl
none_in (suc m) = bit_suc 0 m ∙ none_in m

-- the empty set has no lock
pub not_empty : (s : ℕ) (l : Lock) → contains s l ≡ true → s ≡ 0 → ⊥
not_empty s l p e =
    let z : bit s l.0 ≡ 1 = eqb-true _ 1 p in
    let y : bit s l.0 ≡ 0 = ap (λ (n : ℕ). bit n l.0) e ∙ none_in l.0 in
    let x : ◌≡◌ {A = ℕ} 0 1 = sym y ∙ z in omega arith

-- 2 ^ k - 1 has all bits below k
all_in : (k m : ℕ) → m < k → bit (2 ^ k - 1) m ≡ 1
all_in zero m h = absurd (omega arith)
all_in (suc k) zero h = bit_zero (2 ^ suc k - 1) ∙ omega (arith, pow-succ' 2 k, pow_pos k)
all_in (suc k) (suc m) h =
    bit_suc (2 ^ suc k - 1) m ∙ ap (λ (n : ℕ). bit n m) (omega (arith, pow-succ' 2 k)) ∙ all_in k m (omega arith)

-- every lock is in the full set
pub full_holds : (l : Lock) → l.0 < lock_count → contains all_locks l ≡ true
full_holds l h = eq-eqb _ 1 (all_in lock_count l.0 h)

-- a number other than 0 has a bit
some_bit : (k s : ℕ) → 0 < s → s < 2 ^ k → (m : ℕ) × (m < k) × (bit s m ≡ 1)
some_bit zero s p h = absurd (omega arith)
some_bit (suc k) s p h = go (ℕ_discrete (s % 2) 1) (λ q. some_bit k (s / 2) q (omega (arith, pow-succ' 2 k)))
  where
    go : Dec (s % 2 ≡ 1) → (0 < s / 2 → (m : ℕ) × (m < k) × (bit (s / 2) m ≡ 1)) → (m : ℕ) × (m < suc k) × (bit s m ≡ 1)
    go (yes e) ih = (0, omega arith, bit_zero s ∙ e)
    go (no n) ih = let r : (m : ℕ) × (m < k) × (bit (s / 2) m ≡ 1) = ih (omega arith) in (suc r.0, omega arith, bit_suc s r.0 ∙ r.2)

-- a set that is not empty has a lock
pub some_lock : (s : ℕ) → 0 < s → s < 18446744073709551616 → (m : ℕ) × (m < lock_count) × (contains s (record { 0 = m }) ≡ true)
some_lock s p h = let r : (m : ℕ) × (m < lock_count) × (bit s m ≡ 1) = some_bit lock_count s p h in (r.0, r.1, eq-eqb _ 1 r.2)
