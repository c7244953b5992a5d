-- The set of the locks that a thread holds, as the owners change: an acquire adds the lock, a release takes it off.
use Prim.Native.Nat.{ℕ, zero, suc, ◌+◌, ◌*◌, ◌^◌, ◌<◌, ◌≤◌}
use mathlib.Core.Bool.{Bool, true, false, cond}
use mathlib.Core.Path.{◌≡◌, ◌∙◌, ap, refl}
use mathlib.Core.List.{List, [], ◌∷◌}
use native.Mathlib.Omega.{arith}
use native.Mathlib.Nat.{pow-succ', mul_left_comm, one-mul, zero-mul}
use borrow.Author.Tests.{eq-eqb, ne_eqb}
use lib.Dec.{eqb}
use lib.ListN.{length, get_or, set, replicate}
use Rattle.instrumented.specs.Held.{held_set}

-- 1 if an owner is thread t
abbrev pub mine : ℕ → ℕ → ℕ
mine t o = cond (eqb o (t + 1)) 1 0

bit_le : (b : Bool) → cond b 1 0 ≤ 1
bit_le true = omega arith
bit_le false = omega arith

-- one store to the owners, for any thread
held_set_lem : (t : ℕ) (os : List ℕ) (m x : ℕ) → m < length os → held_set t (set os m x) + mine t (get_or os m 0) * 2 ^ m ≡ held_set t os + mine t x * 2 ^ m
held_set_lem t [] m x h = omega arith
held_set_lem t (o ∷ os) zero x h = omega arith
held_set_lem t (o ∷ os) (suc m) x h =
    let ih : held_set t (set os m x) + mine t (get_or os m 0) * 2 ^ m ≡ held_set t os + mine t x * 2 ^ m = held_set_lem t os m x (omega arith) in
    let a : mine t (get_or os m 0) * 2 ^ suc m ≡ 2 * (mine t (get_or os m 0) * 2 ^ m) = rw pow-succ' (mul_left_comm _ _ _) in
    let b : mine t x * 2 ^ suc m ≡ 2 * (mine t x * 2 ^ m) = rw pow-succ' (mul_left_comm _ _ _) in
    omega arith

pub held_lt : (t : ℕ) (os : List ℕ) → held_set t os < 2 ^ length os
held_lt t [] = omega arith
held_lt t (o ∷ os) = omega (arith, held_lt t os, pow-succ' 2 (length os), bit_le (eqb o (t + 1)))

-- a thread that neither lets go nor takes
pub held_same : (os : List ℕ) (m x : ℕ) → m < length os → (t : ℕ) → mine t (get_or os m 0) ≡ mine t x → held_set t (set os m x) ≡ held_set t os
held_same os m x h t e = omega (arith, held_set_lem t os m x h, ap (λ (n : ℕ). n * 2 ^ m) e)

pub mine_own : (t : ℕ) → mine t (t + 1) ≡ 1
mine_own t = ap (λ (b : Bool). cond b 1 0) (eq-eqb (t + 1) (t + 1) refl)

pub mine_other : (t o : ℕ) → (o ≡ t + 1 → ⊥) → mine t o ≡ 0
mine_other t o e = ap (λ (b : Bool). cond b 1 0) (ne_eqb o (t + 1) e)

pub held_none : (t n : ℕ) → held_set t (replicate n 0) ≡ 0
held_none t zero = refl
held_none t (suc n) = omega (arith, held_none t n, mine_other t 0 (omega arith))

-- a thread takes a free lock
pub held_take : (os : List ℕ) (m t : ℕ) → m < length os → get_or os m 0 ≡ 0 → held_set t (set os m (t + 1)) ≡ held_set t os + 2 ^ m
held_take os m t h e =
    omega (
      arith,
      held_set_lem t os m (t + 1) h,
      ap (λ (n : ℕ). n * 2 ^ m) (ap (mine t) e ∙ mine_other t 0 (omega arith)),
      ap (λ (n : ℕ). n * 2 ^ m) (mine_own t),
      one-mul (2 ^ m),
      zero-mul (2 ^ m),
    )

-- a thread frees its lock
pub held_free : (os : List ℕ) (m t : ℕ) → m < length os → get_or os m 0 ≡ t + 1 → held_set t (set os m 0) + 2 ^ m ≡ held_set t os
held_free os m t h e =
    omega (
      arith,
      held_set_lem t os m 0 h,
      ap (λ (n : ℕ). n * 2 ^ m) (ap (mine t) e ∙ mine_own t),
      ap (λ (n : ℕ). n * 2 ^ m) (mine_other t 0 (omega arith)),
      one-mul (2 ^ m),
      zero-mul (2 ^ m),
    )
