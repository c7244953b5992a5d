-- Laws of tests and of numbers.
use Prim.Native.Nat.{ℕ, ◌+◌, ◌≤◌, ◌<◌}
use mathlib.Core.Path.{◌≡◌, refl, sym, ◌∙◌}
use mathlib.Core.Bool.{Bool, true, false, cond}
use native.Mathlib.Omega.{arith}
use borrow.Author.Tests.{eqb-true, eqb-false, eq-eqb, ne_eqb}
use lib.Dec.{eqb}

-- what follows where `cc` has joined two constructors
pub never : {A : Type 0} → ◌≡◌ {A = ℕ} 0 1 → A
never z = absurd (omega arith)

-- what holds of both answers of a test holds of the test
pub either : {A : Type 0} (P : A → Type 0) (b : Bool) {x y : A} → P x → P y → P (cond b x y)
either P true p q = p
either P false p q = q

-- what holds at i and from i + 1 on holds from i on
pub from_here : (P : ℕ → Type 0) (i n : ℕ) → P i → ((j : ℕ) → i + 1 ≤ j → j < n → P j) → (j : ℕ) → i ≤ j → j < n → P j
from_here P i n p f j a b = go (eqb i j) refl
  where
    go : (t : Bool) → eqb i j ≡ t → P j
    go true q = rw (← eqb-true i j q) p
    go false q = f j (omega (arith, eqb-false i j q)) b

-- a test of equality, the other way round
pub eqb_sym : (m k : ℕ) → eqb m k ≡ eqb k m
eqb_sym m k = go (eqb m k) refl
  where
    go : (b : Bool) → eqb m k ≡ b → eqb m k ≡ eqb k m
    go true e = e ∙ sym (eq-eqb k m (sym (eqb-true m k e)))
    go false e = e ∙ sym (ne_eqb k m (λ z. eqb-false m k e (sym z)))

-- two cases by a test, each with its equation.
pub by_test {ℓ} : {C : Type ℓ} (b : Bool) → (b ≡ true → C) → (b ≡ false → C) → C
by_test true f g = f refl
by_test false f g = g refl
