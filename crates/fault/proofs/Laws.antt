-- Laws of the digits that stand first on a line: where they end, and one column further.
use Prim.Native.Nat.{ℕ, zero, suc, ◌-◌, ◌≤◌}
use mathlib.Core.Path.{◌≡◌, refl, ap, ◌∙◌}
use mathlib.Core.Bool.{Bool, true, false, cond}
use mathlib.Core.List.{List, [], ◌∷◌}
use native.Mathlib.Omega.{arith}
use native.Mathlib.Numerals.{one-add}
use borrow.Author.Tests.{lt-ltb, ltb-true}
use lib.Dec.{ltb}
use lib.ListN.{take}
use Rattle.std.specs.List.{prefix_len}
use Rattle.fault.specs.Fault.{is_digit, leading}

-- the last of the digits, a capital letter or none
pub capital : (b : ℕ) → 65 ≤ b → ltb (cond (ltb b 71) (b - 55) 16) 16 ≡ ltb b 71
capital b h = go (ltb b 71) refl
  where
    go : (t : Bool) → ltb b 71 ≡ t → ltb (cond t (b - 55) 16) 16 ≡ t
    go true e = lt-ltb (b - 55) 16 (omega (arith, ltb-true b 71 e))
    go false e = refl

pub leading_most : (n : ℕ) (t : List ℕ) → leading n t ≤ n
unfolding leading
leading_most zero t = omega arith
leading_most (suc n) [] = omega arith
leading_most (suc n) (b ∷ t) = go (is_digit b) (leading_most n t)
  where
    go : (d : Bool) → leading n t ≤ n → cond d (suc (leading n t)) 0 ≤ suc n
    go true h = omega arith
    go false h = omega arith

-- they are the digits that stand first among the first n bytes
pub leading_prefix : (n : ℕ) (t : List ℕ) → prefix_len is_digit (take n t) ≡ leading n t
unfolding leading
leading_prefix zero t = refl
leading_prefix (suc n) [] = refl
leading_prefix (suc n) (b ∷ t) = ap (λ k. cond (is_digit b) k 0) (one-add _ ∙ ap suc (leading_prefix n t))
