-- A displacement fits a signed 32-bit number.
use mathlib.Core.Path.{◌≡◌, refl, ◌∙◌, sym, ap, subst}
use Prim.Native.Nat.{ℕ, zero, suc, ◌+◌, ◌-◌, ◌<◌, ◌≤◌}
use mathlib.Core.Bool.{Bool, true, false, cond}
use native.Mathlib.Omega.{arith}
use borrow.Author.Tests.{eqb-true, eqb-false, ltb-true, ltb-false}
use lib.Dec.{eqb, ltb}
use lib.IntN.{ℤ, pos, negsuc, nat_abs, sub_ℕ, ◌-ℤ◌}
use lib.Signed.{mag}
use mir.Syntax.{w32}
use mir.Val.{SFits, to_z, of_z}
use mir.Facts.{to_z-of_z}
use Rattle.laws.proofs.Logic.{by_test}
use Rattle.frame.specs.Limits.{most_frames}
use Rattle.displacement.specs.Displacement.{displacement}

sub_below : (a b m : ℕ) → a < m → b < m → nat_abs (sub_ℕ a b) < m
sub_below a b m h g = go (ltb a b) refl
  where
    go : (t : Bool) → ltb a b ≡ t → nat_abs (cond t (negsuc (b - suc a)) (pos (a - b))) < m
    go true e = omega (arith, ltb-true a b e)
    go false e = omega arith

-- a displacement between places below m lies below m in both directions
pub displacement_below : (m k p : ℕ) → k < m → p < m → nat_abs (displacement k p) < m
displacement_below m k zero h g = omega arith
displacement_below m k (suc p) h g = sub_below k (suc p) m h g

-- and below m less 1, where it does not lead from one end to the other
sub_inner : (a b m : ℕ) → a < m → b < m → 0 < b → (b + 1 ≡ m → 0 < a) → nat_abs (sub_ℕ a b) + 1 < m
sub_inner a b m h g z last = go (ltb a b) refl
  where
    go : (t : Bool) → ltb a b ≡ t → nat_abs (cond t (negsuc (b - suc a)) (pos (a - b))) + 1 < m
    go true e = by_test (eqb (b + 1) m)
        (λ y. omega (arith, ltb-true a b e, last (eqb-true (b + 1) m y)))
        (λ y. omega (arith, ltb-true a b e, eqb-false (b + 1) m y))
    go false e = omega (arith, ltb-false a b e)

pub displacement_inner : (m k p : ℕ) → k < m → p < m → (p ≡ 0 → k + 1 < m) → (p + 1 ≡ m → 0 < k) → nat_abs (displacement k p) + 1 < m
displacement_inner m k zero h g first last = let z = first refl in omega arith
displacement_inner m k (suc p) h g first last = sub_inner k (suc p) m h g (omega arith) last

-- `mag` is the absolute value, less 1 below 0
mag_small : (z : ℤ) → mag z ≤ nat_abs z
mag_small (pos n) = omega arith
mag_small (negsuc n) = omega arith

pub displacement_fits : (k p : ℕ) → k < most_frames → p < most_frames → SFits w32 (displacement k p)
displacement_fits k p h g = record { sfits = omega (arith, mag_small (displacement k p), displacement_below most_frames k p h g) }

-- the bits of a small number are read as the number
small_read : (p : ℕ) → p < most_frames → to_z w32 p ≡ pos p
small_read p h = to_z-of_z {w = w32} {z = pos p} (record { sfits = omega arith })

pub difference_read : (k p : ℕ) → k < most_frames → p < most_frames → to_z w32 k -ℤ to_z w32 p ≡ displacement k p
difference_read k p h g = ap (λ (z : ℤ). z -ℤ to_z w32 p) (small_read k h) ∙ ap (λ (z : ℤ). pos k -ℤ z) (small_read p g)

-- a displacement that is stored is read as it is
pub stored : (k p : ℕ) → k < most_frames → p < most_frames → {z : ℤ} → z ≡ displacement k p → to_z w32 (of_z w32 z) ≡ displacement k p
stored k p h g e = to_z-of_z (subst (SFits w32) (sym e) (displacement_fits k p h g)) ∙ e
