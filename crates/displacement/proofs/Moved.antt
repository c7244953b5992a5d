-- What is written of places in the order they have there.
use Prim.Native.Nat.{ℕ, ◌+◌}
use mathlib.Core.Path.{◌≡◌, refl, ◌∙◌}
use mathlib.Core.List.{List, [], ◌∷◌, ◌++◌}
use native.Mathlib.Omega.{arith}
use lib.IntN.{ℤ}
use lib.ListN.{length, set, length-set}
use Rattle.displacement.specs.Displacement.{displacement, moved}

pub moved_length : (k : ℕ) (ps : List ℕ) (out : List ℤ) → length (moved k ps out) ≡ length out
unfolding moved
moved_length k [] out = refl
moved_length k (p ∷ ps) out = moved_length (k + 1) ps (set out p (displacement k p)) ∙ length-set out p (displacement k p)

pub moved_append : (k : ℕ) (ps qs : List ℕ) (out : List ℤ) → moved k (ps ++ qs) out ≡ moved (k + length ps) qs (moved k ps out)
unfolding moved
moved_append k [] qs out = let e : k ≡ k + 0 = omega arith in rw (← e)
moved_append k (p ∷ ps) qs out =
    let e : k + 1 + length ps ≡ k + length (p ∷ ps) = omega arith in
    moved_append (k + 1) ps qs (set out p (displacement k p)) ∙ rw e
