-- The order lists places by their commits: of two places, the earlier with no later commit comes first. `ks` has the commit of each place.
use Prim.Native.Nat.{ℕ, zero, suc, ◌+◌, ◌<◌, ◌≤◌}
use mathlib.Core.Path.{◌≡◌, refl, ◌∙◌, ap}
use mathlib.Core.Bool.{Bool, true, false, cond}
use mathlib.Core.List.{List, [], ◌∷◌, ◌++◌}
use native.Mathlib.Omega.{arith}
use borrow.Author.Tests.{eqb-true, eqb-false, eq-eqb, ne_eqb}
use lib.Dec.{eqb}
use lib.ListN.{length, get_or}
use Rattle.laws.proofs.Logic.{by_test}
use Rattle.serial.specs.Order.{unit_at, units_from}
use Rattle.displacement.specs.Displacement.{places_from, places, index_of}
use Rattle.displacement.proofs.Places.{occurs, index_below}

-- a place in two lists one after the other: it occurs in the first, or not
index_first : (p : ℕ) (xs ys : List ℕ) → 0 < occurs p xs → index_of p (xs ++ ys) ≡ index_of p xs
unfolding index_of
index_first p [] ys h = absurd (omega arith)
index_first p (x ∷ xs) ys h = go (eqb x p) h (index_first p xs ys)
  where
    go : (b : Bool) → 0 < cond b (suc (occurs p xs)) (occurs p xs) → (0 < occurs p xs → index_of p (xs ++ ys) ≡ index_of p xs)
        → cond b 0 (index_of p (xs ++ ys) + 1) ≡ cond b 0 (index_of p xs + 1)
    go true k ih = refl
    go false k ih = ap (λ (n : ℕ). n + 1) (ih k)

index_second : (p : ℕ) (xs ys : List ℕ) → occurs p xs ≡ 0 → index_of p (xs ++ ys) ≡ length xs + index_of p ys
unfolding index_of
index_second p [] ys h = omega arith
index_second p (x ∷ xs) ys h = go (eqb x p) h (index_second p xs ys)
  where
    go : (b : Bool) → cond b (suc (occurs p xs)) (occurs p xs) ≡ 0 → (occurs p xs ≡ 0 → index_of p (xs ++ ys) ≡ length xs + index_of p ys)
        → cond b 0 (index_of p (xs ++ ys) + 1) ≡ suc (length xs) + index_of p ys
    go true k ih = absurd (omega arith)
    go false k ih = omega (arith, ih k)

-- a unit has the places of its commit, and no other
unit_below : (c p i : ℕ) (ks : List ℕ) → p < i → occurs p (unit_at c ks (places_from i ks)) ≡ 0
unfolding unit_at places_from
unit_below c p i [] h = refl
unit_below c p i (k ∷ ks) h = go (eqb k c) (unit_below c p (i + 1) ks (omega arith))
  where
    go : (b : Bool) → occurs p (unit_at c ks (places_from (i + 1) ks)) ≡ 0
        → occurs p (cond b (i ∷ unit_at c ks (places_from (i + 1) ks)) (unit_at c ks (places_from (i + 1) ks))) ≡ 0
    go true ih = rw (ne_eqb i p (λ e. omega arith)) ih
    go false ih = ih

-- another place before it, or not
same_occurs : (p i : ℕ) (xs : List ℕ) → (i ≡ p → ⊥) → (b : Bool) → occurs p (cond b (i ∷ xs) xs) ≡ occurs p xs
same_occurs p i xs ne true = rw (ne_eqb i p ne)
same_occurs p i xs ne false = refl

unit_has : (c p i x : ℕ) (ks : List ℕ) → p ≡ i + x → x < length ks → get_or ks x 0 ≡ c → 0 < occurs p (unit_at c ks (places_from i ks))
unfolding unit_at places_from
unit_has c p i x [] q h e = absurd (omega arith)
unit_has c p i zero (k ∷ ks) q h e = rw (eq-eqb k c e, eq-eqb i p (omega arith)) (omega arith)
unit_has c p i (suc x) (k ∷ ks) q h e =
    rw (same_occurs p i (unit_at c ks (places_from (i + 1) ks)) (λ z. omega arith) (eqb k c)) (unit_has c p (i + 1) x ks (omega arith) (omega arith) e)

unit_lacks : (c p i x : ℕ) (ks : List ℕ) → p ≡ i + x → x < length ks → (get_or ks x 0 ≡ c → ⊥) → occurs p (unit_at c ks (places_from i ks)) ≡ 0
unfolding unit_at places_from
unit_lacks c p i x [] q h e = absurd (omega arith)
unit_lacks c p i zero (k ∷ ks) q h e = rw (ne_eqb k c e) (unit_below c p (i + 1) ks (omega arith))
unit_lacks c p i (suc x) (k ∷ ks) q h e =
    same_occurs p i (unit_at c ks (places_from (i + 1) ks)) (λ z. omega arith) (eqb k c) ∙ unit_lacks c p (i + 1) x ks (omega arith) (omega arith) e

-- in it, places keep their sequence
unit_order : (c p q i x y : ℕ) (ks : List ℕ) → p ≡ i + x → q ≡ i + y → x < y → y < length ks → get_or ks x 0 ≡ c → get_or ks y 0 ≡ c
    → index_of p (unit_at c ks (places_from i ks)) < index_of q (unit_at c ks (places_from i ks))
unfolding unit_at places_from index_of
unit_order c p q i x y [] ep eq l h a b = absurd (omega arith)
unit_order c p q i x zero (k ∷ ks) ep eq l h a b = absurd (omega arith)
unit_order c p q i zero (suc y) (k ∷ ks) ep eq l h a b = rw (eq-eqb k c a, eq-eqb i p (omega arith), ne_eqb i q (λ z. omega arith)) (omega arith)
unit_order c p q i (suc x) (suc y) (k ∷ ks) ep eq l h a b =
    go (eqb k c) (unit_order c p q (i + 1) x y ks (omega arith) (omega arith) (omega arith) (omega arith) a b)
  where
    rest : List ℕ
    rest = unit_at c ks (places_from (i + 1) ks)

    go : (d : Bool) → index_of p rest < index_of q rest → index_of p (cond d (i ∷ rest) rest) < index_of q (cond d (i ∷ rest) rest)
    go true ih = rw (ne_eqb i p (λ z. omega arith), ne_eqb i q (λ z. omega arith)) (omega (arith, ih))
    go false ih = ih

-- among the units that commit at the m places from c on
module _ (ks : List ℕ) (p q : ℕ) (l : p < q) (h : q < length ks) (le : get_or ks p 0 ≤ get_or ks q 0) where
  units_order : (m c : ℕ) → c ≤ get_or ks p 0 → get_or ks q 0 < c + m → index_of p (units_from m c ks (places ks)) < index_of q (units_from m c ks (places ks))
  unfolding units_from
  units_order zero c a b = absurd (omega arith)
  units_order (suc m) c a b = by_test (eqb (get_or ks p 0) c)
      (λ z. by_test (eqb (get_or ks q 0) c) (λ y. both (eqb-true _ _ z) (eqb-true _ _ y)) (λ y. one (eqb-true _ _ z) (eqb-false _ _ y)))
      (λ z. none (eqb-false _ _ z) (units_order m (c + 1) (omega (arith, eqb-false (get_or ks p 0) c z)) (omega arith)))
    where
      unit : List ℕ
      unit = unit_at c ks (places_from 0 ks)

      rest : List ℕ
      rest = units_from m (c + 1) ks (places_from 0 ks)

      has : (x : ℕ) → x < length ks → get_or ks x 0 ≡ c → 0 < occurs x unit
      has x k e = unit_has c x 0 x ks (omega arith) k e

      lacks : (x : ℕ) → x < length ks → (get_or ks x 0 ≡ c → ⊥) → occurs x unit ≡ 0
      lacks x k e = unit_lacks c x 0 x ks (omega arith) k e

      both : get_or ks p 0 ≡ c → get_or ks q 0 ≡ c → index_of p (unit ++ rest) < index_of q (unit ++ rest)
      both e f = rw (index_first p unit rest (has p (omega arith) e), index_first q unit rest (has q h f))
          (unit_order c p q 0 p q ks (omega arith) (omega arith) l h e f)

      one : get_or ks p 0 ≡ c → (get_or ks q 0 ≡ c → ⊥) → index_of p (unit ++ rest) < index_of q (unit ++ rest)
      one e f = omega (arith, index_first p unit rest (has p (omega arith) e), index_below p unit (has p (omega arith) e), index_second q unit rest (lacks q h f))

      none : (get_or ks p 0 ≡ c → ⊥) → index_of p rest < index_of q rest → index_of p (unit ++ rest) < index_of q (unit ++ rest)
      none e ih = omega (arith, ih, index_second p unit rest (lacks p (omega arith) e), index_second q unit rest (lacks q h (λ f. e (omega arith))))

-- Where each commit is a place, and the commit of the place there, neither end of a recording of two or more places comes to the other.
module _ (ks : List ℕ) (own : (p : ℕ) → p < length ks → (get_or ks p 0 < length ks) × (get_or ks (get_or ks p 0) 0 ≡ get_or ks p 0)) (two : 1 < length ks) where
  abbrev order : List ℕ
  order = units_from (length ks) 0 ks (places ks)

  comes_first : (p q : ℕ) → p < q → q < length ks → get_or ks p 0 ≤ get_or ks q 0 → index_of p order < index_of q order
  comes_first p q l h le = units_order ks p q l h le (length ks) 0 (omega arith) (omega (arith, (own q h).0))

  -- some place comes after the first
  pub after_first : (q : ℕ) × (q < length ks) × (index_of 0 order < index_of q order)
  after_first = by_test (eqb (get_or ks 0 0) 0)
      (λ b. (1, two, comes_first 0 1 (omega arith) two (omega (arith, eqb-true (get_or ks 0 0) 0 b))))
      (λ b. let o = own 0 (omega arith) in
      (get_or ks 0 0, o.0, comes_first 0 (get_or ks 0 0) (omega (arith, eqb-false (get_or ks 0 0) 0 b)) o.0 (omega (arith, o.1))))

  -- and some before the last
  pub before_last : (m : ℕ) → suc m ≡ length ks → (p : ℕ) × (index_of p order < index_of m order)
  before_last m e = by_test (eqb (get_or ks m 0) m)
      (λ b. (0, comes_first 0 m (omega arith) (omega arith) (omega (arith, eqb-true (get_or ks m 0) m b, (own 0 (omega arith)).0))))
      (λ b. let o = own m (omega arith) in
      (get_or ks m 0, comes_first (get_or ks m 0) m (omega (arith, eqb-false (get_or ks m 0) m b, o.0)) (omega arith) (omega (arith, o.1))))
