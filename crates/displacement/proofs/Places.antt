-- The places of a recording in another order, as exchanges of any neighbours make it: each occurs once; what is written of them are the
-- displacements; these add up to 0, lie below the recording's length, and lead from the recording to the order.
use Prim.Native.Nat.{ℕ, zero, suc, ◌+◌, ◌-◌, ◌<◌, ◌≤◌}
use mathlib.Core.Path.{◌≡◌, refl, sym, ◌∙◌, ap}
use mathlib.Core.Bool.{Bool, true, false, cond}
use mathlib.Core.List.{List, [], ◌∷◌, ◌++◌, map}
use native.Mathlib.Omega.{arith}
use borrow.Author.Tests.{eqb-true, eqb-false, eq-eqb, ne_eqb, ltb-true, ltb-false}
use lib.Dec.{eqb, ltb}
use lib.IntN.{ℤ, pos, nat_abs, ◌+ℤ◌, ◌-ℤ◌, +ℤ_assoc, +ℤ_comm, +ℤ-neg_ℤ_cancel, -ℤ-+ℤ_cancel, +ℤ_invr}
use lib.ListN.{length, get_or, set, drop, length-append, length-drop, length-map, length-set, get_or-append, get_or-map}
use lib.Seq.{ext_get_or, get_or-append-add, get_or-drop, get_or-set_same, get_or-set_other}
use Rattle.laws.proofs.Logic.{by_test}
use Rattle.laws.proofs.Lists.{same_default}
use Rattle.exchange.specs.Exchange.{Exchange, here, later, Exchanges, done, step}
use Rattle.exchange.proofs.Exchange.{exchanges_length}
use Rattle.displacement.specs.Displacement.{places_from, places, index_of, displacement, total, moved}
use Rattle.displacement.proofs.Numbers.{displacement_below, displacement_inner}
use Rattle.displacement.proofs.Moved.{moved_length}

-- Exchanges do not change what is gathered of a list's elements, where their order does not count.
module _ {A B : Type 0} (ind : A → A → Bool) (put : A → B → B) (turn : (a b : A) (y : B) → put a (put b y) ≡ put b (put a y)) (h : List A → B)
    (more : (a : A) (l : List A) → h (a ∷ l) ≡ put a (h l)) where
  gathered_one : {l r : List A} → Exchange ind l r → h l ≡ h r
  gathered_one (here {f} {g} {l} e) = more f (g ∷ l) ∙ (ap (put f) (more g l) ∙ (turn f g (h l) ∙ (sym (ap (put g) (more f l)) ∙ sym (more g (f ∷ l)))))
  gathered_one (later {f} {l} {r} e) = more f l ∙ (ap (put f) (gathered_one e) ∙ sym (more f r))

  gathered : {l r : List A} → Exchanges ind l r → h l ≡ h r
  gathered done = refl
  gathered (step e s) = gathered_one e ∙ gathered s

-- How often p occurs.
abbrev pub occurs : ℕ → List ℕ → ℕ
occurs p [] = 0
occurs p (q ∷ qs) = cond (eqb q p) (suc (occurs p qs)) (occurs p qs)

occurs_turn : (p a b n : ℕ) → cond (eqb a p) (suc (cond (eqb b p) (suc n) n)) (cond (eqb b p) (suc n) n) ≡ cond (eqb b p) (suc (cond (eqb a p) (suc n) n)) (cond (eqb a p) (suc n) n)
occurs_turn p a b n = go (eqb a p) (eqb b p)
  where
    go : (x y : Bool) → cond x (suc (cond y (suc n) n)) (cond y (suc n) n) ≡ cond y (suc (cond x (suc n) n)) (cond x (suc n) n)
    go true true = refl
    go true false = refl
    go false true = refl
    go false false = refl

-- in a recording's places
below_none : (p i : ℕ) (ws : List ℕ) → p < i → occurs p (places_from i ws) ≡ 0
unfolding places_from
below_none p i [] h = refl
below_none p i (w ∷ ws) h = rw (ne_eqb i p (λ e. omega arith)) (below_none p (i + 1) ws (omega arith))

above_none : (p i : ℕ) (ws : List ℕ) → i + length ws ≤ p → occurs p (places_from i ws) ≡ 0
unfolding places_from
above_none p i [] h = refl
above_none p i (w ∷ ws) h = rw (ne_eqb i p (λ e. omega arith)) (above_none p (i + 1) ws (omega arith))

within_once : (p i : ℕ) (ws : List ℕ) → i ≤ p → p < i + length ws → occurs p (places_from i ws) ≡ 1
unfolding places_from
within_once p i [] l h = absurd (omega arith)
within_once p i (w ∷ ws) l h = by_test (eqb i p)
    (λ b. rw b (ap suc (below_none p (i + 1) ws (omega (arith, eqb-true i p b)))))
    (λ b. rw b (within_once p (i + 1) ws (omega (arith, eqb-false i p b)) (omega arith)))

-- what occurs is found
pub index_below : (p : ℕ) (ps : List ℕ) → 0 < occurs p ps → index_of p ps < length ps
unfolding index_of
index_below p [] h = absurd (omega arith)
index_below p (q ∷ ps) h = go (eqb q p) h (index_below p ps)
  where
    go : (b : Bool) → 0 < cond b (suc (occurs p ps)) (occurs p ps) → (0 < occurs p ps → index_of p ps < length ps) → cond b 0 (index_of p ps + 1) < suc (length ps)
    go true k ih = omega arith
    go false k ih = omega (arith, ih k)

index_found : (p : ℕ) (ps : List ℕ) → 0 < occurs p ps → get_or ps (index_of p ps) 0 ≡ p
unfolding index_of
index_found p [] h = absurd (omega arith)
index_found p (q ∷ ps) h = go (eqb q p) refl h (index_found p ps)
  where
    go : (b : Bool) → eqb q p ≡ b → 0 < cond b (suc (occurs p ps)) (occurs p ps) → (0 < occurs p ps → get_or ps (index_of p ps) 0 ≡ p)
        → get_or (q ∷ ps) (cond b 0 (index_of p ps + 1)) 0 ≡ p
    go true e k ih = eqb-true q p e
    go false e k ih = let z : index_of p ps + 1 ≡ suc (index_of p ps) = omega arith in rw z (ih k)

-- an entry after the displacements of ps are written
moved_get : (k : ℕ) (ps : List ℕ) (out : List ℤ) (p : ℕ) → p < length out → occurs p ps ≤ 1
    → get_or (moved k ps out) p (pos 0) ≡ cond (eqb (occurs p ps) 0) (get_or out p (pos 0)) (displacement (k + index_of p ps) p)
unfolding moved index_of
moved_get k [] out p h o = refl
moved_get k (q ∷ ps) out p h o = go (eqb q p) refl o (moved_get (k + 1) ps after p long)
  where
    after : List ℤ
    after = set out q (displacement k q)

    long : p < length after
    long = omega (arith, length-set out q (displacement k q))

    go : (b : Bool) → eqb q p ≡ b → cond b (suc (occurs p ps)) (occurs p ps) ≤ 1
        → (occurs p ps ≤ 1 → get_or (moved (k + 1) ps after) p (pos 0) ≡ cond (eqb (occurs p ps) 0) (get_or after p (pos 0)) (displacement (k + 1 + index_of p ps) p))
        → get_or (moved (k + 1) ps after) p (pos 0)
        ≡ cond (eqb (cond b (suc (occurs p ps)) (occurs p ps)) 0) (get_or out p (pos 0)) (displacement (k + cond b 0 (index_of p ps + 1)) p)
    go true e m ih =
        let z : occurs p ps ≡ 0 = omega arith in
        let same : q ≡ p = eqb-true q p e in
        let y : k ≡ k + 0 = omega arith in
        ih (omega arith)
        ∙ rw (z) (rw same (get_or-set_same out p (displacement k p) (pos 0) h) ∙ ap (λ (n : ℕ). displacement n p) y)
    go false e m ih =
        let z : k + 1 + index_of p ps ≡ k + (index_of p ps + 1) = omega arith in
        ih m
        ∙ rw (z, get_or-set_other out q p (displacement k q) (pos 0) (λ s. eqb-false q p e (sym s)))

-- an entry of what a function makes of a list, and of a recording's places
mapped_get : {A B : Type 0} (f : A → B) (l : List A) (i : ℕ) (d : A) (z : B) → i < length l → get_or (map f l) i z ≡ f (get_or l i d)
mapped_get f l i d z h = same_default (map f l) i z (f d) (omega (arith, length-map l f)) ∙ get_or-map f l i d

places_get : (i k : ℕ) (ws : List ℕ) → k < length ws → get_or (places_from i ws) k 0 ≡ i + k
unfolding places_from
places_get i k [] h = absurd (omega arith)
places_get i zero (w ∷ ws) h = omega arith
places_get i (suc k) (w ∷ ws) h = places_get (i + 1) k ws (omega arith) ∙ omega arith

pub places_length : (i : ℕ) (ws : List ℕ) → length (places_from i ws) ≡ length ws
unfolding places_from
places_length i [] = refl
places_length i (w ∷ ws) = ap suc (places_length (i + 1) ws)

made_get : {A : Type 0} (f : ℕ → A) (p : ℕ) (ws : List ℕ) (z : A) → p < length ws → get_or (map f (places ws)) p z ≡ f p
made_get f p ws z h =
    let e : 0 + p ≡ p = omega arith in mapped_get f (places ws) p 0 z (omega (arith, places_length 0 ws)) ∙ (ap f (places_get 0 p ws h) ∙ rw e)

-- Totals: of a sum with its two ends changed about, of what a function makes of exchanged elements.
sums_turned : (a b c d : ℤ) → (a +ℤ b) +ℤ (c +ℤ d) ≡ (a +ℤ c) +ℤ (b +ℤ d)
sums_turned a b c d =
    +ℤ_assoc a b (c +ℤ d) ∙ (ap (λ (z : ℤ). a +ℤ z) (sym (+ℤ_assoc b c d) ∙ (ap (λ (z : ℤ). z +ℤ d) (+ℤ_comm b c) ∙ +ℤ_assoc c b d)) ∙ sym (+ℤ_assoc a c (b +ℤ d)))

same_total : (f : ℕ → ℤ) {l r : List ℕ} → Exchanges (λ x y. true) l r → total (map f l) ≡ total (map f r)
unfolding total
same_total f e =
    gathered (λ x y. true) (λ a z. f a +ℤ z)
    (λ a b z. sym (+ℤ_assoc (f a) (f b) z) ∙ (ap (λ (y : ℤ). y +ℤ z) (+ℤ_comm (f a) (f b)) ∙ +ℤ_assoc (f b) (f a) z)) (λ l. total (map f l)) (λ a l. refl) e

-- behind q, where it does not occur again, a place stands one further on
index_behind : (k q : ℕ) (qs ps : List ℕ) → occurs q ps ≡ 0
    → map (λ p. displacement (k + index_of p (q ∷ qs)) p) ps ≡ map (λ p. displacement (k + 1 + index_of p qs) p) ps
unfolding index_of
index_behind k q qs [] o = refl
index_behind k q qs (p ∷ ps) o = go (eqb p q) refl o (index_behind k q qs ps)
  where
    go : (b : Bool) → eqb p q ≡ b → cond b (suc (occurs q ps)) (occurs q ps) ≡ 0
        → (occurs q ps ≡ 0 → map (λ p. displacement (k + index_of p (q ∷ qs)) p) ps ≡ map (λ p. displacement (k + 1 + index_of p qs) p) ps)
        → displacement (k + cond (eqb q p) 0 (index_of p qs + 1)) p ∷ map (λ p. displacement (k + index_of p (q ∷ qs)) p) ps
        ≡ displacement (k + 1 + index_of p qs) p ∷ map (λ p. displacement (k + 1 + index_of p qs) p) ps
    go true e m ih = absurd (omega arith)
    go false e m ih =
        let z : k + (index_of p qs + 1) ≡ k + 1 + index_of p qs = omega arith in
        rw (ne_eqb q p (λ s. eqb-false p q e (sym s)), z) (ap (λ (l : List ℤ). displacement (k + 1 + index_of p qs) p ∷ l) (ih m))

-- the displacements of places that each occur once, and the places, add up to the places in the order
total_is : (k : ℕ) (ps : List ℕ) → ((p : ℕ) → occurs p ps ≤ 1)
    → total (map (λ p. displacement (k + index_of p ps) p) ps) +ℤ total (map pos ps) ≡ total (map pos (places_from k ps))
unfolding total places_from index_of
total_is k [] o = refl
total_is k (q ∷ qs) o =
    let first : k + index_of q (q ∷ qs) ≡ k = rw (eq-eqb q q refl) (omega arith) in
    let none : occurs q qs ≡ 0 = omega (arith, rw (eq-eqb q q refl) at (o q)) in
    rw (first, index_behind k q qs qs none)
    (sums_turned (displacement k q) (total (map (λ p. displacement (k + 1 + index_of p qs) p) qs)) (pos q) (total (map pos qs))
    ∙ (ap (λ (z : ℤ). z +ℤ (total (map (λ p. displacement (k + 1 + index_of p qs) p) qs) +ℤ total (map pos qs))) (-ℤ-+ℤ_cancel (pos k) (pos q))
    ∙ ap (λ (z : ℤ). pos k +ℤ z) (total_is (k + 1) qs (λ p. fewer p (o p)))))
  where
    fewer : (p : ℕ) → occurs p (q ∷ qs) ≤ 1 → occurs p qs ≤ 1
    fewer p h = go (eqb q p) h
      where
        go : (b : Bool) → cond b (suc (occurs p qs)) (occurs p qs) ≤ 1 → occurs p qs ≤ 1
        go true m = omega arith
        go false m = m

-- only the length counts
pub places_alike : (i : ℕ) (xs ys : List ℕ) → length xs ≡ length ys → places_from i xs ≡ places_from i ys
unfolding places_from
places_alike i [] [] e = refl
places_alike i [] (y ∷ ys) e = absurd (omega arith)
places_alike i (x ∷ xs) [] e = absurd (omega arith)
places_alike i (x ∷ xs) (y ∷ ys) e = ap (λ (l : List ℕ). i ∷ l) (places_alike (i + 1) xs ys (omega arith))

-- The places of a recording, in the order ps.
module _ (ws ps : List ℕ) (e : Exchanges (λ x y. true) (places ws) ps) where
  same_occurs : (p : ℕ) → occurs p (places ws) ≡ occurs p ps
  same_occurs p = gathered (λ x y. true) (λ q n. cond (eqb q p) (suc n) n) (occurs_turn p) (occurs p) (λ a l. refl) e

  once : (p : ℕ) → p < length ws → occurs p ps ≡ 1
  once p h = sym (same_occurs p) ∙ within_once p 0 ws (omega arith) (omega arith)

  none : (p : ℕ) → length ws ≤ p → occurs p ps ≡ 0
  none p h = sym (same_occurs p) ∙ above_none p 0 ws (omega arith)

  at_most_once : (p : ℕ) → occurs p ps ≤ 1
  at_most_once p = by_test (ltb p (length ws)) (λ b. omega (arith, once p (ltb-true p (length ws) b))) (λ b. omega (arith, none p (ltb-false p (length ws) b)))

  size : length ps ≡ length ws
  size = sym (exchanges_length (λ x y. true) e) ∙ places_length 0 ws

  pub in_order : (p : ℕ) → p < length ws → index_of p ps < length ws
  in_order p h = omega (arith, size, index_below p ps (omega (arith, once p h)))

  -- what stands in the order for p is what stands at p
  pub entry_of : (xs : List ℕ) (p : ℕ) → p < length ws → get_or (map (λ p. get_or xs p 0) ps) (index_of p ps) 0 ≡ get_or xs p 0
  entry_of xs p h =
      mapped_get (λ p. get_or xs p 0) ps (index_of p ps) 0 0 (omega (arith, size, in_order p h)) ∙ ap (λ (q : ℕ). get_or xs q 0) (index_found p ps (omega (arith, once p h)))

  abbrev shifts : List ℤ
  shifts = map (λ p. displacement (index_of p ps) p) (places ws)

  pub shift_of : (p : ℕ) → p < length ws → get_or shifts p (pos 0) ≡ displacement (index_of p ps) p
  shift_of p h = made_get (λ p. displacement (index_of p ps) p) p ws (pos 0) h

  pub shift_below : (p : ℕ) → p < length ws → nat_abs (get_or shifts p (pos 0)) < length ws
  shift_below p h = rw (shift_of p h) (displacement_below (length ws) (index_of p ps) p (in_order p h) h)

  -- and below that less 1, where some place comes after the first and some before the last
  pub shift_inner : (q : ℕ) → q < length ws → index_of 0 ps < index_of q ps → ((m : ℕ) → m + 1 ≡ length ws → 0 < index_of m ps)
      → (p : ℕ) → p < length ws → nat_abs (get_or shifts p (pos 0)) + 1 < length ws
  shift_inner q g first last p h =
      rw (shift_of p h) (displacement_inner (length ws) (index_of p ps) p (in_order p h) h (λ z. omega (arith, in_order q g, ap (λ (x : ℕ). index_of x ps) z)) (last p))

  pub shifts_length : length shifts ≡ length ws
  shifts_length = length-map (places ws) (λ p. displacement (index_of p ps) p) ∙ places_length 0 ws

  -- What is written of them are the displacements.
  pub moved_all : (out : List ℤ) → length ws ≤ length out → moved 0 ps out ≡ shifts ++ drop (length ws) out
  moved_all out h = ext_get_or (pos 0) (moved 0 ps out) (shifts ++ drop (length ws) out)
      (moved_length 0 ps out ∙ omega (arith, length-append shifts (drop (length ws) out), shifts_length, length-drop (length ws) out))
      (λ i l. let m : i < length out = omega (arith, moved_length 0 ps out) in
      moved_get 0 ps out i m (at_most_once i) ∙ by_test (ltb i (length ws)) (λ b. inside i (ltb-true i (length ws) b)) (λ b. behind i (ltb-false i (length ws) b)))
    where
      inside : (i : ℕ) → i < length ws
          → cond (eqb (occurs i ps) 0) (get_or out i (pos 0)) (displacement (0 + index_of i ps) i) ≡ get_or (shifts ++ drop (length ws) out) i (pos 0)
      inside i l =
          let z : 0 + index_of i ps ≡ index_of i ps = omega arith in
          rw (once i l, z) (sym (get_or-append shifts (drop (length ws) out) (pos 0) i (omega (arith, shifts_length)) ∙ shift_of i l))

      behind : (i : ℕ) → length ws ≤ i
          → cond (eqb (occurs i ps) 0) (get_or out i (pos 0)) (displacement (0 + index_of i ps) i) ≡ get_or (shifts ++ drop (length ws) out) i (pos 0)
      behind i l =
          let z : i ≡ length shifts + (i - length ws) = omega (arith, shifts_length) in
          let y : length ws + (i - length ws) ≡ i = omega arith in
          rw (none i l)
          (sym (ap (λ (n : ℕ). get_or (shifts ++ drop (length ws) out) n (pos 0)) z ∙ (get_or-append-add shifts (drop (length ws) out) (i - length ws) (pos 0)
          ∙ (get_or-drop (length ws) out (i - length ws) (pos 0) ∙ rw y))))

  -- They add up to 0.
  pub total_zero : total shifts ≡ pos 0
  total_zero =
      same_total (λ p. displacement (index_of p ps) p) e
      ∙ ((λ i. total (map (λ p. displacement (from p i) p) ps)) ∙ (sym (+ℤ-neg_ℤ_cancel (total (map (λ p. displacement (0 + index_of p ps) p) ps)) (total (map pos ps)))
      ∙ (ap (λ (z : ℤ). z -ℤ total (map pos ps)) (total_is 0 ps at_most_once ∙ back) ∙ +ℤ_invr (total (map pos ps)))))
    where
      from : (p : ℕ) → index_of p ps ≡ 0 + index_of p ps
      from p = omega arith

      back : total (map pos (places_from 0 ps)) ≡ total (map pos ps)
      back = ap (λ (l : List ℕ). total (map pos l)) (places_alike 0 ps ws size) ∙ same_total pos e

-- A list that has an element for each frame is what its entries at the recording's places make.
pub places_made : (xs ws : List ℕ) → length xs ≡ length ws → map (λ p. get_or xs p 0) (places ws) ≡ xs
places_made xs ws e = ext_get_or 0 (map (λ p. get_or xs p 0) (places ws)) xs (length-map (places ws) (λ p. get_or xs p 0) ∙ (places_length 0 ws ∙ sym e))
    (λ i h. made_get (λ p. get_or xs p 0) i ws 0 (omega (arith, length-map (places ws) (λ p. get_or xs p 0), places_length 0 ws)))
