-- Matching the elements of a list with the n places of another decides exchanges, over any elements, any thread of each, and any test of a
-- clash. `next` has for each thread where to look for its next element; what is not matched stands at `next` of its thread or later. `last`
-- has for each element one more than the last place matched of what clashes with it, 0 for none.
-- The list goes on well (`Well`) if exchanges lead from it to what is not matched, and each of that stands at `last` or later. A turn finds
-- the place p of the first of w's thread that is not matched. If all goes well with w in front, w stands at p, which is `last` or later, and
-- all goes well behind it (`well_fits`, `well_on`); and the other way round (`well_back`): an element before p that clashes with w would stand
-- before its `last`.
use Prim.Native.Nat.{ℕ, zero, suc, ◌+◌, ◌≤◌, ◌<◌}
use mathlib.Core.Path.{◌≡◌, refl, sym, ap, ◌∙◌, subst}
use mathlib.Core.Bool.{Bool, true, false, cond, not, ◌&&◌, false≢true}
use mathlib.Core.Logic.{◌↔◌}
use mathlib.Core.List.{List, [], ◌∷◌}
use native.Mathlib.Omega.{arith}
use lib.Dec.{eqb, leb, ltb}
use lib.ListN.{length, get_or, drop, drop_of_length-le}
use lib.Seq.{drop-cons}
use borrow.Author.Tests.{eqb-true, eqb-false, eq-eqb, ne_eqb, ltb-true, ltb-false, leb-true, leb-false, le-leb, lt-leb}
use Rattle.laws.proofs.Logic.{from_here}
use Rattle.exchange.specs.Exchange.{Exchanges, done}
use Rattle.exchange.specs.Found.{Found}
use Rattle.exchange.proofs.Exchange.{transitive, first}
use Rattle.exchange.proofs.Pull.{Pulled, found, past, pulled_length, pulled_exchanges, pulled_out}

module _ {A : Type 0} (thread : A → ℕ) (at : ℕ → A) where
  -- What is not matched of the m places from k on.
  pub rest : (ℕ → ℕ) → ℕ → ℕ → List A
  rest next zero k = []
  rest next (suc m) k = cond (leb (next (thread (at k))) k) (at k ∷ rest next m (suc k)) (rest next m (suc k))

  rest_none : (next : ℕ → ℕ) (m k : ℕ) → length (rest next m k) ≡ 0 → (j : ℕ) → k ≤ j → j < k + m → next (thread (at j)) ≤ j → ⊥
  unfolding rest
  rest_none next zero k e j a b o = omega arith
  rest_none next (suc m) k e j a b o = go (eqb k j) refl (leb (next (thread (at k))) k) refl e (λ h c. rest_none next m (suc k) h j c (omega arith) o)
    where
      go : (x : Bool) → eqb k j ≡ x → (y : Bool) → leb (next (thread (at k))) k ≡ y → length (cond y (at k ∷ rest next m (suc k)) (rest next m (suc k))) ≡ 0
          → (length (rest next m (suc k)) ≡ 0 → suc k ≤ j → ⊥) → ⊥
      go x p true q h ih = omega arith
      go true p false q h ih = let z = subst (λ i. next (thread (at i)) ≤ i) (sym (eqb-true k j p)) o in omega (arith, leb-false (next (thread (at k))) k q)
      go false p false q h ih = ih h (omega (arith, eqb-false k j p))

  -- The turn that matches place p, the first of w's thread.
  module _ {n : ℕ} (next next' : ℕ → ℕ) (w : A) (p : ℕ) (f : Found thread at n (thread w) (next (thread w)) p)
      (moved : (u : ℕ) → next' u ≡ cond (eqb (thread w) u) (suc p) (next u)) where
    -- it changes nothing at another place
    same_open : (k : ℕ) → (k ≡ p → ⊥) → leb (next' (thread (at k))) k ≡ leb (next (thread (at k))) k
    same_open k h = rw (moved (thread (at k))) (go (eqb (thread w) (thread (at k))) refl)
      where
        side : (b : Bool) → leb (suc p) k ≡ b → thread (at k) ≡ thread w → (c : Bool) → leb (next (thread w)) k ≡ c → b ≡ c
        side true q e true r = refl
        side false q e false r = refl
        side true q e false r = absurd (omega (arith, leb-true (suc p) k q, leb-false (next (thread w)) k r, f.onward))
        side false q e true r = absurd (f.passed k (leb-true _ _ r) (omega (arith, h, leb-false (suc p) k q)) e)

        go : (b : Bool) → eqb (thread w) (thread (at k)) ≡ b → leb (cond b (suc p) (next (thread (at k)))) k ≡ leb (next (thread (at k))) k
        go false e = refl
        go true e = rw (← eqb-true (thread w) (thread (at k)) e) (side _ refl (sym (eqb-true _ _ e)) _ refl)

    rest_same : (m k : ℕ) → p < k → rest next m k ≡ rest next' m k
    unfolding rest
    rest_same zero k h = refl
    rest_same (suc m) k h = rw (same_open k (λ e. omega arith), rest_same m (suc k) (omega arith))

    module _ (k : ℕ) (e : k ≡ p) (mine : thread (at p) ≡ thread w) where
      was_open : leb (next (thread (at k))) k ≡ true
      was_open = rw (e, mine) (le-leb _ _ f.onward)

      is_shut : leb (next' (thread (at k))) k ≡ false
      is_shut = rw (moved (thread (at k)), e, mine, eq-eqb (thread w) (thread w) refl) (lt-leb (suc p) p (omega arith))

    pull : (i : A → A → Bool) → w ≡ at p → ((k : ℕ) → k < p → next (thread (at k)) ≤ k → i w (at k) ≡ true)
        → (m k : ℕ) → k ≤ p → p < k + m → Pulled i w (rest next m k) (rest next' m k)
    unfolding rest
    pull i e clear zero k a b = absurd (omega arith)
    pull i e clear (suc m) k a b = go (eqb k p) refl (λ c. pull i e clear m (suc k) c (omega arith))
      where
        side : (b : Bool) → leb (next (thread (at k))) k ≡ b → k < p → (l r : List A) → Pulled i w l r → Pulled i w (cond b (at k ∷ l) l) (cond b (at k ∷ r) r)
        side true q h l r x = past (clear k h (leb-true _ _ q)) x
        side false q h l r x = x

        go : (b : Bool) → eqb k p ≡ b → (suc k ≤ p → Pulled i w (rest next m (suc k)) (rest next' m (suc k))) → Pulled i w (rest next (suc m) k) (rest next' (suc m) k)
        go true q ih =
            let z = eqb-true k p q in
            let y = sym (ap thread e) in
            rw (was_open k z y, is_shut k z y, rest_same m (suc k) (omega arith)) (found (e ∙ ap at (sym z)))
        go false q ih = rw (same_open k (eqb-false k p q)) (side _ refl (omega (arith, eqb-false k p q)) _ _ (ih (omega (arith, eqb-false k p q))))

    -- the other way round: what can be pulled out stands at p
    record Unpulled (i : A → A → Bool) (m k : ℕ) (r : List A) : Type 0 where
      inside : p < k + m
      is : w ≡ at p
      left : r ≡ rest next' m k
      clear : (j : ℕ) → k ≤ j → j < p → next (thread (at j)) ≤ j → i w (at j) ≡ true

    unpull : (i : A → A → Bool) → ((g : A) → i w g ≡ true → thread g ≡ thread w → ⊥) → (m k : ℕ) → k + m ≡ n → k ≤ p → (r : List A)
        → Pulled i w (rest next m k) r → Unpulled i m k r
    unfolding rest
    unpull i irr zero k e a r x = elim x [ ]
    unpull i irr (suc m) k e a r x = go (eqb k p) refl (leb (next (thread (at k))) k) refl r x (λ c. unpull i irr m (suc k) (omega arith) c)
      where
        more : (k ≡ p → ⊥) → (b : Bool) → leb (next (thread (at k))) k ≡ b → (s : List A) → Unpulled i m (suc k) s → (next (thread (at k)) ≤ k → i w (at k) ≡ true)
            → Unpulled i (suc m) k (cond b (at k ∷ s) s)
        more h b q s u z = record {
          inside = omega (arith, u.inside);
          is = u.is;
          left = rw (same_open k h, q) (ap (λ l. cond b (at k ∷ l) l) u.left);
          clear = from_here (λ j. next (thread (at j)) ≤ j → i w (at j) ≡ true) k p z (λ j g o. u.clear j (omega arith) o);
        }

        go : (b : Bool) → eqb k p ≡ b → (c : Bool) → leb (next (thread (at k))) k ≡ c → (s : List A) → Pulled i w (cond c (at k ∷ rest next m (suc k)) (rest next m (suc k))) s
            → (suc k ≤ p → (t : List A) → Pulled i w (rest next m (suc k)) t → Unpulled i m (suc k) t) → Unpulled i (suc m) k s
        go true y true q s (found z) ih =
            let t = eqb-true k p y in
            let o = f.mine (omega arith) in
            record { inside = omega arith; is = z ∙ ap at t; left = rw (is_shut k t o) (rest_same m (suc k) (omega arith)); clear = λ j g h. absurd (omega arith) }
        go true y true q s (past z x) ih = absurd (irr (at k) z (ap (λ j. thread (at j)) (eqb-true k p y) ∙ f.mine (omega (arith, eqb-true k p y))))
        go true y false q s x ih = absurd (false≢true (sym q ∙ was_open k (eqb-true k p y) (f.mine (omega (arith, eqb-true k p y)))))
        go false y true q s (found z) ih = absurd (f.passed k (subst (λ g. next (thread g) ≤ k) (sym z) (leb-true _ _ q)) (omega (arith, eqb-false k p y)) (ap thread (sym z)))
        go false y true q s (past z x) ih = more (eqb-false k p y) true q _ (ih (omega (arith, eqb-false k p y)) _ x) (λ o. z)
        go false y false q s x ih = more (eqb-false k p y) false q s (ih (omega (arith, eqb-false k p y)) s x) (λ o. absurd (omega (arith, leb-false (next (thread (at k))) k q)))

-- Independence by threads and clashes.
abbrev pub apart : {A : Type 0} → (A → ℕ) → (A → A → Bool) → A → A → Bool
apart thread clash f g = not (eqb (thread f) (thread g)) && not (clash f g)

-- Place p is matched with w: `last` is raised to one more for what clashes with w, and for no other.
abbrev pub Raised : {A : Type 0} → (A → A → Bool) → (A → ℕ) → (A → ℕ) → A → ℕ → Type 0
Raised {A} clash last last' w p = (g : A) (k : ℕ) → last' g ≤ k ↔ ((last g ≤ k) × (clash w g ≡ true → p < k))

module _ {A : Type 0} (thread : A → ℕ) (clash : A → A → Bool) (at : ℕ → A) (n : ℕ) where
  apart_is : (f g : A) → (thread f ≡ thread g → ⊥) → (clash f g ≡ true → ⊥) → apart thread clash f g ≡ true
  apart_is f g h c = rw (ne_eqb (thread f) (thread g) h) (go (clash f g) refl)
    where
      go : (b : Bool) → clash f g ≡ b → not b ≡ true
      go true e = absurd (c e)
      go false e = refl

  apart_thread : (f g : A) → apart thread clash f g ≡ true → thread g ≡ thread f → ⊥
  apart_thread f g e q = false≢true (sym (rw (eq-eqb (thread f) (thread g) (sym q))) ∙ e)

  apart_clash : (f g : A) → apart thread clash f g ≡ true → clash f g ≡ true → ⊥
  apart_clash f g e q = go (eqb (thread f) (thread g)) (rw q at e)
    where
      go : (a : Bool) → (not a && false) ≡ true → ⊥
      go true h = false≢true h
      go false h = false≢true h

  pub record Well (next : ℕ → ℕ) (last : A → ℕ) (l : List A) : Type 0 where
    pub same : Exchanges (apart thread clash) l (rest thread at next n 0)
    pub later : (k : ℕ) → k < n → next (thread (at k)) ≤ k → last (at k) ≤ k

  pub well_end : (next : ℕ → ℕ) (last : A → ℕ) → length (rest thread at next n 0) ≡ 0 → Well next last []
  well_end next last e = record { same = go (rest thread at next n 0) e; later = λ k h o. absurd (rest_none thread at next n 0 e k (omega arith) (omega arith) o) }
    where
      go : (r : List A) → length r ≡ 0 → Exchanges (apart thread clash) [] r
      go [] q = done
      go (x ∷ r) q = absurd (omega arith)

  module _ (next : ℕ → ℕ) (last : A → ℕ) (w : A) (p : ℕ) (f : Found thread at n (thread w) (next (thread w)) p) where
    pub record Fits : Type 0 where
      pub inside : p < n
      pub is : w ≡ at p
      pub after : last w ≤ p

    pub fits_length : Fits → (next' : ℕ → ℕ) → ((u : ℕ) → next' u ≡ cond (eqb (thread w) u) (suc p) (next u)) → length (rest thread at next n 0) ≡ suc (length (rest thread at next' n 0))
    fits_length s next' moved = pulled_length (λ x y. true) (pull thread at next next' w p f moved (λ x y. true) s.is (λ k h o. refl) n 0 (omega arith) (omega (arith, s.inside)))

    out : (l : List A) → Well next last (w ∷ l) → (next' : ℕ → ℕ) (moved : (u : ℕ) → next' u ≡ cond (eqb (thread w) u) (suc p) (next u))
        → (r : List A) × (Exchanges (apart thread clash) l r × Unpulled thread at next next' w p f moved (apart thread clash) n 0 r)
    out l g next' moved =
        let k = pulled_out (apart thread clash) g.same in
        (k.left, (k.same, unpull thread at next next' w p f moved (apart thread clash) (apart_thread w) n 0 (omega arith) (omega arith) k.left k.pulled))

    pub well_fits : (l : List A) → Well next last (w ∷ l) → Fits
    well_fits l g =
        let u = (out l g (λ u. cond (eqb (thread w) u) (suc p) (next u)) (λ u. refl)).1.1 in
        let h : p < n = omega (arith, u.inside) in
        record { inside = h; is = u.is; after = rw u.is (g.later p h (rw (f.mine h) f.onward)) }

    module _ (next' : ℕ → ℕ) (last' : A → ℕ) (moved : (u : ℕ) → next' u ≡ cond (eqb (thread w) u) (suc p) (next u)) (raised : Raised clash last last' w p) (l : List A) where
      pub well_back : Fits → Well next' last' l → Well next last (w ∷ l)
      well_back s g = record {
        same = transitive (apart thread clash) (first (apart thread clash) g.same) (pulled_exchanges (apart thread clash) (pull thread at next next' w p f moved (apart thread clash) s.is clear n 0 (omega arith) (omega (arith, s.inside))));
        later = λ k h o. at_p k h o (eqb k p) refl;
      }
        where
          low : (k : ℕ) → (k ≡ p → ⊥) → k < n → next (thread (at k)) ≤ k → (last (at k) ≤ k) × (clash w (at k) ≡ true → p < k)
          low k q h o = (raised (at k) k).0 (g.later k h (leb-true _ _ (same_open thread at next next' w p f moved k q ∙ le-leb _ _ o)))

          clear : (k : ℕ) → k < p → next (thread (at k)) ≤ k → apart thread clash w (at k) ≡ true
          clear k h o =
              apart_is w (at k) (λ e. f.passed k (subst (λ t. next t ≤ k) (sym e) o) h (sym e))
              (λ c. let z = (low k (λ e. omega arith) (omega (arith, s.inside)) o).1 c in omega arith)

          at_p : (k : ℕ) → k < n → next (thread (at k)) ≤ k → (b : Bool) → eqb k p ≡ b → last (at k) ≤ k
          at_p k h o true q = rw (eqb-true k p q, ← s.is) s.after
          at_p k h o false q = (low k (eqb-false k p q) h o).0

      pub well_on : Well next last (w ∷ l) → Well next' last' l
      well_on g = record { same = subst (Exchanges (apart thread clash) l) u.1.1.left u.1.0; later = λ k h o. at_p k h o (eqb k p) refl }
        where
          u : (r : List A) × (Exchanges (apart thread clash) l r × Unpulled thread at next next' w p f moved (apart thread clash) n 0 r)
          u = out l g next' moved

          at_p : (k : ℕ) → k < n → next' (thread (at k)) ≤ k → (b : Bool) → eqb k p ≡ b → last' (at k) ≤ k
          at_p k h o true q = absurd (let z = is_shut thread at next next' w p f moved k (eqb-true k p q) (sym (ap thread u.1.1.is)) in omega (arith, leb-false (next' (thread (at k))) k z))
          at_p k h o false q = (raised (at k) k).1 (g.later k h y, λ c. side c (ltb p k) refl)
            where
              y : next (thread (at k)) ≤ k
              y = leb-true _ _ (sym (same_open thread at next next' w p f moved k (eqb-false k p q)) ∙ le-leb _ _ o)

              side : clash w (at k) ≡ true → (b : Bool) → ltb p k ≡ b → p < k
              side c true e = ltb-true p k e
              side c false e = absurd (apart_clash w (at k) (u.1.1.clear k (omega arith) (omega (arith, ltb-false p k e, eqb-false k p q)) y) c)

-- At the start nothing is matched, and all goes well exactly if exchanges lead from the one list to the other.
module _ {A : Type 0} (thread : A → ℕ) (clash : A → A → Bool) (r : List A) (d : A) (next : ℕ → ℕ) (last : A → ℕ) (next-none : (u : ℕ) → next u ≡ 0) (last_none : (f : A) → last f ≡ 0) where
  rest_start : (m k : ℕ) → k + m ≡ length r → rest thread (λ j. get_or r j d) next m k ≡ drop k r
  unfolding rest
  rest_start zero k e = let h : length r ≤ k = omega arith in sym (drop_of_length-le r h)
  rest_start (suc m) k e = rw (drop-cons r k d (omega arith), next-none (thread (get_or r k d)), le-leb 0 k (omega arith), rest_start m (suc k) (omega arith))

  pub rest_all : rest thread (λ j. get_or r j d) next (length r) 0 ≡ r
  rest_all = rest_start (length r) 0 (omega arith)

  pub well_start : (l : List A) → Well thread clash (λ j. get_or r j d) (length r) next last l ↔ Exchanges (apart thread clash) l r
  well_start l = (
    λ g. subst (Exchanges (apart thread clash) l) rest_all g.same,
    λ x. record { same = subst (Exchanges (apart thread clash) l) (sym rest_all) x; later = λ k h o. omega (arith, last_none (get_or r k d)) },
  )
