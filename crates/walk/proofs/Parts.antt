-- A unit put into the part of a table that is lent for it, from a place on.
use Prim.Native.Nat.{ℕ, zero, suc, ◌+◌, ◌-◌, ◌<◌, ◌≤◌}
use mathlib.Core.Path.{◌≡◌, refl, sym, ap, ◌∙◌}
use mathlib.Core.List.{List, [], ◌∷◌, ◌++◌, append-nil}
use native.Mathlib.Omega.{arith}
use native.Mathlib.Numerals.{add-one}
use borrow.Rule.Slice.PartMut.{put_mid}
use lib.ListN.{length, get_or, take, drop, length-drop, take-append-drop, drop_of_length-le}
use Rattle.std.proofs.lemmas.List.{take_rest}
use Rattle.walk.specs.Laid.{laid}

-- what holds of 0, and behind each place below k, holds of k
pub behind_each : (P : ℕ → Type 0) {Q : ℕ → Type 0} → P 0 → ((o : ℕ) → Q o → P (o + 1)) → (k : ℕ) → ((o : ℕ) → o < k → Q o) → P k
behind_each P p s zero h = p
behind_each P p s (suc k) h = rw (← add-one k) (s k (h k (omega arith)))

-- A table that is lent from place f on, where frames are put into the part as into the table.
module _ {A : Type 0} (put : ℕ → ℕ → ℕ → List A → List A) (f : ℕ) (puts : (o p w : ℕ) (t : List A) → drop f (put (f + o) p w t) ≡ put o p w (drop f t))
    (leaves : (o p w : ℕ) (t : List A) → take f (put (f + o) p w t) ≡ take f t) where
  laid_in : (ws : List ℕ) (k : ℕ) (ps : List ℕ) (t : List A) → drop f (laid put ws (f + k) ps t) ≡ laid put ws k ps (drop f t)
  unfolding laid
  laid_in ws k [] t = refl
  laid_in ws k (p ∷ ps) t =
      let e : f + k + 1 ≡ f + (k + 1) = omega arith in
      rw (e, laid_in ws (k + 1) ps (put (f + k) p (get_or ws p 0) t), puts k p (get_or ws p 0) t)

  laid_before : (ws : List ℕ) (k : ℕ) (ps : List ℕ) (t : List A) → take f (laid put ws (f + k) ps t) ≡ take f t
  unfolding laid
  laid_before ws k [] t = refl
  laid_before ws k (p ∷ ps) t =
      let e : f + k + 1 ≡ f + (k + 1) = omega arith in
      rw (e, laid_before ws (k + 1) ps (put (f + k) p (get_or ws p 0) t), leaves k p (get_or ws p 0) t)

  pub laid_part : (ws : List ℕ) (k : ℕ) (ps : List ℕ) (t : List A) → f ≤ k → laid put ws k ps t ≡ take f t ++ laid put ws (k - f) ps (drop f t)
  laid_part ws k ps t h =
      let e : k ≡ f + (k - f) = omega arith in
      ap (λ (n : ℕ). laid put ws n ps t) e
      ∙ (sym (take-append-drop f (laid put ws (f + (k - f)) ps t)) ∙ rw (laid_before ws (k - f) ps t, laid_in ws (k - f) ps t))

  -- the table, after its part
  pub laid_whole : (ws : List ℕ) (k : ℕ) (ps : List ℕ) (t : List A) {ys : List A} → f ≤ k → ys ≡ laid put ws (k - f) ps (take (length t - f) (drop f t))
      → put_mid f (length t - f) t ys ≡ laid put ws k ps t
  laid_whole ws k ps t {ys} h e =
      rw (drop_of_length-le (drop f t) {i = length t - f} (omega (arith, length-drop f t)), append-nil ys, e, take_rest t f) (sym (laid_part ws k ps t h))
