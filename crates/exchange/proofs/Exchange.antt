-- Exchanges are reflexive, transitive, symmetric, and closed under a common front; they keep the length.
use mathlib.Core.Path.{◌≡◌, refl, ap, ◌∙◌}
use mathlib.Core.Bool.{Bool, true}
use Prim.Native.Nat.{suc}
use mathlib.Core.List.{List, [], ◌∷◌, ◌++◌}
use lib.ListN.{length}
use Rattle.exchange.specs.Exchange.{Exchange, here, later, Exchanges, done, step}

module _ {A : Type 0} (independent : A → A → Bool) where
  pub reflexive : (l : List A) → Exchanges independent l l
  reflexive l = done

  pub transitive : {l m r : List A} → Exchanges independent l m → Exchanges independent m r → Exchanges independent l r
  transitive done q = q
  transitive (step e p) q = step e (transitive p q)

  -- a common first element
  pub first : {f : A} {l r : List A} → Exchanges independent l r → Exchanges independent (f ∷ l) (f ∷ r)
  first done = done
  first (step e p) = step (later e) (first p)

  -- a common front
  pub front : (s : List A) {l r : List A} → Exchanges independent l r → Exchanges independent (s ++ l) (s ++ r)
  front [] p = p
  front (f ∷ s) p = first (front s p)

  exchange_length : {l r : List A} → Exchange independent l r → length l ≡ length r
  exchange_length (here h) = refl
  exchange_length (later e) = ap suc (exchange_length e)

  pub exchanges_length : {l r : List A} → Exchanges independent l r → length l ≡ length r
  exchanges_length done = refl
  exchanges_length (step e p) = exchange_length e ∙ exchanges_length p

  module _ (independent_sym : (f g : A) → independent f g ≡ true → independent g f ≡ true) where
    back : {l r : List A} → Exchange independent l r → Exchange independent r l
    back (here {f} {g} h) = here (independent_sym f g h)
    back (later e) = later (back e)

    pub symmetric : {l r : List A} → Exchanges independent l r → Exchanges independent r l
    symmetric done = done
    symmetric (step e p) = transitive (symmetric p) (step (back e) done)
