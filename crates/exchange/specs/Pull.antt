-- Pulling the elements of one list, in their order, out of another, over any elements, any test that two are the same, and any of which are
-- independent.
use Rattle.std.specs.Prelude.{Bool, true, false, cond, List, [], ◌∷◌, Option, Some, None, option_map}

abbrev pub if_pulled : {A : Type 0} → Option (List A) → (List A → Bool) → Bool
if_pulled None k = false
if_pulled (Some l) k = k l

module _ {A : Type 0} (same independent : A → A → Bool) where
  -- The list without its first f, where only elements independent of f stand before that.
  unfoldable pub pull : A → List A → Option (List A)
  pull f [] = None
  pull f (g ∷ l) = cond (same f g) (Some l) (cond (independent f g) (option_map (λ r. g ∷ r) (pull f l)) None)

  -- Each element of the first list in turn can be pulled out of the second, and nothing is left of it.
  unfoldable pub pull_all : List A → List A → Bool
  pull_all [] [] = true
  pull_all [] (g ∷ r) = false
  pull_all (f ∷ l) r = if_pulled (pull f r) (pull_all l)
