-- What a walk leaves in a table, whatever the table holds of a frame.
use Rattle.std.specs.Prelude.{ℕ, ◌+◌, List, [], ◌∷◌, get_or, set, ℤ}
use Rattle.displacement.specs.Displacement.{displacement}

-- A frame put into a table, by its place in the order, its place in the recording and its word: the word at its place in the order, or its
-- displacement at its place in the recording.
abbrev pub put_word : ℕ → ℕ → ℕ → List ℕ → List ℕ
put_word k p w out = set out k w

abbrev pub put_move : ℕ → ℕ → ℕ → List ℤ → List ℤ
put_move k p w out = set out p (displacement k p)

-- The frames of the recording ws at the places ps, which stand in the order from place k on, put into a table one after the other.
unfoldable pub laid : {A : Type 0} → (ℕ → ℕ → ℕ → List A → List A) → List ℕ → ℕ → List ℕ → List A → List A
laid put ws k [] out = out
laid put ws k (p ∷ ps) out = laid put ws (k + 1) ps (put k p (get_or ws p 0) out)
