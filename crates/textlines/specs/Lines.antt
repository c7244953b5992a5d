-- The lines of a text, each with its line end.
use Rattle.std.specs.Prelude.{ℕ, zero, suc, cond, List, [], ◌∷◌, take, drop, eqb}

-- The length of a text's first line, with its line end.
unfoldable pub line_length : List ℕ → ℕ
line_length [] = 0
line_length (c ∷ t) = cond (eqb c 10) 1 (suc (line_length t))

-- Line n of a text, counted from 0.
unfoldable pub nth_line : ℕ → List ℕ → List ℕ
nth_line zero t = take (line_length t) t
nth_line (suc n) t = nth_line n (drop (line_length t) t)
