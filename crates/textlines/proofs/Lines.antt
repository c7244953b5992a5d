-- Laws of the lines of a text.
use Prim.Native.Nat.{ℕ, suc, ◌+◌, ◌-◌, ◌<◌, ◌≤◌}
use mathlib.Core.Path.{◌≡◌, refl, ap, sym, ◌∙◌}
use mathlib.Core.Bool.{Bool, true, false, cond}
use Rattle.std.specs.Prelude.{Option, Some, None}
use Rattle.std.specs.Option.{MatchOption}
use Rattle.std.specs.List.{position_or_len, position_from}
use Rattle.std.proofs.lemmas.Iterator.Adapters.{position_from-zero}
use mathlib.Core.List.{List, [], ◌∷◌}
use native.Mathlib.Omega.{arith}
use lib.Dec.{eqb, ltb}
use lib.ListN.{length, take, drop, length-drop}
use lib.Seq.{drop-drop}
use Rattle.textlines.specs.Lines.{line_length, nth_line}

ends_from : (t : List ℕ) (i : ℕ) → MatchOption (position_from (λ b. eqb b 10) i t) (line_length t ≡ length t) (λ j. i + line_length t ≡ j + 1)
unfolding line_length
ends_from [] i = refl
ends_from (c ∷ t) i = step (eqb c 10) (position_from (λ b. eqb b 10) (i + 1) t) (ends_from t (i + 1))
  where
    step : (b : Bool) (r : Option ℕ) → MatchOption r (line_length t ≡ length t) (λ j. (i + 1) + line_length t ≡ j + 1)
        → MatchOption (cond b (Some i) r) (cond b 1 (suc (line_length t)) ≡ suc (length t)) (λ j. i + cond b 1 (suc (line_length t)) ≡ j + 1)
    step true r h = refl
    step false None h = ap suc h
    step false (Some j) h = omega (arith, h)

-- a line ends at the first LF, or where the text ends
pub line_ends : (t : List ℕ) (r : Option ℕ) → r ≡ cond (ltb (position_or_len (λ b. eqb b 10) t) (length t)) (Some (position_or_len (λ b. eqb b 10) t)) None → MatchOption r (line_length t ≡ length t) (λ j. line_length t ≡ j + 1)
line_ends t r e =
    let f : r ≡ position_from (λ b. eqb b 10) 0 t = e ∙ position_from-zero (λ b. eqb b 10) t in
    start r (rw (sym f) at (ends_from t 0))
  where
    start : (r : Option ℕ) → MatchOption r (line_length t ≡ length t) (λ j. 0 + line_length t ≡ j + 1) → MatchOption r (line_length t ≡ length t) (λ j. line_length t ≡ j + 1)
    start None h = h
    start (Some j) h = omega (arith, h)

length_bound : (t : List ℕ) → line_length t ≤ length t
unfolding line_length
length_bound [] = omega arith
length_bound (c ∷ t) = go (eqb c 10) refl (length_bound t)
  where
    go : (b : Bool) → eqb c 10 ≡ b → line_length t ≤ length t → line_length (c ∷ t) ≤ suc (length t)
    go true e h = rw e (omega arith)
    go false e h = rw e (omega (arith, h))

-- a line ends within the text
pub within : (t : List ℕ) (i : ℕ) → i ≤ length t → i + line_length (drop i t) ≤ length t
within t i p = let h = length_bound (drop i t) in let e = length-drop i t in omega (arith, h, e, p)

-- the lines behind the first k, as lines of what is left
pub next_line : (t : List ℕ) (i n k : ℕ) → k < n → nth_line (n - (k + 1)) (drop (i + line_length (drop i t)) t) ≡ nth_line (n - k) (drop i t)
unfolding nth_line
next_line t i n k h =
    let e : n - k ≡ suc (n - (k + 1)) = omega arith in rw e (sym (ap (nth_line (n - (k + 1))) (drop-drop (line_length (drop i t)) i t)))

-- the first line
pub first_line : (t : List ℕ) (i e : ℕ) → e ≡ i + line_length (drop i t) → take (e - i) (drop i t) ≡ nth_line 0 (drop i t)
unfolding nth_line
first_line t i e h =
    let d : e - i ≡ line_length (drop i t) = omega (arith, h) in rw d
