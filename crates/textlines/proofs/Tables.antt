-- A table of lines as one text: line n of the text is entry n, if each entry has one LF, at its end.
use Prim.Native.Nat.{ℕ, zero, suc, ◌<◌}
use mathlib.Core.Path.{◌≡◌, refl, ap}
use mathlib.Core.Bool.{Bool, true, false, cond}
use mathlib.Core.List.{List, [], ◌∷◌, ◌++◌}
use native.Mathlib.Omega.{arith}
use native.Mathlib.Nat.{not-suc-le-zero}
use borrow.Author.Tests.{ltb-true}
use lib.Dec.{eqb, ltb}
use lib.ListN.{length, get_or}
use lib.Seq.{take-append_seam, drop-append_seam}
use Rattle.laws.proofs.Logic.{never}
use Rattle.textlines.specs.Lines.{line_length, nth_line}

-- the entries, one behind the other
unfoldable pub joined : List (List ℕ) → List ℕ
joined [] = []
joined (l ∷ ls) = l ++ joined ls

unfoldable pub none : List ℕ → Bool
none [] = true
none (c ∷ t) = false

-- one LF, at the end
unfoldable pub is_line : List ℕ → Bool
is_line [] = false
is_line (c ∷ t) = cond (eqb c 10) (none t) (is_line t)

unfoldable pub are_lines : List (List ℕ) → Bool
are_lines [] = true
are_lines (l ∷ ls) = cond (is_line l) (are_lines ls) false

both : (a b : Bool) → cond a b false ≡ true → (a ≡ true) × (b ≡ true)
both true b e = (refl, e)
both false b e = never (cc)

last : (t : List ℕ) → none t ≡ true → 1 ≡ suc (length t)
unfolding none
last [] e = refl
last (c ∷ t) e = never (cc)

line_length_lem : (l r : List ℕ) → is_line l ≡ true → line_length (l ++ r) ≡ length l
unfolding is_line line_length
line_length_lem [] r e = never (cc)
line_length_lem (c ∷ t) r e = go (eqb c 10) e (line_length_lem t r)
  where
    go : (b : Bool) → cond b (none t) (is_line t) ≡ true → (is_line t ≡ true → line_length (t ++ r) ≡ length t)
        → cond b 1 (suc (line_length (t ++ r))) ≡ suc (length t)
    go true e h = last t e
    go false e h = ap suc (h e)

nth_entry : (ls : List (List ℕ)) (n : ℕ) → are_lines ls ≡ true → n < length ls → nth_line n (joined ls) ≡ get_or ls n []
unfolding joined are_lines nth_line
nth_entry [] n e h = absurd (not-suc-le-zero h)
nth_entry (l ∷ ls) zero e h = rw (line_length_lem l (joined ls) (both (is_line l) (are_lines ls) e).0) (take-append_seam l (joined ls))
nth_entry (l ∷ ls) (suc n) e h =
    let b = both (is_line l) (are_lines ls) e in
    rw (line_length_lem l (joined ls) b.0, drop-append_seam l (joined ls)) (nth_entry ls n b.1 (omega arith))

-- the same by tests that are computed
pub entry : (ls : List (List ℕ)) → are_lines ls ≡ true → (n : ℕ) → ltb n (length ls) ≡ true → nth_line n (joined ls) ≡ get_or ls n []
entry ls e n h = nth_entry ls n e (ltb-true n (length ls) h)
