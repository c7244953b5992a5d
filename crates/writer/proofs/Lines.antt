-- Lines written: one more behind those of the words before, and lines in a part of a text.
use Prim.Native.Nat.{ℕ, ◌+◌, ◌-◌, ◌*◌, ◌<◌}
use mathlib.Core.Path.{◌≡◌}
use mathlib.Core.List.{List, [], ◌++◌, append-nil}
use native.Mathlib.Omega.{arith}
use native.Mathlib.Numerals.{add-one}
use borrow.Rule.Slice.PartMut.{put_mid}
use lib.ListN.{length, get_or, take, drop, length-drop, drop_of_length-le}
use lib.Seq.{take-suc, drop-drop, length-take-le}
use Rattle.std.proofs.lemmas.Slice.{between_to_end}
use Rattle.digits.specs.Digits.{word_line, lines_of, pasted}
use Rattle.digits.proofs.Writing.{length_lines, lines_behind, part_next}

pub line_more : (words s text p : List ℕ) (i : ℕ) → i < length words → p ≡ word_line (get_or words i 0) → text ≡ lines_of (take i words) ++ drop (9 * i) s
    → put_mid (9 * i) (9 * i + 9 - 9 * i) text p ≡ lines_of (take (i + 1) words) ++ drop (9 * (i + 1)) s
line_more words s text p i h e f =
    let l : length (lines_of (take i words)) ≡ 9 * i = omega (arith, length_lines (take i words), length-take-le i words (omega arith)) in
    let n : 9 * i + 9 - 9 * i ≡ 9 = omega arith in
    let m : 9 * (i + 1) ≡ 9 * i + 9 = omega arith in
    rw (f, n, m, e, part_next (lines_of (take i words)) s (word_line (get_or words i 0)) (9 * i) 9 l, add-one i, take-suc words i 0 h, lines_behind (take i words) (get_or words i 0))

-- lines at the front of the part from a place on
pub in_place : (ws text : List ℕ) (at : ℕ) {out : List ℕ} → out ≡ lines_of ws ++ drop (9 * length ws) (take (length text - at) (drop at text))
    → put_mid at (length text - at) text out ≡ pasted text at (9 * length ws) (lines_of ws)
in_place ws text at {out} e =
    let t : take (length text - at) (drop at text) ≡ drop at text = between_to_end text at (length text) (omega arith) in
    let d : drop (length text - at) (drop at text) ≡ [] = drop_of_length-le (drop at text) (simp length-drop (omega arith)) in
    rw (e, t, d, drop-drop, append-nil)
