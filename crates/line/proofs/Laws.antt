-- Laws of lines: how many bytes there are, the line of fields with low digits alone, and fields written one behind the other.
use Rattle.std.specs.Prelude.{Option, Some, None}
use Prim.Native.Nat.{ℕ, ◌+◌, ◌≤◌}
use mathlib.Core.Path.{◌≡◌, refl}
use mathlib.Core.List.{List, ◌++◌}
use native.Mathlib.Omega.{arith}
use borrow.Rule.Slice.PartMut.{put_mid}
use lib.ListN.{length, take, drop, replicate, length-append, length-take, length-drop}
use lib.Seq.{drop_at}
use Rattle.digits.specs.Digits.{digits}
use Rattle.digits.proofs.Writing.{length_digits, digits_low, part_next}
use Rattle.line.specs.declared.Fields.{Fields}
use Rattle.line.specs.Line.{place_width, mark_field, held_mark, held_fields, line_length, fields_line}

-- the bytes of a line
pub length_fields_line : (f : Fields) → length (fields_line f) ≡ line_length
unfolding fields_line
length_fields_line f = simp (length-append, length_digits)

held_mark_lem : (m : Option ℕ) → digits place_width (mark_field place_width (held_mark m)) ≡ digits place_width (mark_field place_width m)
held_mark_lem (Some i) = digits_low place_width i
held_mark_lem None = refl

-- a line has the low digits of a place alone
pub held_line : (f : Fields) → fields_line (held_fields f) ≡ fields_line f
unfolding fields_line
held_line f = rw (digits_low place_width f.frame, held_mark_lem f.begin, held_mark_lem f.commit)

-- a line of LFs with the bytes ys written over its front
pub record Front (ys : List ℕ) (at : ℕ) (line : List ℕ) : Type 0 where
  pub long : length ys ≡ at
  pub is : line ≡ ys ++ drop at (replicate line_length 10)

-- which is a whole line
pub front_room : {ys line : List ℕ} {at : ℕ} (m : ℕ) → Front ys at line → at ≤ line_length → m ≤ line_length → m ≤ length line
front_room m f h k = rw (f.is, length-append, length-drop) (omega (arith, f.long))

-- n digits written over the first LFs
pub front_first : {xs : List ℕ} {v w : ℕ} (n : ℕ) → xs ≡ digits n w → w ≡ v → Front (digits n v) n (xs ++ drop n (replicate line_length 10))
front_first n e q = record { long = length_digits n _; is = rw (e, q) }

-- n digits written behind them, over a part of the line
pub front_next : {ys line xs : List ℕ} {at v w : ℕ} (n : ℕ) → Front ys at line → at + n ≤ line_length
    → xs ≡ digits (length (take n (drop at line))) w → w ≡ v → Front (ys ++ digits n v) (at + n) (put_mid at n line xs)
front_next {ys} {line} {xs} {at} {v} {w} n f h e q =
    let s = replicate {A = ℕ} line_length 10 in
    let d : drop at line ≡ drop at s = rw f.is (drop_at ys (drop at s) at f.long) in
    let m : length (take n (drop at line)) ≡ n = rw d (simp (length-take, length-drop) (omega arith)) in
    record {
      long = simp (length-append, length_digits) (omega (arith, f.long));
      is = rw (e, m, q, f.is) (part_next ys s (digits n v) at n f.long);
    }
