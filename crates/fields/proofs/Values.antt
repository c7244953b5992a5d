-- The values d of the bytes of a line before its LF, of which `count` are no digit.
use Prim.Native.Nat.{ℕ, ◌+◌, ◌≤◌}
use mathlib.Core.Path.{◌≡◌, sym, ap, ◌∙◌}
use mathlib.Core.Bool.{true}
use mathlib.Core.List.{List}
use native.Mathlib.Omega.{arith}
use borrow.Author.Tests.{eq-eqb}
use lib.ListN.{length, get_or, take, drop}
use Rattle.laws.proofs.Lists.{part}
use Rattle.digits.specs.Digits.{all_digits, values_of, others, joined}
use Rattle.digits.proofs.Numbers.{no_others, values_part}
use Rattle.line.specs.Line.{kind_width, place_width, thread_width, locks_width, frame_at, thread_at, begin_at, commit_at, locks_at, line_end, line_length}
use Rattle.fields.specs.Fields.{number_in, fields_of, line_fields}

module _ (s d : List ℕ) {count : ℕ} (long : length s ≡ line_length) (counted : count ≡ others (take line_end s)) (values : d ≡ values_of (take line_end s)) where
  -- all are digits
  digits_all : count ≤ 0 → all_digits (take line_end s) ≡ true
  digits_all h = (no_others (take line_end s) (omega (arith, counted))).0

  -- the number of some of them
  number_of : (at n : ℕ) → at + n ≤ line_end → number_in s at n ≡ joined 0 (take n (drop at d))
  number_of at n h =
      ap (joined 0) (rw values (sym (ap values_of (part at n line_end s h)) ∙ values_part at n (take line_end s)))

  -- the six numbers of a line of digits
  pub six_numbers : count ≤ 0 → get_or s line_end 0 ≡ 10
      → line_fields s
      ≡ fields_of (joined 0 (take kind_width d)) (joined 0 (take place_width (drop frame_at d))) (joined 0 (take thread_width (drop thread_at d))) (joined 0 (take place_width (drop begin_at d))) (joined 0 (take place_width (drop commit_at d))) (joined 0 (take locks_width (drop locks_at d)))
  unfolding line_fields
  six_numbers h f =
      simp (eq-eqb _ _ long, eq-eqb _ _ f, digits_all h, number_of 0 kind_width (omega arith), number_of frame_at place_width (omega arith), number_of thread_at thread_width (omega arith), number_of begin_at place_width (omega arith), number_of commit_at place_width (omega arith), number_of locks_at locks_width (omega arith))
