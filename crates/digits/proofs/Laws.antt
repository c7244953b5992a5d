-- Laws of lines of eight digits.
use Rattle.std.specs.Prelude.{Some}
use Prim.Native.Nat.{ℕ, ◌+◌, ◌≤◌}
use mathlib.Core.Path.{◌≡◌}
use mathlib.Core.List.{List}
use native.Mathlib.Omega.{arith}
use lib.ListN.{length, get_or, take, drop}
use Rattle.std.proofs.lemmas.Bool.Decides.{nat_tests}
use Rattle.digits.specs.Digits.{value, digits_value, line_of}

-- What a line shows of the bytes from `at` on: nine of them, eight digits with the word's value, and an LF.
pub record Shown (s : List ℕ) (at w : ℕ) : Type 0 where
  pub long : at + 9 ≤ length s
  pub linefeed : get_or s (at + 8) 0 ≡ 10
  pub digits : digits_value 0 (take 8 (drop at s)) ≡ value w

pub shown : (s : List ℕ) (at w : ℕ) → line_of s at ≡ Some w → Shown s at w
unfolding line_of
shown s at w e = record { long = grind (arith, nat_tests); linefeed = grind (arith, nat_tests); digits = grind (arith, nat_tests) }
