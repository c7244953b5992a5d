-- The tests in the order of `line_of`; eight digits by their sum.
use Prim.Native.Nat.{ℕ, ◌+◌, ◌-◌, ◌<◌}
use mathlib.Core.Path.{◌≡◌, ◌∙◌}
use native.Mathlib.Omega.{arith}
use Rattle.std.proofs.Common.{rules, tests}
use Rattle.std.specs.Prelude.{Result, Ok, Err}
use Rattle.std.specs.Result.{OkIff, result_ok}
use borrow.Author.Tests.{lt-ltb, le-ltb}
use Rattle.digits.specs.Digits.{line_word, line_of, digits_of_sum}
use Rattle.digits.proofs.read_line.Goals as goal

-- a sum that 32 bits hold is the word
word_held : {E : Type 0} (v : ℕ) (r : Result ℕ E) → OkIff r (v < 4294967296) v → result_ok r ≡ line_word (digits_of_sum v)
word_held v (Ok w) h = rw (le-ltb 4294967295 v (omega (arith, h.0)), h.1)
word_held v (Err e) h = rw (lt-ltb 4294967295 v (omega (arith, h)))

pub returns-then-s-at-lt9 : goal.returns-then-s-at-lt9
unfolding line_of
returns-then-s-at-lt9 c = search (rules, tests)

pub returns : goal.returns
unfolding line_of
returns c =
    let n : c.args.at + 8 - c.args.at ≡ 8 = omega arith in
    let v = rw n at c.eight_digits.ensures in
    let w = word_held _ _ c.try_from.ensures in
    c.ok.ensures.value ∙ w ∙ search (rules, tests)
