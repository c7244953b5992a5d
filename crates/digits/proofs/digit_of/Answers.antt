-- The distance from 0, and a letter behind it.
use Rattle.std.proofs.Common.{rules, tests, arith}
use Rattle.std.proofs.lemmas.Bool.Decides.{nat_tests}
use Rattle.digits.specs.Digits.{letter_of, digit_of}
use Rattle.digits.proofs.digit_of.Goals as goal

pub returns-then-from-lt10 : goal.returns-then-from-lt10
unfolding digit_of
returns-then-from-lt10 c = search (rules, tests)

pub returns-else-from-lt10 : goal.returns-else-from-lt10
unfolding letter_of digit_of
returns-else-from-lt10 c = grind (arith, nat_tests)
