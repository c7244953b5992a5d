-- The distance from A.
use Rattle.std.proofs.Common.{rules, tests, arith}
use Rattle.std.proofs.lemmas.Bool.Decides.{nat_tests}
use Rattle.digits.specs.Digits.{letter_of}
use Rattle.digits.proofs.letter_of.Goals as goal

pub returns-then-from-lt6 : goal.returns-then-from-lt6
unfolding letter_of
returns-then-from-lt6 c = search (rules, tests)

pub returns-else-from-lt6 : goal.returns-else-from-lt6
unfolding letter_of
returns-else-from-lt6 c = grind (arith, nat_tests)
