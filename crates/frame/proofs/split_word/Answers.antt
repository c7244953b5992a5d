-- The tests of `split_parts`.
use Rattle.std.proofs.Common.{rules, tests}
use Rattle.frame.specs.Frame.{split_parts}
use Rattle.frame.proofs.split_word.Goals as goal

pub returns-then-op-lt1 : goal.returns-then-op-lt1
unfolding split_parts
returns-then-op-lt1 c = search (rules, tests)

pub returns : goal.returns
unfolding split_parts
returns c = search (rules, tests)
