use Rattle.std.proofs.Common.{rules, tests}
use Rattle.soundness.specs.Soundness.{start}
use Rattle.soundness.proofs.State.new.Goals as goal

pub returns : goal.returns
unfolding start
returns c = search (rules, tests)
