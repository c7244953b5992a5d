-- The tests of `step_action`.
use Rattle.std.proofs.Common.{rules, tests}
use Rattle.soundness.specs.Soundness.{step_action}
use Rattle.soundness.proofs.State.step.Goals as goal

pub returns-then-owner-eq0 : goal.returns-then-owner-eq0
unfolding step_action
returns-then-owner-eq0 c = search (rules, tests)

pub returns-then-owner-thread : goal.returns-then-owner-thread
unfolding step_action
returns-then-owner-thread c = search (rules, tests)

pub returns-then-count-ge-MOST_HELD : goal.returns-then-count-ge-MOST_HELD
unfolding step_action
returns-then-count-ge-MOST_HELD c = search (rules, tests)

pub returns-then-self-l : goal.returns-then-self-l
unfolding step_action
returns-then-self-l c = search (rules, tests)

pub returns-then-count-le1 : goal.returns-then-count-le1
unfolding step_action
returns-then-count-le1 c = search (rules, tests)

pub returns-then-depth-ge-DEEPEST : goal.returns-then-depth-ge-DEEPEST
unfolding step_action
returns-then-depth-ge-DEEPEST c = search (rules, tests)

pub returns-then-depth-eq0 : goal.returns-then-depth-eq0
unfolding step_action
returns-then-depth-eq0 c = search (rules, tests)

pub returns-else-count-ge-MOST_HELD : goal.returns-else-count-ge-MOST_HELD
unfolding step_action
returns-else-count-ge-MOST_HELD c = search (rules, tests)

pub returns-else-count-le1 : goal.returns-else-count-le1
unfolding step_action
returns-else-count-le1 c = search (rules, tests)

pub returns-else-depth-ge-DEEPEST : goal.returns-else-depth-ge-DEEPEST
unfolding step_action
returns-else-depth-ge-DEEPEST c = search (rules, tests)

pub returns-else-depth-eq0 : goal.returns-else-depth-eq0
unfolding step_action
returns-else-depth-eq0 c = search (rules, tests)

pub returns-in-Read : goal.returns-in-Read
unfolding step_action
returns-in-Read c = search (rules, tests)
