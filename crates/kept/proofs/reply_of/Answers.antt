-- One case for each range of kinds.
use Rattle.std.proofs.Common.{rules, tests}
use Rattle.kept.specs.Kept.{kept_by}
use Rattle.kept.proofs.reply_of.Goals as goal

pub returns-then-f-eq0 : goal.returns-then-f-eq0
unfolding kept_by
returns-then-f-eq0 c = search (rules, tests)

pub returns-in-Ok : goal.returns-in-Ok
unfolding kept_by
returns-in-Ok c = search (rules, tests)

pub returns-in_err-number : goal.returns-in_err-number
unfolding kept_by
returns-in_err-number c = search (rules, tests)

pub returns-in_err-reason : goal.returns-in_err-reason
unfolding kept_by
returns-in_err-reason c = search (rules, tests)

pub returns : goal.returns
unfolding kept_by
returns c = search (rules, tests)
