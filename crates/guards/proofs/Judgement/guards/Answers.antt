use Rattle.std.proofs.Common.{rules}
use Rattle.guards.specs.Guards.{inferred_guards}
use Rattle.guards.proofs.Judgement.guards.Goals as goal

pub returns-in-Inferred-clause-table : goal.returns-in-Inferred-clause-table
unfolding inferred_guards
returns-in-Inferred-clause-table c = search rules
