-- Each turn is a law of proofs/Turns at the values that the code has there.
use Rattle.commitplaces.proofs.Turns.{Inv}
use Rattle.commitplaces.proofs.write_commits.Given as goal

abbrev pub invariant-loop-i : goal.invariant-loop-i
invariant-loop-i l = Inv l.words l.guards l.initial.commits l.commits l.units l.i
