-- Each return and each turn is a law of proofs/Turn at the values that the code has there.
use Rattle.pass.proofs.Turn.{Inv}
use Rattle.pass.proofs.run.Given as goal

abbrev pub invariant-loop-i : goal.invariant-loop-i
invariant-loop-i l = Inv l.words l.guards l.fn.sets l.sets l.state l.threads l.i
