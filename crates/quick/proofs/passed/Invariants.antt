-- Invariant: the first i words have passed.
use Rattle.quick.specs.Quick.{PassedTo}
use Rattle.quick.proofs.passed.Given as goal

abbrev pub invariant-loop-i : goal.invariant-loop-i
invariant-loop-i l = PassedTo l.words l.i l.initial.state l.state
