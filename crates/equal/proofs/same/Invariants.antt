-- Invariant: `Walking` of proofs/Walk.
use Rattle.equal.proofs.Walk.{Walking}
use Rattle.equal.proofs.same.Given as goal

abbrev pub invariant-loop-i : goal.invariant-loop-i
invariant-loop-i l = Walking l.left.words.now l.right.words.now l.i l.next l.lasts
