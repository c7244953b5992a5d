-- Invariant: `Passing` of proofs/Passing.
use Rattle.matching.proofs.Passing.{Passing}
use Rattle.matching.proofs.find.Given as goal

abbrev pub invariant-loop-i : goal.invariant-loop-i
invariant-loop-i l = Passing l.words l.fn.thread.0 l.from l.i
