-- Each turn is a law of proofs/Units at the values that the code has there.
use Rattle.walk.proofs.Units.{UnitInv}
use Rattle.walk.proofs.write_unit.Given as goal

abbrev pub invariant-loop-place : goal.invariant-loop-place
invariant-loop-place g l = UnitInv g.E.Entry.put l.words l.begin l.thread l.initial.table l.table l.order l.at l.depth l.place
