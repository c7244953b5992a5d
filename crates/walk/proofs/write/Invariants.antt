-- Each turn is a law of proofs/Walks at the values that the code has there, and the table has room before the part that is lent.
use Prim.Native.Nat.{◌≤◌}
use lib.ListN.{length}
use Rattle.walk.proofs.Walks.{WalkInv}
use Rattle.walk.proofs.write.Given as goal

abbrev pub invariant-loop-place : goal.invariant-loop-place
invariant-loop-place g l = WalkInv g.E.Entry.put l.sound.words.now l.guards l.initial.table l.table l.units l.order l.place × (g.E.Entry.Start l.order ≤ length l.table)
