-- Invariant: the pass is that of going on from place i with the locks and blocks as they are.
use mathlib.Core.Path.{◌≡◌}
use lib.ListN.{drop}
use Rattle.soundness.specs.Soundness.{check_from}
use Rattle.soundness.proofs.State.check_from.Given as goal

abbrev pub invariant-loop-i : goal.invariant-loop-i
invariant-loop-i l = check_from l.from l.fn.self (drop l.from l.words) ≡ check_from l.i l.self (drop l.i l.words)
