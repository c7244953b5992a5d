-- Invariant: the lines of the first i words stand at the front, and the rest is as it was.
use Prim.Native.Nat.{◌*◌}
use mathlib.Core.Path.{◌≡◌}
use mathlib.Core.List.{◌++◌}
use lib.ListN.{take, drop}
use Rattle.digits.specs.Digits.{lines_of}
use Rattle.writer.proofs.write_lines.Given as goal

abbrev pub invariant-loop-i : goal.invariant-loop-i
invariant-loop-i l = l.text ≡ lines_of (take l.i l.words) ++ drop (9 * l.i) l.initial.text
