-- Invariant: reading the whole list is reading it from line i on with the table of the lines before.
use Prim.Native.Nat.{◌-◌}
use mathlib.Core.Path.{◌≡◌}
use Rattle.frame.specs.Limits.{most_frames}
use Rattle.guards.specs.Guards.{guards_from, guards_read}
use Rattle.guards.proofs.read_guards.Given as goal

abbrev pub invariant-loop-i : goal.invariant-loop-i
invariant-loop-i l = guards_read l.list ≡ guards_from (most_frames - l.i) l.list l.i l.table
