-- Invariant: a line of what is left is line n of the text.
use Prim.Native.Nat.{◌-◌, ◌≤◌}
use mathlib.Core.Path.{◌≡◌}
use lib.ListN.{length, drop}
use Rattle.textlines.specs.Lines.{nth_line}
use Rattle.textlines.proofs.nth_line.Given as goal

abbrev pub invariant-loop-line : goal.invariant-loop-line
invariant-loop-line l = (l.start ≤ length l.text) × (nth_line (l.n - l._line) (drop l.start l.text) ≡ nth_line l.n l.text)
