-- Invariant: scanning the whole text is scanning it from line i on, with most_frames - i lines allowed.
use Prim.Native.Nat.{◌-◌}
use mathlib.Core.Path.{◌≡◌}
use Rattle.frame.specs.Limits.{most_frames}
use Rattle.text.specs.Text.{scan_from}
use Rattle.text.proofs.scan.Given as goal

abbrev pub invariant-loop-i : goal.invariant-loop-i
invariant-loop-i l = scan_from most_frames l.s 0 ≡ scan_from (most_frames - l.i) l.s l.i
