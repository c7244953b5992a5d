-- Invariant: the number so far is held by its digits, and the values that are left make the whole number behind it.
use Prim.Native.Nat.{◌^◌, ◌<◌}
use mathlib.Core.Path.{◌≡◌}
use lib.ListN.{drop}
use Rattle.digits.specs.Digits.{joined}
use Rattle.digits.proofs.join.Given as goal

abbrev pub invariant-loop-x : goal.invariant-loop-x
invariant-loop-x l = record {
  held : l.v < 16 ^ l.x-index;
  number : joined 0 l.d ≡ joined l.v (drop l.x-index l.d);
}
