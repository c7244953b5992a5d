-- Invariant: the sum so far is bounded, and the sum of all digits is the sum of those that are left behind it.
use Prim.Native.Nat.{◌+◌, ◌*◌, ◌^◌, ◌≤◌}
use mathlib.Core.Path.{◌≡◌}
use lib.ListN.{drop}
use Rattle.digits.proofs.Sums.{sum_from}
use Rattle.digits.proofs.eight_digits.Given as goal

abbrev pub invariant-loop-b : goal.invariant-loop-b
invariant-loop-b l = record {
  bounded : 15 * l.v + 4294967296 ≤ 4294967296 * 16 ^ l.b-index;
  sum : sum_from 0 l.s ≡ sum_from l.v (drop l.b-index l.s);
}
