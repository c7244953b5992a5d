-- Invariant: the values of the first k bytes stand at the front of out, and so many of these bytes are no digit.
use Prim.Native.Nat.{◌≤◌}
use mathlib.Core.Path.{◌≡◌}
use mathlib.Core.List.{◌++◌}
use lib.ListN.{take, drop}
use Rattle.digits.specs.Digits.{values_of, others}
use Rattle.digits.proofs.digit_list.Given as goal

abbrev pub invariant-loop-k : goal.invariant-loop-k
invariant-loop-k l = record {
  bounded : l.count ≤ l.k;
  count : l.count ≡ others (take l.k l.s);
  contents : l.out ≡ values_of (take l.k l.s) ++ drop l.k l.initial.out;
}
