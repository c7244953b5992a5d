-- Invariant: the digits that are left, before the bytes that are written, are the value's.
use mathlib.Core.Path.{◌≡◌}
use mathlib.Core.List.{◌++◌}
use lib.ListN.{length, drop}
use Rattle.digits.specs.Digits.{digits}
use Rattle.digits.proofs.put.Given as goal

abbrev pub invariant-loop-k : goal.invariant-loop-k
invariant-loop-k l = digits l.k l.v ++ drop l.k l.out ≡ digits (length l.initial.out) l.value
