-- Invariant: the digits of what is left of the number, and behind them those stored, are the digits of the number.
use Prim.Native.Nat.{◌≤◌}
use mathlib.Core.Path.{◌≡◌}
use mathlib.Core.List.{◌++◌}
use lib.ListN.{length, drop}
use Rattle.output.specs.Output.{decimal_digits}
use Rattle.output.proofs.Text.put_decimal.Given as goal

abbrev pub invariant-loop-rest : goal.invariant-loop-rest
invariant-loop-rest l =
    (l.start ≤ 20) × (length l.digits ≡ 20) × (decimal_digits l.start l.rest ++ drop l.start l.digits ≡ decimal_digits 20 l.number)

abbrev pub decreases-loop-rest : goal.decreases-loop-rest
decreases-loop-rest l = l.rest
