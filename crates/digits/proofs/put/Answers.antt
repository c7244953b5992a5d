use Prim.Native.Nat.{◌+◌, ◌-◌}
use mathlib.Core.Path.{◌≡◌, ◌∙◌}
use native.Mathlib.Omega.{arith}
use Rattle.digits.specs.Digits.{digits}
use Rattle.digits.proofs.Writing.{digit_stored}
use Rattle.digits.proofs.put.Goals as goal

pub loop-k-preserved : goal.loop-k-preserved
loop-k-preserved c =
    let l = c.loop-k in
    let e : l.k - 1 + 1 ≡ l.k = omega arith in
    rw e at (digit_stored l.out (l.k - 1) l.v c.digit_byte.result (omega arith) c.digit_byte.ensures) ∙ l.invariant

pub returns : goal.returns
unfolding digits
returns c =
    let e : c.loop-k.k ≡ 0 = omega arith in
    rw e at c.loop-k.invariant
