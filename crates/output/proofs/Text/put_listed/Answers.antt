use Prim.Native.Nat.{suc, ◌+◌, ◌-◌}
use mathlib.Core.Path.{◌≡◌}
use native.Mathlib.Omega.{arith}
use native.Mathlib.Numerals.{add-one}
use Rattle.frame.specs.Limits.{lock_count}
use Rattle.output.specs.Output.{listed}
use Rattle.output.proofs.Laws.{appended_none, appended_more}
use Rattle.output.proofs.Text.put_listed.Goals as goal

pub loop-lock-init : goal.loop-lock-init
loop-lock-init c = λ text x. x

pub loop-lock-preserved : goal.loop-lock-preserved
unfolding listed
loop-lock-preserved c =
    let l = c.loop-lock in
    let e : lock_count - l.lock ≡ suc (lock_count - (l.lock + 1)) = omega arith in
    λ text x. l.invariant text (rw (e, add-one l.lock) (appended_more c.put_lock.ensures (rw (add-one l.lock) at x)))

pub returns : goal.returns
unfolding listed
returns c =
    let l = c.loop-lock in
    let e : lock_count - l.lock ≡ 0 = omega arith in
    l.invariant l.self (rw e (appended_none l.self))
