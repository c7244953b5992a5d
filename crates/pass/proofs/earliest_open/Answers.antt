use Prim.Native.Nat.{◌+◌, ◌-◌}
use mathlib.Core.Path.{◌≡◌, sym, ◌∙◌}
use native.Mathlib.Omega.{arith}
use Rattle.frame.specs.Limits.{thread_count}
use lib.ListN.{get_or}
use Rattle.pass.specs.Pass.{earlier, open_begin}
use Rattle.pass.proofs.Open.{open_turn, open_end, closed_thread, open_thread}
use Rattle.pass.proofs.earliest_open.Goals as goal
use Rattle.pass.proofs.earliest_open.Goals.{then-depths-t-ne0, else-depths-t-ne0}

pub loop-t-preserved : goal.loop-t-preserved
loop-t-preserved c =
    let l = c.loop-t in
    let a = c.args in
    let d = get_or a.depths.now l.t 0 in
    let b = get_or a.begins.now l.t 0 in
    let step : earlier l.least (open_begin d b) ≡ c.if-depths-t-ne0.least =
    elim c.if-depths-t-ne0.branch [
      | then-depths-t-ne0 w ↦ open_thread d b l.least w.if-depths-t-ne0.true ∙ sym (w.least-is ∙ w.earlier_of-least.ensures)
      | else-depths-t-ne0 w ↦ closed_thread d b l.least w.if-depths-t-ne0.false ∙ sym w.least-is
    ] in
    l.invariant ∙ open_turn (thread_count - l.t) (thread_count - (l.t + 1)) l.t l.least _ _ (omega (arith, c.loop-t-test.true)) ∙ rw step

pub returns : goal.returns
returns c =
    let l = c.loop-t in
    sym (l.invariant ∙ open_end (thread_count - l.t) l.t l.least _ _ (omega (arith, c.loop-t-test.false)))
