use Rattle.std.specs.Prelude.{Err}
use Rattle.std.proofs.Common.{rules}
use mathlib.Core.Path.{◌≡◌, sym, ◌∙◌}
use Rattle.frame.proofs.Laws.{at_ok, decoded_in_range}
use Rattle.soundness.proofs.Laws.{check_end, check_refused, check_fail, check_next}
use Rattle.soundness.proofs.State.check_from.Goals as goal

pub returns-in_err-frame : goal.returns-in_err-frame
returns-in_err-frame c =
    let l = c.loop-i in
    let q : c.from_residual.result ≡ Err c.in_err-frame.field-0.0 = search rules in
    rw q (sym (l.invariant ∙ check_refused c.args.words.now l.i l.self c.loop-i-test.true (sym c.at.ensures ∙ c.in_err-frame.was)))

pub step-requires : goal.step-requires
step-requires c = decoded_in_range _ _ (at_ok c.args.words.now c.loop-i.i (sym c.at.ensures ∙ c.in_ok-frame.was))

pub returns-in-Err : goal.returns-in-Err
returns-in-Err c =
    let l = c.loop-i in
    let f = at_ok c.args.words.now l.i (sym c.at.ensures ∙ c.in_ok-frame.was) in
    rw c.at-in-Err.ensures
    (sym (l.invariant ∙ check_fail c.args.words.now l.i l.self c.loop-i-test.true _ c.step.new.self f _ (c.step.ensures ∙ rw c.in-Err.is)))

pub loop-i-preserved : goal.loop-i-preserved
loop-i-preserved c =
    let l = c.loop-i in
    let f = at_ok c.args.words.now l.i (sym c.at.ensures ∙ c.in_ok-frame.was) in
    l.invariant ∙ check_next c.args.words.now l.i l.self c.loop-i-test.true _ c.step.new.self f (rw c.in_default.is at c.step.ensures)

pub returns : goal.returns
returns c =
    let l = c.loop-i in
    sym (l.invariant ∙ check_end c.args.words.now l.i l.self c.loop-i-test.false)
