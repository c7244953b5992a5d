use Rattle.std.specs.Prelude.{Result, Err, None}
use Rattle.std.proofs.Common.{rules}
use mathlib.Core.Path.{◌≡◌, refl, sym, ap, ◌∙◌}
use Rattle.frame.proofs.Laws.{at_ok, decoded_in_range}
use Rattle.soundness.specs.Soundness.{Checked}
use Rattle.frame.specs.declared.Refused.{Refused}
use Rattle.pass.specs.Pass.{passed_with, after_check}
use Rattle.pass.proofs.Turn.{starts, turn_end, turn_unread, turn_refused, turn_wrong, turn_next}
use Rattle.pass.proofs.run.Goals as goal

pub loop-i-init : goal.loop-i-init
loop-i-init c = rw (c.requires.nothing_locked, c.requires.nothing_begun) (starts _ _ _)

pub returns-in_err-frame : goal.returns-in_err-frame
returns-in_err-frame c =
    let q : c.from_residual.result ≡ Err c.in_err-frame.field-0.0 = search rules in
    let both = turn_unread c.loop-i.invariant c.requires.fits c.loop-i-test.true (sym c.at.ensures ∙ c.in_err-frame.was) refl in
    record {
      reply = rw q both.0;
      unclosed = rw q both.1.0;
      contents = both.1.1;
    }

pub judge_frame-requires-clause-in_range : goal.judge_frame-requires-clause-in_range
judge_frame-requires-clause-in_range c = decoded_in_range _ _ (at_ok c.args.words.now c.loop-i.i (sym c.at.ensures ∙ c.in_ok-frame.was))

pub returns-in-Refused : goal.returns-in-Refused
returns-in-Refused c =
    let e = at_ok c.args.words.now c.loop-i.i (sym c.at.ensures ∙ c.in_ok-frame.was) in
    let t = rw (c.in-Err.is, c.in-Refused.is) at c.judge_frame.ensures.rules in
    let both = turn_refused c.loop-i.invariant c.requires.fits c.loop-i-test.true e t refl in
    record {
      reply = rw c.at-in-Refused.ensures both.0;
      unclosed = both.1.0;
      contents = both.1.1;
    }

pub returns-in_err-check_from-in-Wrong : goal.returns-in_err-check_from-in-Wrong
returns-in_err-check_from-in-Wrong c =
    let e = at_ok c.args.words.now c.loop-i.i (sym c.at.ensures ∙ c.in_ok-frame.was) in
    let t = rw (c.in-Err.is, c.in-Wrong.is) at c.judge_frame.ensures.rules in
    let q : c.from_residual-in_err-check_from-in-Wrong.result ≡ Err c.in_err-check_from-in-Wrong.field-0.0 = search rules in
    let x = sym c.in_err-check_from-in-Wrong.was ∙ ap (λ (y : Checked). y.reply) c.check_from.ensures in
    let both = turn_wrong c.loop-i.invariant c.requires.fits c.loop-i-test.true e t (ap (λ (y : Result Unit Refused). passed_with (after_check y c.in-Wrong.violation) None) x) in
    record {
      reply = rw q both.0;
      unclosed = rw q both.1.0;
      contents = both.1.1;
    }

pub returns-in_ok-check_from-in-Wrong : goal.returns-in_ok-check_from-in-Wrong
returns-in_ok-check_from-in-Wrong c =
    let e = at_ok c.args.words.now c.loop-i.i (sym c.at.ensures ∙ c.in_ok-frame.was) in
    let t = rw (c.in-Err.is, c.in-Wrong.is) at c.judge_frame.ensures.rules in
    let x = sym c.in_ok-check_from-in-Wrong.was ∙ ap (λ (y : Checked). y.reply) c.check_from.ensures in
    let both = turn_wrong c.loop-i.invariant c.requires.fits c.loop-i-test.true e t (ap (λ (y : Result Unit Refused). passed_with (after_check y c.in-Wrong.violation) None) x) in
    record {
      reply = both.0;
      unclosed = both.1.0;
      contents = both.1.1;
    }

pub loop-i-preserved : goal.loop-i-preserved
loop-i-preserved c =
    let e = at_ok c.args.words.now c.loop-i.i (sym c.at.ensures ∙ c.in_ok-frame.was) in
    let q = c.in_default.is in
    turn_next c.loop-i.invariant c.requires.fits c.loop-i-test.true e (rw q at c.judge_frame.ensures.rules) (rw q at c.judge_frame.ensures.locks)

pub returns : goal.returns
returns c =
    let both = turn_end c.loop-i.invariant c.requires.fits c.loop-i-test.false refl in
    record {
      reply = both.0;
      unclosed = both.1.0;
      contents = both.1.1;
    }
