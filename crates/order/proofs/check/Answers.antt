use Rattle.std.specs.Prelude.{Ok}
use mathlib.Core.Path.{sym, ap, ◌∙◌}
use native.Mathlib.Omega.{arith}
use Rattle.reply.specs.Reply.{Reply, Verdict}
use Rattle.pass.specs.Pass.{full_sets}
use Rattle.pass.proofs.Judgement.{judgement_fits}
use Rattle.order.proofs.check.Goals as goal

abbrev judged : Verdict → Reply
judged v = Ok v

pub overflow_cast-count : goal.overflow_cast-count
unfolding full_sets
overflow_cast-count c =
    let e = sym c.judge_recording-passed.ensures.reply ∙ c.in_ok-violation.was ∙ ap judged c.in_default.is in
    omega (arith, judgement_fits c.args.guards.now full_sets c.args.words.now (Ok tt) e)
