use Rattle.std.specs.Prelude.{Err}
use Rattle.std.proofs.Common.{rules}
use mathlib.Core.Path.{◌≡◌, sym, ◌∙◌}
use Rattle.pass.specs.Pass.{full_sets}
use Rattle.verdict.specs.Verdict.{verdict_under}
use Rattle.verdict.proofs.judge.Goals as goal

pub returns-in_err-guards : goal.returns-in_err-guards
unfolding verdict_under
returns-in_err-guards c =
    let q : c.from_residual.result ≡ Err c.in_err-guards.field-0.0 = search rules in
    rw (q, sym c.guards.ensures.reply ∙ c.in_err-guards.was)

pub returns : goal.returns
unfolding verdict_under full_sets
returns c = rw (sym c.guards.ensures.reply ∙ c.in_ok-guards.was, ← c.guards.ensures.table) c.judge_recording.ensures.reply
