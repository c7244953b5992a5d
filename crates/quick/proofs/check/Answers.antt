-- What passed, and the check from there on.
use mathlib.Core.Path.{sym, ap, ◌∙◌}
use Rattle.soundness.specs.Soundness.{Checked}
use Rattle.soundness.proofs.Laws.{check_short}
use Rattle.quick.proofs.check.Goals as goal

pub returns : goal.returns
returns c =
    ap (λ (x : Checked). x.reply) (c.check_from.ensures ∙ sym c.passed-from.ensures.same)
    ∙ rw c.new-state.ensures (sym (check_short c.args.words.now c.if-words-gt-MOST.false))
