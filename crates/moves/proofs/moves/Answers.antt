use mathlib.Core.Path.{◌∙◌}
use Rattle.frame.specs.declared.Refusal.TheVariants as refusal
use Rattle.order.proofs.Laws.{moves_under}
use Rattle.moves.specs.Moves.{moves_out_under}
use Rattle.moves.proofs.moves.Goals as goal

pub returns-clause-contents : goal.returns-clause-contents
unfolding moves_out_under
returns-clause-contents c = c.write.ensures.contents ∙ moves_under refusal.MovesBuffer _ _ _ _
