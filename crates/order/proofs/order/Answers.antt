use mathlib.Core.Path.{◌∙◌}
use Rattle.frame.specs.declared.Refusal.TheVariants as refusal
use Rattle.order.specs.Order.{out_under}
use Rattle.order.proofs.Laws.{words_under}
use Rattle.order.proofs.order.Goals as goal

pub returns-clause-contents : goal.returns-clause-contents
unfolding out_under
returns-clause-contents c = c.write.ensures.contents ∙ words_under refusal.OutputBuffer _ _ _ _
