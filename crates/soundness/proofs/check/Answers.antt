-- The test of the length, and the pass from the start.
use mathlib.Core.Path.{sym, ap, ◌∙◌}
use Rattle.std.proofs.Common.{rules, tests}
use Rattle.soundness.specs.Soundness.{Checked}
use Rattle.soundness.proofs.Laws.{check_short}
use Rattle.soundness.proofs.check.Goals as goal

pub returns-then-words-gt-MOST : goal.returns-then-words-gt-MOST
returns-then-words-gt-MOST c = search (rules, tests)

pub returns : goal.returns
returns c =
    ap (λ (x : Checked). x.reply) c.check_from.ensures ∙ rw c.new.ensures (sym (check_short c.args.words.now c.if-words-gt-MOST.false))
