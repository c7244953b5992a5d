use mathlib.Core.Path.{refl, sym}
use lib.Seq.{set_out}
use Rattle.output.specs.Output.{behind, written}
use Rattle.output.proofs.Laws.{after_room, after_full}
use Rattle.output.proofs.Text.put_byte.Goals as goal

pub returns-then-self : goal.returns-then-self
unfolding behind written
returns-then-self c = record { same_buffer = refl; place = sym (after_room _ _ c.if-self.true); contents = refl }

pub returns-else-self : goal.returns-else-self
unfolding behind written
returns-else-self c = record { same_buffer = refl; place = sym (after_full _ _ c.if-self.false); contents = sym (set_out _ _ _ c.if-self.false) }
