-- The sentence of each case.
use Rattle.output.specs.Output.{bytes}
use Rattle.violationtext.proofs.frame_sentence.Goals as goal

pub returns-then-known : goal.returns-then-known
unfolding bytes
returns-then-known c = rw c.if-known.true

pub returns-else-known : goal.returns-else-known
unfolding bytes
returns-else-known c = rw c.if-known.false
