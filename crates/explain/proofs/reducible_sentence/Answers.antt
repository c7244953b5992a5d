-- The sentence of each case.
use borrow.Author.Tests.{eq-eqb, ne_eqb}
use Rattle.output.specs.Output.{bytes}
use Rattle.explain.proofs.reducible_sentence.Goals as goal

pub returns-then-frames-eq0 : goal.returns-then-frames-eq0
unfolding bytes
returns-then-frames-eq0 c = rw (eq-eqb _ _ c.if-frames-eq0.true)

pub returns-else-frames-eq0 : goal.returns-else-frames-eq0
unfolding bytes
returns-else-frames-eq0 c = rw (ne_eqb _ _ c.if-frames-eq0.false)
