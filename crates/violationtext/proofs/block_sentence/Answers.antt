-- The sentence of each case.
use Rattle.output.specs.Output.{bytes}
use Rattle.violationtext.proofs.block_sentence.Goals as goal

pub returns-in-None-default : goal.returns-in-None-default
unfolding bytes
returns-in-None-default c = rw c.in-None-default.is-0

pub returns-in-Some-None : goal.returns-in-Some-None
unfolding bytes
returns-in-Some-None c = rw (c.in-Some-None.is-0, c.in-Some-None.is-1)

pub returns-in-Some-Some : goal.returns-in-Some-Some
unfolding bytes
returns-in-Some-Some c = rw (c.in-Some-Some.is-0, c.in-Some-Some.is-1, c.if-known.true)

pub returns-in-Some-Some-2 : goal.returns-in-Some-Some-2
unfolding bytes
returns-in-Some-Some-2 c = rw (c.in-Some-Some-2.is-0, c.in-Some-Some-2.is-1, c.if-known.false)
