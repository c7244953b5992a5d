-- The sentence of each case.
use Rattle.output.specs.Output.{bytes}
use Rattle.violationtext.proofs.kind_sentence.Goals as goal

pub returns-in-GuardNotHeld : goal.returns-in-GuardNotHeld
unfolding bytes
returns-in-GuardNotHeld c = rw c.in-GuardNotHeld.is

pub returns-in-UnprotectedAfterCommit : goal.returns-in-UnprotectedAfterCommit
unfolding bytes
returns-in-UnprotectedAfterCommit c = rw c.in-UnprotectedAfterCommit.is

pub returns-in-AcquireAfterCommit : goal.returns-in-AcquireAfterCommit
unfolding bytes
returns-in-AcquireAfterCommit c = rw c.in-AcquireAfterCommit.is

pub returns-in-SetEmptied : goal.returns-in-SetEmptied
unfolding bytes
returns-in-SetEmptied c = rw c.in-SetEmptied.is
