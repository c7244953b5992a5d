-- The sentence of each case.
use Rattle.output.specs.Output.{bytes}
use Rattle.violationtext.proofs.why_sentence.Goals as goal

pub returns-in-GuardNotHeld-true : goal.returns-in-GuardNotHeld-true
unfolding bytes
returns-in-GuardNotHeld-true c = rw (c.in-GuardNotHeld-true.is-0, c.in-GuardNotHeld-true.is-1)

pub returns-in-GuardNotHeld-false : goal.returns-in-GuardNotHeld-false
unfolding bytes
returns-in-GuardNotHeld-false c = rw (c.in-GuardNotHeld-false.is-0, c.in-GuardNotHeld-false.is-1)

pub returns-in-UnprotectedAfterCommit-true : goal.returns-in-UnprotectedAfterCommit-true
unfolding bytes
returns-in-UnprotectedAfterCommit-true c = rw (c.in-UnprotectedAfterCommit-true.is-0, c.in-UnprotectedAfterCommit-true.is-1)

pub returns-in-UnprotectedAfterCommit-false : goal.returns-in-UnprotectedAfterCommit-false
unfolding bytes
returns-in-UnprotectedAfterCommit-false c = rw (c.in-UnprotectedAfterCommit-false.is-0, c.in-UnprotectedAfterCommit-false.is-1)

pub returns-in-AcquireAfterCommit-true : goal.returns-in-AcquireAfterCommit-true
unfolding bytes
returns-in-AcquireAfterCommit-true c = rw (c.in-AcquireAfterCommit-true.is-0, c.in-AcquireAfterCommit-true.is-1)

pub returns-in-AcquireAfterCommit-false : goal.returns-in-AcquireAfterCommit-false
unfolding bytes
returns-in-AcquireAfterCommit-false c = rw (c.in-AcquireAfterCommit-false.is-0, c.in-AcquireAfterCommit-false.is-1)

pub returns-in-SetEmptied-true : goal.returns-in-SetEmptied-true
unfolding bytes
returns-in-SetEmptied-true c = rw (c.in-SetEmptied-true.is-0, c.in-SetEmptied-true.is-1)

pub returns-in-SetEmptied-false : goal.returns-in-SetEmptied-false
unfolding bytes
returns-in-SetEmptied-false c = rw (c.in-SetEmptied-false.is-0, c.in-SetEmptied-false.is-1)
