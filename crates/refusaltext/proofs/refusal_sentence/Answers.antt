-- The sentence of each case.
use Rattle.output.specs.Output.{bytes}
use Rattle.refusaltext.proofs.refusal_sentence.Goals as goal

pub returns-in-Line-default : goal.returns-in-Line-default
unfolding bytes
returns-in-Line-default c = rw c.in-Line-default.is-0

pub returns-in-TooLong-default : goal.returns-in-TooLong-default
unfolding bytes
returns-in-TooLong-default c = rw c.in-TooLong-default.is-0

pub returns-in-WordBuffer-default : goal.returns-in-WordBuffer-default
unfolding bytes
returns-in-WordBuffer-default c = rw c.in-WordBuffer-default.is-0

pub returns-in-Operation-default : goal.returns-in-Operation-default
unfolding bytes
returns-in-Operation-default c = rw c.in-Operation-default.is-0

pub returns-in-Thread-default : goal.returns-in-Thread-default
unfolding bytes
returns-in-Thread-default c = rw c.in-Thread-default.is-0

pub returns-in-Object-default : goal.returns-in-Object-default
unfolding bytes
returns-in-Object-default c = rw c.in-Object-default.is-0

pub returns-in-LockTaken-true : goal.returns-in-LockTaken-true
unfolding bytes
returns-in-LockTaken-true c = rw (c.in-LockTaken-true.is-0, c.in-LockTaken-true.is-1)

pub returns-in-LockTaken-false : goal.returns-in-LockTaken-false
unfolding bytes
returns-in-LockTaken-false c = rw (c.in-LockTaken-false.is-0, c.in-LockTaken-false.is-1)

pub returns-in-LockNotHeld-true : goal.returns-in-LockNotHeld-true
unfolding bytes
returns-in-LockNotHeld-true c = rw (c.in-LockNotHeld-true.is-0, c.in-LockNotHeld-true.is-1)

pub returns-in-LockNotHeld-false : goal.returns-in-LockNotHeld-false
unfolding bytes
returns-in-LockNotHeld-false c = rw (c.in-LockNotHeld-false.is-0, c.in-LockNotHeld-false.is-1)

pub returns-in-TooDeep-true : goal.returns-in-TooDeep-true
unfolding bytes
returns-in-TooDeep-true c = rw (c.in-TooDeep-true.is-0, c.in-TooDeep-true.is-1)

pub returns-in-TooDeep-false : goal.returns-in-TooDeep-false
unfolding bytes
returns-in-TooDeep-false c = rw (c.in-TooDeep-false.is-0, c.in-TooDeep-false.is-1)

pub returns-in-NoOpenBlock-true : goal.returns-in-NoOpenBlock-true
unfolding bytes
returns-in-NoOpenBlock-true c = rw (c.in-NoOpenBlock-true.is-0, c.in-NoOpenBlock-true.is-1)

pub returns-in-NoOpenBlock-false : goal.returns-in-NoOpenBlock-false
unfolding bytes
returns-in-NoOpenBlock-false c = rw (c.in-NoOpenBlock-false.is-0, c.in-NoOpenBlock-false.is-1)

pub returns-in-GuardRange-default : goal.returns-in-GuardRange-default
unfolding bytes
returns-in-GuardRange-default c = rw c.in-GuardRange-default.is-0

pub returns-in-GuardRepeated-default : goal.returns-in-GuardRepeated-default
unfolding bytes
returns-in-GuardRepeated-default c = rw c.in-GuardRepeated-default.is-0

pub returns-in-Irreducible-default : goal.returns-in-Irreducible-default
unfolding bytes
returns-in-Irreducible-default c = rw c.in-Irreducible-default.is-0

pub returns-in-OpenBlock-default : goal.returns-in-OpenBlock-default
unfolding bytes
returns-in-OpenBlock-default c = rw c.in-OpenBlock-default.is-0

pub returns-in-OutputBuffer-default : goal.returns-in-OutputBuffer-default
unfolding bytes
returns-in-OutputBuffer-default c = rw c.in-OutputBuffer-default.is-0

pub returns-in-SetTable-default : goal.returns-in-SetTable-default
unfolding bytes
returns-in-SetTable-default c = rw c.in-SetTable-default.is-0

pub returns-in-LineBuffer-default : goal.returns-in-LineBuffer-default
unfolding bytes
returns-in-LineBuffer-default c = rw c.in-LineBuffer-default.is-0

pub returns-in-VerdictLine-default : goal.returns-in-VerdictLine-default
unfolding bytes
returns-in-VerdictLine-default c = rw c.in-VerdictLine-default.is-0

pub returns-in-TextBuffer-default : goal.returns-in-TextBuffer-default
unfolding bytes
returns-in-TextBuffer-default c = rw c.in-TextBuffer-default.is-0

pub returns-in-TooOften-true : goal.returns-in-TooOften-true
unfolding bytes
returns-in-TooOften-true c = rw (c.in-TooOften-true.is-0, c.in-TooOften-true.is-1)

pub returns-in-TooOften-false : goal.returns-in-TooOften-false
unfolding bytes
returns-in-TooOften-false c = rw (c.in-TooOften-false.is-0, c.in-TooOften-false.is-1)

pub returns-in-MovesBuffer-default : goal.returns-in-MovesBuffer-default
unfolding bytes
returns-in-MovesBuffer-default c = rw c.in-MovesBuffer-default.is-0
