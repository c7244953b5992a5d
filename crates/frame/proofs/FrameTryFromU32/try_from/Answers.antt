-- The tests of `decode_parts`.
use Rattle.std.proofs.Common.{rules, tests}
use Rattle.frame.specs.Frame.{decode_parts}
use Rattle.frame.proofs.FrameTryFromU32.try_from.Goals as goal

pub returns-then-op-lt1 : goal.returns-then-op-lt1
unfolding decode_parts
returns-then-op-lt1 c = search (rules, tests)

pub returns-then-thread-ge-THREAD_END : goal.returns-then-thread-ge-THREAD_END
unfolding decode_parts
returns-then-thread-ge-THREAD_END c = search (rules, tests)

pub returns-then-object-ge-LOCK_END : goal.returns-then-object-ge-LOCK_END
unfolding decode_parts
returns-then-object-ge-LOCK_END c = search (rules, tests)

pub returns-then-op-eq1 : goal.returns-then-op-eq1
unfolding decode_parts
returns-then-op-eq1 c = search (rules, tests)

pub returns-then-op-le2 : goal.returns-then-op-le2
unfolding decode_parts
returns-then-op-le2 c = search (rules, tests)

pub returns-then-object-ge-VARIABLE_END : goal.returns-then-object-ge-VARIABLE_END
unfolding decode_parts
returns-then-object-ge-VARIABLE_END c = search (rules, tests)

pub returns-then-op-eq3 : goal.returns-then-op-eq3
unfolding decode_parts
returns-then-op-eq3 c = search (rules, tests)

pub returns-then-op-le4 : goal.returns-then-op-le4
unfolding decode_parts
returns-then-op-le4 c = search (rules, tests)

pub returns-then-object-ne0 : goal.returns-then-object-ne0
unfolding decode_parts
returns-then-object-ne0 c = search (rules, tests)

pub returns-then-op-eq5 : goal.returns-then-op-eq5
unfolding decode_parts
returns-then-op-eq5 c = search (rules, tests)

pub returns : goal.returns
unfolding decode_parts
returns c = search (rules, tests)
