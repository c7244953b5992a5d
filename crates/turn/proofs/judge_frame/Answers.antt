-- The held sets follow the owners, by proofs/Held.
use Rattle.turn.proofs.Held.{frame_held}
use Rattle.turn.proofs.judge_frame.Goals as goal

pub judge-requires-clause-holdable : goal.judge-requires-clause-holdable
judge-requires-clause-holdable c =
    let p = c.requires in
    rw c.operation_of-operation.ensures
    (frame_held c.args.guards.now c.args.state.now p.follows p.in_range (rw c.in_ok-level.was at c.step.ensures)).fits

pub returns-clause-locks : goal.returns-clause-locks
returns-clause-locks c =
    let p = c.requires in
    rw (c.judge.ensures.locks, c.in_ok-judge.was, c.operation_of-operation.ensures)
    (frame_held c.args.guards.now c.args.state.now p.follows p.in_range (rw c.in_ok-level.was at c.step.ensures)).follows
