-- One turn of a pass over a recording: what a frame does to the locks and depths, and by the rules to where the threads stand.
-- `guards` has the code of each variable's guard (crate guards).
-- Quotes are from docs/FORMAT.md.
use Rattle.std.specs.Prelude.{ℕ, ◌≡◌, List, get_or, Result, Ok, Err}
use Rattle.frame.specs.declared.Frame.{Frame}
use Rattle.reply.specs.Reply.{Verdict}
use Rattle.soundness.specs.Soundness.{step_frame, level_of}
use Rattle.soundness.specs.declared.State.{State}
use Rattle.operation.specs.Operation.{operation_of}
use Rattle.instrumented.specs.Rules.{Judging, Judged, judge_operation}
use Rattle.instrumented.specs.Held.{held_set, Follows}
use Rattle.turn.specs.declared.Stop.{Stop}
use Rattle.turn.specs.declared.Stop.TheVariants as stop
use Rattle.frame.specs.declared.Refusal.{Refusal}
use Rattle.soundness.specs.declared.Level.{Level}

-- One sound frame at place i, with the locks and depths as they are before it.
abbrev pub judge_frame : List ℕ → ℕ → Frame → State → Judging → Judged
judge_frame guards i f s j =
    judge_operation i f.thread (get_or s.depths f.thread.0 0) (held_set f.thread.0 s.owners)
    (operation_of guards (level_of (step_frame f s).outcome) f.action) j

-- What a frame does, and the state after it. A violation leaves where the threads stand as it was, a refusal all.
pub record Turned : Type 0 where
  pub turn : Result Unit Stop
  pub state : State
  pub judging : Judging

abbrev pub turned_to : Result Unit Stop → State → Judging → Turned
turned_to t s j = record { turn = t; state = s; judging = j }

abbrev pub by_verdict : Verdict → State → Judging → Turned
by_verdict (Ok _) s j = turned_to (Ok tt) s j
by_verdict (Err v) s j = turned_to (Err (stop.Wrong v)) s j

abbrev pub by_outcome : Result Level Refusal → State → Judging → Turned → Turned
by_outcome (Ok x) s j rest = rest
by_outcome (Err r) s j rest = turned_to (Err (stop.Refused r)) s j

-- A frame at place i: "frame in sequence" refuses it, or the rules judge it.
abbrev pub turned : List ℕ → ℕ → Frame → State → Judging → Turned
turned guards i f s j =
    by_outcome (step_frame f s).outcome (step_frame f s).state j
    (by_verdict (judge_frame guards i f s j).verdict (step_frame f s).state (judge_frame guards i f s j).judging)

-- The table of held sets after a frame: that of the owners again where the frame leads on, and else as it was before.
abbrev pub FollowsAfter : Result Unit Stop → List ℕ → List ℕ → List ℕ → Type 0
FollowsAfter (Ok _) before held owners = Follows held owners
FollowsAfter (Err (stop.Refused r)) before held owners = held ≡ before
FollowsAfter (Err (stop.Wrong v)) before held owners = held ≡ before
