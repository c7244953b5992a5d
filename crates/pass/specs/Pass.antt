-- The judging pass over a recording, from any state and place, and the judgement of a whole recording.
-- `guards` has the code of each variable's guard (crate guards).
-- Quotes are from docs/FORMAT.md.
use Rattle.std.specs.Prelude.{ℕ, zero, suc, ◌+◌, cond, List, [], ◌∷◌, eqb, ltb, length, get_or, replicate, Result, Ok, Err, Option, Some, None}
use Rattle.frame.specs.Limits.{thread_count, variable_count, most_frames, all_locks}
use Rattle.frame.specs.Frame.{decode_word}
use Rattle.frame.specs.declared.Frame.{Frame}
use Rattle.reply.specs.Reply.{refused, reducible, violated, Reply}
use Rattle.reply.specs.declared.Violation.{Violation}
use Rattle.soundness.specs.Soundness.{check_reply, start}
use Rattle.soundness.specs.declared.State.{State}
use Rattle.instrumented.specs.Rules.{Judging, judging_of}
use Rattle.turn.specs.Turn.{turned}
use Rattle.turn.specs.declared.Stop.{Stop}
use Rattle.turn.specs.declared.Stop.TheVariants as stop
use Rattle.pass.specs.declared.Passed.{Passed}
use Rattle.frame.specs.declared.Refused.{Refused}
use Rattle.frame.specs.declared.Refusal.{Refusal}

-- The reply of a pass, and the state in which it ends: after the last frame, or before the frame that is refused or goes wrong.
pub record Ended : Type 0 where
  pub reply : Reply
  pub state : State
  pub judging : Judging

abbrev pub ended : Reply → State → Judging → Ended
ended r s j = record { reply = r; state = s; judging = j }

abbrev pub on_decoded : Result Frame Refusal → ℕ → State → Judging → (Frame → Ended) → Ended
on_decoded (Ok f) i s j rest = rest f
on_decoded (Err r) i s j rest = ended (refused r i) s j

abbrev pub on_turn : Result Unit Stop → ℕ → State → Judging → Ended → Ended
on_turn (Ok _) i s j rest = rest
on_turn (Err (stop.Refused r)) i s j rest = ended (refused r i) s j
on_turn (Err (stop.Wrong v)) i s j rest = ended (violated v) s j

-- The frames from place i on: each is refused, goes wrong, which ends the pass, or leads to the next state.
unfoldable pub judge_from : List ℕ → ℕ → State → Judging → List ℕ → Ended
judge_from guards i s j [] = ended reducible s j
judge_from guards i s j (w ∷ ws) =
    on_decoded (decode_word w) i s j λ f.
    on_turn (turned guards i f s j).turn i s j (judge_from guards (i + 1) (turned guards i f s j).state (turned guards i f s j).judging ws)

-- No thread is in a block.
unfoldable pub start_judging : List ℕ → Judging
start_judging sets = judging_of (replicate thread_count 0) (replicate thread_count 0) sets

-- "each variable's candidate set starts as all 64 locks"
unfoldable pub full_sets : List ℕ
full_sets = replicate variable_count all_locks

abbrev pub on_check : Result Unit Refused → Judging → Ended → Ended
on_check (Ok _) j rest = rest
on_check (Err r) j rest = ended (Err r) start j

-- "a recording is sound throughout before any verdict is given"
unfoldable pub judgement : List ℕ → List ℕ → List ℕ → Ended
judgement guards sets ws = on_check (check_reply ws) (start_judging sets) (judge_from guards 0 start (start_judging sets) ws)

-- What the pass leaves in the table that it works on, whatever the reply: the sets before the first frame that is refused or goes wrong, or
-- after the last frame. A recording that is too long is not walked.
unfoldable pub sets_left : List ℕ → List ℕ → List ℕ → List ℕ
sets_left guards sets ws = cond (ltb most_frames (length ws)) sets (judge_from guards 0 start (start_judging sets) ws).judging.sets

-- The earlier of two places.
abbrev pub earlier : Option ℕ → Option ℕ → Option ℕ
earlier None m = m
earlier (Some x) None = Some x
earlier (Some x) (Some y) = cond (ltb y x) (Some y) (Some x)

-- The outermost begin of a thread at depth d, where a block is open.
abbrev pub open_begin : ℕ → ℕ → Option ℕ
open_begin d b = cond (eqb d 0) None (Some b)

-- "smallest place of an open outermost begin", of the threads k, k + 1, .., of which there are n
unfoldable pub first_open_from : ℕ → ℕ → Option ℕ → List ℕ → List ℕ → Option ℕ
first_open_from zero k m depths begins = m
first_open_from (suc n) k m depths begins = first_open_from n (k + 1) (earlier m (open_begin (get_or depths k 0) (get_or begins k 0))) depths begins

abbrev pub first_open : State → Judging → Option ℕ
first_open s j = first_open_from thread_count 0 None s.depths j.begins

-- The first open begin that a pass answers beside its reply: that of a reducible recording.
abbrev pub open_under : Reply → Option ℕ → Option ℕ
open_under (Err r) m = None
open_under (Ok (Ok _)) m = m
open_under (Ok (Err v)) m = None

abbrev pub open_at_end : Ended → Option ℕ
open_at_end e = open_under e.reply (first_open e.state e.judging)

abbrev pub passed_with : Reply → Option ℕ → Passed
passed_with r m = record { reply = r; unclosed = m }

-- A violation in frames of which the rest is checked for soundness: a refusal there wins.
abbrev pub after_check : Result Unit Refused → Violation → Reply
after_check (Ok _) v = violated v
after_check (Err r) v = Err r
