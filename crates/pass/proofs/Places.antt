-- The places of a judgement's reply are at most 4,096: a violation's frame is one of the recording's, and its begin and commit are no later.
use Rattle.std.specs.Prelude.{Result, Ok, Err, Option, Some, None}
use Prim.Native.Nat.{ℕ, ◌+◌, ◌≤◌, ◌<◌}
use mathlib.Core.Path.{◌≡◌, refl}
use mathlib.Core.List.{List, [], ◌∷◌}
use native.Mathlib.Omega.{arith}
use lib.Dec.{eqb}
use lib.Bits.{bit_and}
use lib.ListN.{length, get_or}
use Rattle.frame.specs.Limits.{thread_count, most_frames}
use Rattle.laws.proofs.Logic.{either}
use Rattle.laws.proofs.Lists.{get_or_filled, set_bounded}
use Rattle.frame.specs.Frame.{decode_word}
use Rattle.frame.specs.declared.Frame.{Frame}
use Rattle.frame.specs.declared.Thread.{Thread}
use Rattle.frame.specs.declared.Lock.{Lock}
use Rattle.reply.specs.declared.Violation.{Violation}
use Rattle.reply.specs.Reply.{Verdict, Reply}
use Rattle.soundness.specs.Soundness.{step_frame, check_reply, start}
use Rattle.soundness.specs.declared.State.{State}
use Rattle.soundness.proofs.Laws.{sound_fits, check_place}
use Rattle.instrumented.specs.Rules.{Phase, outside, before, after, Judging, Judged, begin_mark, commit_mark, phase_at, contains, with_commit, committed, acquire_in, unprotected_in, judge_operation}
use Rattle.operation.specs.declared.Operation.{Operation}
use Rattle.operation.specs.declared.Operation.TheVariants.{Acquire, Release, Protected, Unprotected, Inferred, Begin, End}
use Rattle.turn.specs.Turn.{judge_frame, Turned, turned, by_verdict, by_outcome}
use Rattle.turn.specs.declared.Stop.{Stop}
use Rattle.turn.specs.declared.Stop.TheVariants as stop
use Rattle.pass.specs.Pass.{Ended, on_decoded, on_turn, judge_from, start_judging, on_check, judgement}
use Rattle.frame.specs.declared.Refused.{Refused}
use Rattle.soundness.specs.declared.Level.{Level}
use Rattle.frame.specs.declared.Refusal.{Refusal}

-- A mark that is absent or at most m.
abbrev pub MarkUpTo : ℕ → Option ℕ → Type 0
MarkUpTo m (Some i) = i ≤ m
MarkUpTo m None = Unit {0}

-- The places of a violation are below m, its begin and commit no later than its frame.
pub record Below (m : ℕ) (v : Violation) : Type 0 where
  pub frame : v.frame < m
  pub begin : MarkUpTo v.frame v.begin
  pub commit : MarkUpTo v.frame v.commit

abbrev pub VerdictBelow : ℕ → Verdict → Type 0
VerdictBelow m (Ok _) = Unit {0}
VerdictBelow m (Err v) = Below m v

abbrev TurnBelow : ℕ → Result Unit Stop → Type 0
TurnBelow m (Ok _) = Unit {0}
TurnBelow m (Err (stop.Refused r)) = Unit {0}
TurnBelow m (Err (stop.Wrong v)) = Below m v

-- So are those of a reply; a refusal may be at m.
abbrev pub ReplyBelow : ℕ → Reply → Type 0
ReplyBelow m (Err r) = r.place ≤ m
ReplyBelow m (Ok v) = VerdictBelow m v

-- Before place i, every begin and commit in the state is at most i.
record Since (i : ℕ) (j : Judging) : Type 0 where
  begins : (t : ℕ) → get_or j.begins t 0 ≤ i
  commits : (t : ℕ) → get_or j.commits t 0 ≤ i

-- The marks of a phase are at most m.
record Marks (m : ℕ) (p : Phase) : Type 0 where
  begin : MarkUpTo m (begin_mark p)
  commit : MarkUpTo m (commit_mark p)

phase_marks : (d : ℕ) (t : Thread) (i : ℕ) (j : Judging) → Since i j → Marks i (phase_at d t j)
phase_marks d t i j s =
    either (Marks i) (eqb d 0) (record { begin = tt; commit = tt })
    (either (Marks i) (eqb (get_or j.commits t.0 0) 0) (record { begin = s.begins t.0; commit = tt })
    (record { begin = s.begins t.0; commit = omega (arith, s.commits t.0) }))

-- What the frame at place i leads to: its violation is there, and the next state is one before place i + 1.
record Here (i : ℕ) (x : Judged) : Type 0 where
  wrong : VerdictBelow (i + 1) x.verdict
  next : Since (i + 1) x.judging

module _ {i : ℕ} {j : Judging} (s : Since i j) where
  later : Since (i + 1) j
  later = record { begins = λ t. omega (arith, s.begins t); commits = λ t. omega (arith, s.commits t) }

  -- the commit set
  commits_at : (t : Thread) (d : ℕ) → Since (i + 1) (with_commit t (committed d (get_or j.commits t.0 0) i) j)
  commits_at t d = record {
    begins = later.begins;
    commits = λ u.
        set_bounded j.commits t.0 (committed d (get_or j.commits t.0 0) i) u (i + 1)
        (either (λ c. c ≤ i + 1) (eqb d 0) (later.commits t.0) (either (λ c. c ≤ i + 1) (eqb (get_or j.commits t.0 0) 0) (omega arith) (later.commits t.0)))
        (later.commits u);
  }

  acquire_here : (p : Phase) (t : Thread) (l : Lock) → Marks i p → Here i (acquire_in p i t l j)
  acquire_here outside t l m = record { wrong = tt; next = later }
  acquire_here (before b) t l m = record { wrong = tt; next = later }
  acquire_here (after b c) t l m = record { wrong = record { frame = omega arith; begin = m.begin; commit = m.commit }; next = later }

  unprotected_here : (p : Phase) (t : Thread) (n : Judging) → Since (i + 1) n → Marks i p → Here i (unprotected_in p i t n j)
  unprotected_here outside t n h m = record { wrong = tt; next = h }
  unprotected_here (before b) t n h m = record { wrong = tt; next = h }
  unprotected_here (after b c) t n h m = record { wrong = record { frame = omega arith; begin = m.begin; commit = m.commit }; next = later }

  operation_here : (t : Thread) (d h : ℕ) (o : Operation) → Here i (judge_operation i t d h o j)
  unfolding judge_operation
  operation_here t d h (Acquire l) = acquire_here (phase_at d t j) t l (phase_marks d t i j s)
  operation_here t d h (Release l) = record { wrong = tt; next = commits_at t d }
  operation_here t d h (Protected m) =
      let p = phase_marks d t i j s in
      either (Here i) (contains h m) (record { wrong = tt; next = later })
      (record { wrong = record { frame = omega arith; begin = p.begin; commit = p.commit }; next = later })
  operation_here t d h Unprotected = unprotected_here (phase_at d t j) t _ (commits_at t d) (phase_marks d t i j s)
  operation_here t d h (Inferred v) =
      let p = phase_marks d t i j s in
      either (Here i) (eqb (bit_and (get_or j.sets v.0 0) h) 0)
      (record { wrong = record { frame = omega arith; begin = p.begin; commit = p.commit }; next = later })
      (record { wrong = tt; next = record { begins = later.begins; commits = later.commits } })
  operation_here t d h Begin =
      either (Here i) (eqb d 0)
      (record {
        wrong = tt;
        next = record {
          begins = λ u. set_bounded j.begins t.0 i u (i + 1) (omega arith) (later.begins u);
          commits = λ u. set_bounded j.commits t.0 0 u (i + 1) (omega arith) (later.commits u);
        };
      })
      (record { wrong = tt; next = later })
  operation_here t d h End = record { wrong = tt; next = later }

-- What a turn at place i leads to: the same.
record Led (i : ℕ) (x : Turned) : Type 0 where
  wrong : TurnBelow (i + 1) x.turn
  next : Since (i + 1) x.judging

turn_led : (guards : List ℕ) (i : ℕ) (f : Frame) (s : State) (j : Judging) → Since i j → Led i (turned guards i f s j)
turn_led guards i f s j b = stepping (step_frame f s).outcome (judging (judge_frame guards i f s j) (operation_here b f.thread _ _ _))
  where
    judging : (x : Judged) → Here i x → Led i (by_verdict x.verdict (step_frame f s).state x.judging)
    judging x h = go x.verdict h.wrong
      where
        go : (v : Verdict) → VerdictBelow (i + 1) v → Led i (by_verdict v (step_frame f s).state x.judging)
        go (Ok _) w = record { wrong = tt; next = h.next }
        go (Err v) w = record { wrong = w; next = h.next }

    stepping : (o : Result Level Refusal) {x : Turned} → Led i x → Led i (by_outcome o (step_frame f s).state j x)
    stepping (Ok y) l = l
    stepping (Err r) l = record { wrong = tt; next = later b }

module _ (m i : ℕ) (s : State) (j : Judging) (h : i < m) where
  decoding : (d : Result Frame Refusal) (rest : Frame → Ended) → ((f : Frame) → ReplyBelow m (rest f).reply) → ReplyBelow m (on_decoded d i s j rest).reply
  decoding (Ok f) rest g = g f
  decoding (Err r) rest g = omega arith

  onward : (t : Result Unit Stop) (e : Ended) → TurnBelow (i + 1) t → ReplyBelow m e.reply → ReplyBelow m (on_turn t i s j e).reply
  onward (Ok _) e b g = g
  onward (Err (stop.Refused r)) e b g = omega arith
  onward (Err (stop.Wrong v)) e b g = record { frame = omega (arith, b.frame); begin = b.begin; commit = b.commit }

judge_places : (guards : List ℕ) (i : ℕ) (s : State) (j : Judging) (ws : List ℕ) (m : ℕ) → i + length ws ≤ m → Since i j
    → ReplyBelow m (judge_from guards i s j ws).reply
unfolding judge_from
judge_places guards i s j [] m h b = tt
judge_places guards i s j (w ∷ ws) m h b =
    decoding m i s j (omega arith) (decode_word w) _ λ f.
    let x = turn_led guards i f s j b in
    onward m i s j (omega arith) (turned guards i f s j).turn _ x.wrong
    (judge_places guards (i + 1) (turned guards i f s j).state (turned guards i f s j).judging ws m (omega arith) x.next)

start_since : (sets : List ℕ) → Since 0 (start_judging sets)
unfolding start_judging
start_since sets = record { begins = λ t. omega (arith, get_or_filled thread_count t 0); commits = λ t. omega (arith, get_or_filled thread_count t 0) }

-- the places of a judgement are at most 4,096
pub judgement_places : (guards sets ws : List ℕ) → ReplyBelow most_frames (judgement guards sets ws).reply
unfolding judgement
judgement_places guards sets ws = go (check_reply ws) refl
  where
    go : (q : Result Unit Refused) → check_reply ws ≡ q → ReplyBelow most_frames (on_check q (start_judging sets) (judge_from guards 0 start (start_judging sets) ws)).reply
    go (Ok _) e = judge_places guards 0 start (start_judging sets) ws most_frames (omega (arith, sound_fits ws e)) (start_since sets)
    go (Err r) e = check_place ws r e
