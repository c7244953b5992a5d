-- A law of a turn: what a frame that does not lead on leaves as it was.
use Rattle.std.specs.Prelude.{Result, Ok, Err}
use Prim.Native.Nat.{ℕ}
use mathlib.Core.Path.{◌≡◌, refl}
use mathlib.Core.List.{List}
use Rattle.frame.specs.declared.Frame.{Frame}
use Rattle.reply.specs.Reply.{Verdict}
use Rattle.soundness.specs.Soundness.{stepped, step_frame}
use Rattle.soundness.specs.declared.State.{State}
use Rattle.soundness.specs.declared.Level.{Level}
use Rattle.instrumented.specs.Rules.{Judging, judged}
use Rattle.judge.proofs.Laws.{wrong_keeps}
use Rattle.turn.specs.declared.Stop.{Stop}
use Rattle.turn.specs.declared.Stop.TheVariants as stop
use Rattle.turn.specs.Turn.{judge_frame, turned, turned_to}
use Rattle.frame.specs.declared.Refusal.{Refusal}

-- A frame that is refused or goes wrong leaves where the threads stand as it was.
abbrev pub Kept : Result Unit Stop → Judging → Judging → Type 0
Kept (Ok _) j k = Unit {0}
Kept (Err (stop.Refused r)) j k = k ≡ j
Kept (Err (stop.Wrong v)) j k = k ≡ j

module _ (guards : List ℕ) (i : ℕ) (f : Frame) (s : State) (j : Judging) where
  keeps : Kept (turned guards i f s j).turn j (turned guards i f s j).judging
  keeps = step_case (step_frame f s).outcome (step_frame f s).state refl
    where
      judge_case : (x : Level) (n : State) → step_frame f s ≡ stepped (Ok x) n → (v : Verdict) (k : Judging) → judge_frame guards i f s j ≡ judged v k
          → Kept (turned guards i f s j).turn j (turned guards i f s j).judging
      judge_case x n g (Ok _) k a = rw (a, g) tt
      judge_case x n g (Err w) k a = rw (a, g) (wrong_keeps _ _ _ _ _ j w k a)

      step_case : (o : Result Level Refusal) (n : State) → step_frame f s ≡ stepped o n → Kept (turned guards i f s j).turn j (turned guards i f s j).judging
      step_case (Ok x) n g = judge_case x n g (judge_frame guards i f s j).verdict (judge_frame guards i f s j).judging refl
      step_case (Err r) n g = rw g refl

  pub turn_keeps : {q : Result Unit Stop} {n : State} {k : Judging} → turned guards i f s j ≡ turned_to q n k → Kept q j k
  turn_keeps e = rw e at keeps
