-- The one pass of the code: each frame is checked and judged, and after a violation the rest is checked alone. It replies as a check of the
-- whole recording before its judgement does.
use Rattle.std.specs.Prelude.{Result, Ok, Err}
use Prim.Native.Nat.{ℕ, ◌+◌, ◌≤◌, ◌<◌}
use mathlib.Core.Path.{◌≡◌, refl, ap, ◌∙◌}
use mathlib.Core.List.{List, [], ◌∷◌}
use native.Mathlib.Numerals.{add-one}
use lib.ListN.{length, get_or, drop, drop_of_length-le}
use lib.Seq.{drop-cons}
use borrow.Author.Tests.{le-ltb}
use Rattle.frame.specs.Limits.{most_frames}
use Rattle.frame.specs.Frame.{decode_word}
use Rattle.frame.specs.declared.Frame.{Frame}
use Rattle.frame.specs.declared.Refusal.{Refusal}
use Rattle.reply.specs.Reply.{refused, reducible, violated, Reply, Verdict}
use Rattle.reply.specs.declared.Violation.{Violation}
use Rattle.soundness.specs.Soundness.{stepped, step_frame, check_from, start}
use Rattle.soundness.specs.declared.State.{State}
use Rattle.soundness.proofs.Laws.{check_short}
use Rattle.soundness.specs.declared.Level.{Level}
use Rattle.instrumented.specs.Rules.{Judging, judged}
use Rattle.turn.specs.Turn.{judge_frame, turned, turned_to}
use Rattle.turn.specs.declared.Stop.{Stop}
use Rattle.turn.specs.declared.Stop.TheVariants as stop
use Rattle.pass.specs.Pass.{Ended, ended, on_decoded, judge_from, start_judging, on_check, judgement, sets_left, after_check, open_at_end}
use Rattle.frame.specs.declared.Refused.{Refused}

abbrev pub on_fused : Result Unit Stop → ℕ → State → Judging → Result Unit Refused → Ended → Ended
on_fused (Ok _) i s j q rest = rest
on_fused (Err (stop.Refused r)) i s j q rest = ended (refused r i) s j
on_fused (Err (stop.Wrong v)) i s j q rest = ended (after_check q v) s j

module _ (guards : List ℕ) where
  unfoldable pub fused_from : ℕ → State → Judging → List ℕ → Ended
  fused_from i s j [] = ended reducible s j
  fused_from i s j (w ∷ ws) =
      on_decoded (decode_word w) i s j λ f.
      on_fused (turned guards i f s j).turn i s j (check_from (i + 1) (turned guards i f s j).state ws).reply
      (fused_from (i + 1) (turned guards i f s j).state (turned guards i f s j).judging ws)

after_reply : (q : Result Unit Refused) (v : Violation) (c : Judging) (s : State) (j : Judging) → (on_check q c (ended (violated v) s j)).reply ≡ after_check q v
after_reply (Ok _) v c s j = refl
after_reply (Err r) v c s j = refl

-- The reply of a check before the pass, and the state in which the pass ends.
abbrev both : Result Unit Refused → Judging → Ended → Ended
both q c e = ended (on_check q c e).reply e.state e.judging

-- The two agree on the frames from a place on.
abbrev Agree : List ℕ → ℕ → State → Judging → List ℕ → Judging → Type 0
Agree guards i s j ws c = both (check_from i s ws).reply c (judge_from guards i s j ws) ≡ fused_from guards i s j ws

fused_is : (guards : List ℕ) (i : ℕ) (s : State) (j : Judging) (ws : List ℕ) (c : Judging) → Agree guards i s j ws c
unfolding check_from judge_from fused_from
fused_is guards i s j [] c = refl
fused_is guards i s j (w ∷ ws) c = decode_case (λ n k. fused_is guards (i + 1) n k ws c) (decode_word w) refl
  where
    judge_case : ((n : State) (k : Judging) → Agree guards (i + 1) n k ws c) → (f : Frame) → decode_word w ≡ Ok f → (x : Level) (n : State) → step_frame f s ≡ stepped (Ok x) n
        → (v : Verdict) (k : Judging) → judge_frame guards i f s j ≡ judged v k → Agree guards i s j (w ∷ ws) c
    judge_case ih f e x n g (Ok _) k a = rw (e, a, g) (ih n k)
    judge_case ih f e x n g (Err v) k a = rw (e, a, g) (ap (λ (r : Reply). ended r s j) (after_reply (check_from (i + 1) n ws).reply v c s j))

    step_case : ((n : State) (k : Judging) → Agree guards (i + 1) n k ws c) → (f : Frame) → decode_word w ≡ Ok f → (o : Result Level Refusal) (n : State) → step_frame f s ≡ stepped o n → Agree guards i s j (w ∷ ws) c
    step_case ih f e (Ok x) n g = judge_case ih f e x n g (judge_frame guards i f s j).verdict (judge_frame guards i f s j).judging refl
    step_case ih f e (Err r) n g = rw (e, g)

    decode_case : ((n : State) (k : Judging) → Agree guards (i + 1) n k ws c) → (d : Result Frame Refusal) → decode_word w ≡ d → Agree guards i s j (w ∷ ws) c
    decode_case ih (Ok f) e = step_case ih f e (step_frame f s).outcome (step_frame f s).state refl
    decode_case ih (Err r) e = rw e

-- What the one pass answers is the judgement's reply and first open begin, and what it leaves are the sets.
pub record Answers (guards sets ws : List ℕ) (e : Ended) : Type 0 where
  pub reply : (judgement guards sets ws).reply ≡ e.reply
  pub unclosed : open_at_end (judgement guards sets ws) ≡ open_at_end e
  pub left : sets_left guards sets ws ≡ e.judging.sets

both_open : (q : Result Unit Refused) (c : Judging) (e : Ended) → open_at_end (on_check q c e) ≡ open_at_end (both q c e)
both_open (Ok _) c e = refl
both_open (Err r) c e = refl

pub judgement_fused : (guards sets ws : List ℕ) → length ws ≤ most_frames → Answers guards sets ws (fused_from guards 0 start (start_judging sets) ws)
unfolding judgement sets_left
judgement_fused guards sets ws h =
    let e = fused_is guards 0 start (start_judging sets) ws (start_judging sets) in
    record {
      reply = rw (check_short ws h) (ap (λ (x : Ended). x.reply) e);
      unclosed = rw (check_short ws h) (both_open (check_from 0 start ws).reply (start_judging sets) _ ∙ ap open_at_end e);
      left = rw (le-ltb most_frames (length ws) h) (ap (λ (x : Ended). x.judging.sets) e);
    }

-- how the pass goes on from place i
module _ (guards ws : List ℕ) (i : ℕ) (s : State) (j : Judging) where
  pub fused_end : length ws ≤ i → fused_from guards i s j (drop i ws) ≡ ended reducible s j
  unfolding fused_from
  fused_end h = rw (drop_of_length-le ws h)

  module _ (h : i < length ws) where
    pub fused_bad : {r : Refusal} → decode_word (get_or ws i 0) ≡ Err r → fused_from guards i s j (drop i ws) ≡ ended (refused r i) s j
    unfolding fused_from
    fused_bad e = rw (drop-cons ws i 0 h, e)

    pub fused_turn : {f : Frame} {q : Result Unit Stop} {n : State} {k : Judging} → decode_word (get_or ws i 0) ≡ Ok f → turned guards i f s j ≡ turned_to q n k
        → fused_from guards i s j (drop i ws) ≡ on_fused q i s j (check_from (i + 1) n (drop (i + 1) ws)).reply (fused_from guards (i + 1) n k (drop (i + 1) ws))
    unfolding fused_from
    fused_turn e t = rw (drop-cons ws i 0 h, e, t, add-one i)
