-- Laws of the judgement: it keeps the length of the table of candidate sets, and a recording that gets a verdict is sound.
use Rattle.std.specs.Prelude.{Result, Ok, Err}
use Prim.Native.Nat.{ℕ, ◌+◌, ◌≤◌}
use mathlib.Core.Path.{◌≡◌, refl, sym, ap, ◌∙◌}
use mathlib.Core.List.{List, [], ◌∷◌}
use lib.Dec.{eqb}
use lib.Bits.{bit_and}
use lib.ListN.{length, get_or, length-set}
use borrow.Author.Tests.{le-ltb}
use Rattle.frame.specs.Limits.{most_frames}
use Rattle.laws.proofs.Logic.{never, either}
use Rattle.frame.specs.Frame.{decode_word}
use Rattle.frame.specs.declared.Frame.{Frame}
use Rattle.frame.specs.declared.Thread.{Thread}
use Rattle.frame.specs.declared.Lock.{Lock}
use Rattle.reply.specs.Reply.{Verdict, Reply}
use Rattle.soundness.specs.Soundness.{step_frame, check_reply, start}
use Rattle.soundness.specs.declared.State.{State}
use Rattle.soundness.proofs.Laws.{sound_fits}
use Rattle.instrumented.specs.Rules.{Phase, outside, before, after, Judging, Judged, phase_at, contains, with_commit, committed, acquire_in, unprotected_in, judge_operation}
use Rattle.operation.specs.declared.Operation.{Operation}
use Rattle.operation.specs.declared.Operation.TheVariants.{Acquire, Release, Protected, Unprotected, Inferred, Begin, End}
use Rattle.turn.specs.Turn.{judge_frame, Turned, turned, by_verdict, by_outcome}
use Rattle.turn.specs.declared.Stop.{Stop}
use Rattle.turn.specs.declared.Stop.TheVariants as stop
use Rattle.pass.specs.Pass.{Ended, on_turn, judge_from, start_judging, on_check, judgement, sets_left}
use Rattle.frame.specs.declared.Refused.{Refused}
use Rattle.soundness.specs.declared.Level.{Level}
use Rattle.frame.specs.declared.Refusal.{Refusal}

-- what is judged has as many sets as before
abbrev AsMany : Judging → Judged → Type 0
AsMany j x = length x.judging.sets ≡ length j.sets

acquire_length : (p : Phase) (i : ℕ) (t : Thread) (l : Lock) (j : Judging) → AsMany j (acquire_in p i t l j)
acquire_length outside i t l j = refl
acquire_length (before b) i t l j = refl
acquire_length (after b c) i t l j = refl

unprotected_length : (p : Phase) (i : ℕ) (t : Thread) (n j : Judging) → length n.sets ≡ length j.sets → AsMany j (unprotected_in p i t n j)
unprotected_length outside i t n j e = e
unprotected_length (before b) i t n j e = e
unprotected_length (after b c) i t n j e = refl

operation_length : (i : ℕ) (t : Thread) (d h : ℕ) (o : Operation) (j : Judging) → AsMany j (judge_operation i t d h o j)
unfolding judge_operation
operation_length i t d h (Acquire l) j = acquire_length (phase_at d t j) i t l j
operation_length i t d h (Release l) j = refl
operation_length i t d h (Protected m) j = either (AsMany j) (contains h m) refl refl
operation_length i t d h Unprotected j = unprotected_length (phase_at d t j) i t (with_commit t (committed d (get_or j.commits t.0 0) i) j) j refl
operation_length i t d h (Inferred v) j = either (AsMany j) (eqb (bit_and (get_or j.sets v.0 0) h) 0) refl (length-set j.sets _ _)
operation_length i t d h Begin j = either (AsMany j) (eqb d 0) refl refl
operation_length i t d h End j = refl

-- so does a turn
turn_length : (guards : List ℕ) (i : ℕ) (f : Frame) (s : State) (j : Judging) → length (turned guards i f s j).judging.sets ≡ length j.sets
turn_length guards i f s j = stepping (step_frame f s).outcome _ (judging (judge_frame guards i f s j).verdict (judge_frame guards i f s j).judging (operation_length _ _ _ _ _ j))
  where
    judging : (v : Verdict) (k : Judging) → length k.sets ≡ length j.sets → length (by_verdict v (step_frame f s).state k).judging.sets ≡ length j.sets
    judging (Ok _) k e = e
    judging (Err v) k e = e

    stepping : (o : Result Level Refusal) (x : Turned) → length x.judging.sets ≡ length j.sets → length (by_outcome o (step_frame f s).state j x).judging.sets ≡ length j.sets
    stepping (Ok y) x e = e
    stepping (Err r) x e = refl

onward : (t : Result Unit Stop) (i : ℕ) (s : State) (j : Judging) (e : Ended) → length e.judging.sets ≡ length j.sets → length (on_turn t i s j e).judging.sets ≡ length j.sets
onward (Ok _) i s j e q = q
onward (Err (stop.Refused r)) i s j e q = refl
onward (Err (stop.Wrong v)) i s j e q = refl

judge_length : (guards : List ℕ) (i : ℕ) (s : State) (j : Judging) (ws : List ℕ) → length (judge_from guards i s j ws).judging.sets ≡ length j.sets
unfolding judge_from
judge_length guards i s j [] = refl
judge_length guards i s j (w ∷ ws) = go (λ n k. judge_length guards (i + 1) n k ws) (decode_word w) refl
  where
    go : ((n : State) (k : Judging) → length (judge_from guards (i + 1) n k ws).judging.sets ≡ length k.sets) → (d : Result Frame Refusal) → decode_word w ≡ d
        → length (judge_from guards i s j (w ∷ ws)).judging.sets ≡ length j.sets
    go ih (Ok f) e =
        rw e (onward (turned guards i f s j).turn i s j _ (ih (turned guards i f s j).state (turned guards i f s j).judging ∙ turn_length guards i f s j))
    go ih (Err r) e = rw e

checking : (q : Result Unit Refused) (j : Judging) (e : Ended) → length e.judging.sets ≡ length j.sets → length (on_check q j e).judging.sets ≡ length j.sets
checking (Ok _) j e p = p
checking (Err r) j e p = refl

pub judgement_length : (guards sets ws : List ℕ) → length (judgement guards sets ws).judging.sets ≡ length sets
unfolding judgement start_judging
judgement_length guards sets ws = checking (check_reply ws) (start_judging sets) _ (judge_length guards 0 start (start_judging sets) ws)

-- the judgement of a sound recording is its pass
pub judgement_pass : (guards sets ws : List ℕ) → check_reply ws ≡ (Ok tt) → judgement guards sets ws ≡ judge_from guards 0 start (start_judging sets) ws
unfolding judgement
judgement_pass guards sets ws e = rw e

-- a recording that gets a verdict is sound
pub judgement_sound : (guards sets ws : List ℕ) (v : Verdict) → (judgement guards sets ws).reply ≡ Ok v → check_reply ws ≡ (Ok tt)
unfolding judgement
judgement_sound guards sets ws v e = go (check_reply ws) refl
  where
    go : (q : Result Unit Refused) → check_reply ws ≡ q → check_reply ws ≡ (Ok tt)
    go (Ok _) f = f
    go (Err r) f = let g : ◌≡◌ {A = Reply} (Err r) (Ok v) = rw f at e in never (cc)

-- and has at most 4,096 frames
pub judgement_fits : (guards sets ws : List ℕ) (v : Verdict) → (judgement guards sets ws).reply ≡ Ok v → length ws ≤ most_frames
judgement_fits guards sets ws v e = sound_fits ws (judgement_sound guards sets ws v e)

-- the pass leaves the sets of a verdict
pub judged_left : (guards sets ws : List ℕ) (v : Verdict) → (judgement guards sets ws).reply ≡ Ok v → sets_left guards sets ws ≡ (judgement guards sets ws).judging.sets
unfolding sets_left
judged_left guards sets ws v e =
    rw (le-ltb most_frames (length ws) (judgement_fits guards sets ws v e)) (sym (ap (λ (x : Ended). x.judging.sets) (judgement_pass guards sets ws (judgement_sound guards sets ws v e))))
