-- The invariant of the pass's loop, and how its turn goes.
use Rattle.std.specs.Prelude.{Result, Ok, Err, Option, None}
use Prim.Native.Nat.{ℕ, ◌+◌, ◌<◌, ◌≤◌}
use mathlib.Core.Path.{◌≡◌, ◌∙◌, sym, ap, refl, subst}
use mathlib.Core.List.{List}
use lib.ListN.{length, get_or, drop}
use Rattle.frame.specs.Limits.{most_frames}
use Rattle.frame.specs.Frame.{decode_word, frame_at}
use Rattle.frame.proofs.Laws.{at_err}
use Rattle.frame.specs.declared.Frame.{Frame}
use Rattle.frame.specs.declared.Refusal.{Refusal}
use Rattle.soundness.specs.Soundness.{check_from, start}
use Rattle.soundness.specs.declared.State.{State}
use Rattle.reply.specs.Reply.{refused, reducible}
use Rattle.reply.specs.declared.Violation.{Violation}
use Rattle.instrumented.specs.Rules.{Judging, judging_of}
use Rattle.instrumented.specs.Held.{Follows, start_threads}
use Rattle.instrumented.specs.declared.Threads.{Threads}
use Rattle.turn.specs.Turn.{turned, turned_to}
use Rattle.turn.specs.declared.Stop.TheVariants as stop
use Rattle.turn.proofs.Held.{none_held}
use Rattle.turn.proofs.Laws.{turn_keeps}
use Rattle.pass.specs.declared.Passed.{Passed}
use Rattle.pass.specs.Pass.{Ended, start_judging, judgement, sets_left, first_open, open_under, open_at_end, passed_with, after_check}
use Rattle.pass.proofs.Fused.{fused_from, Answers, judgement_fused, fused_end, fused_bad, fused_turn}
use Rattle.frame.specs.declared.Refused.{Refused}

-- The pass is that of going on from place i with the state and the threads as they are there.
pub record Inv (words guards sets₀ sets : List ℕ) (s : State) (h : Threads) (i : ℕ) : Type 0 where
  pub follows : Follows h.held s.owners
  pub rest : fused_from guards 0 start (start_judging sets₀) words ≡ fused_from guards i s (judging_of h.begins h.commits sets) (drop i words)

pub starts : (words guards sets : List ℕ) → Inv words guards sets sets start start_threads 0
unfolding start start_judging
starts words guards sets = record { follows = none_held; rest = refl }

-- what the pass answers, and what it leaves in its table
abbrev pub Gives : List ℕ → List ℕ → List ℕ → Passed → List ℕ → Type 0
Gives guards sets words r left =
    (r.reply ≡ (judgement guards sets words).reply) × ((r.unclosed ≡ open_at_end (judgement guards sets words)) × (left ≡ sets_left guards sets words))

-- a violation is answered with no open begin, whatever the rest of the recording is
after_open : (q : Result Unit Refused) (v : Violation) (m : Option ℕ) → open_under (after_check q v) m ≡ None
after_open (Ok _) v m = refl
after_open (Err r) v m = refl

module _ {words guards sets₀ sets : List ℕ} {s : State} {h : Threads} {i : ℕ} (inv : Inv words guards sets₀ sets s h i)
    (fits : length words ≤ most_frames) where
  -- what the pass answers and leaves, from its end
  answered : {e : Ended} {r : Passed} {c : List ℕ} → fused_from guards i s (judging_of h.begins h.commits sets) (drop i words) ≡ e
      → r ≡ passed_with e.reply (open_at_end e) → c ≡ e.judging.sets
      → Gives guards sets₀ words r c
  answered {e} p q l =
      let a : Answers guards sets₀ words e = subst (Answers guards sets₀ words) (inv.rest ∙ p) (judgement_fused guards sets₀ words fits) in
      (ap (λ (x : Passed). x.reply) q ∙ sym a.reply, (ap (λ (x : Passed). x.unclosed) q ∙ sym a.unclosed, l ∙ sym a.left))

  pub turn_end : length words ≤ i → {m : (Option ℕ)} → m ≡ first_open s (judging_of h.begins h.commits sets)
      → Gives guards sets₀ words (passed_with reducible m) sets
  turn_end z e = answered {r = passed_with reducible _} (fused_end guards words i s (judging_of h.begins h.commits sets) z) (ap (passed_with reducible) e) refl

  module _ (z : i < length words) {r : Passed} where
    pub turn_bad : {b : Refusal} → decode_word (get_or words i 0) ≡ Err b → r ≡ passed_with (refused b i) None
        → Gives guards sets₀ words r sets
    turn_bad e q = answered (fused_bad guards words i s (judging_of h.begins h.commits sets) z e) q refl

    -- the same of the frame at that place
    pub turn_unread : {x : Refused} → frame_at words i ≡ Err x → r ≡ passed_with (Err x) None → Gives guards sets₀ words r sets
    turn_unread e q = let b = at_err words i e in turn_bad b.1 (q ∙ ap (λ (y : Refused). passed_with (Err y) None) b.2)

    module _ {f : Frame} (e : decode_word (get_or words i 0) ≡ Ok f) {n : State} {k : Judging} where
      pub turn_refused : {b : Refusal} → turned guards i f s (judging_of h.begins h.commits sets) ≡ turned_to (Err (stop.Refused b)) n k
          → r ≡ passed_with (refused b i) None
          → Gives guards sets₀ words r k.sets
      turn_refused t q = answered (fused_turn guards words i _ _ z e t) q (ap (λ (x : Judging). x.sets) (turn_keeps guards i f _ _ t))

      pub turn_wrong : {v : Violation} → turned guards i f s (judging_of h.begins h.commits sets) ≡ turned_to (Err (stop.Wrong v)) n k
          → r ≡ passed_with (after_check (check_from (i + 1) n (drop (i + 1) words)).reply v) None
          → Gives guards sets₀ words r k.sets
      turn_wrong {v} t q =
          answered (fused_turn guards words i _ _ z e t)
          (q ∙ ap (passed_with (after_check (check_from (i + 1) n (drop (i + 1) words)).reply v)) (sym (after_open (check_from (i + 1) n (drop (i + 1) words)).reply v _)))
          (ap (λ (x : Judging). x.sets) (turn_keeps guards i f _ _ t))

  pub turn_next : i < length words → {f : Frame} → decode_word (get_or words i 0) ≡ Ok f → {n : State} {k : Judging} {hs' : List ℕ}
      → turned guards i f s (judging_of h.begins h.commits sets) ≡ turned_to (Ok tt) n k → Follows hs' n.owners
      → Inv words guards sets₀ k.sets n (record { held = hs'; begins = k.begins; commits = k.commits }) (i + 1)
  turn_next z e t u = record { follows = u; rest = inv.rest ∙ fused_turn guards words i _ _ z e t }
