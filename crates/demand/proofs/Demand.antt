-- The third term. In this order: what the comparison's Equal shows; the serial order of a reducible, closed recording; a request for it and
-- its refusals; the term; the one place of 14.
use Rattle.std.specs.Prelude.{Result, Ok, Err, Option, Some, None}
use Prim.Native.Nat.{ℕ, ◌+◌, ◌≤◌}
use mathlib.Core.Path.{◌≡◌, refl, sym, ap, ◌∙◌}
use mathlib.Core.Logic.{◌↔◌}
use mathlib.Core.Bool.{Bool, true, false, cond}
use mathlib.Core.List.{List, [], ◌∷◌}
use native.Mathlib.Omega.{arith}
use borrow.Author.Tests.{ltb-true, ltb-false}
use lib.Dec.{ltb}
use lib.ListN.{length}
use Rattle.frame.specs.Refusal.{refused_at}
use Rattle.pass.specs.Pass.{judge_from, start_judging, full_sets, judgement, open_at_end}
use Rattle.turn.specs.Turn.{judge_frame}
use Rattle.laws.proofs.Logic.{never, by_test}
use Rattle.frame.specs.Frame.{decode_word}
use Rattle.frame.specs.declared.Frame.{Frame}
use Rattle.frame.specs.declared.Refused.{Refused}
use Rattle.frame.specs.declared.Refusal.{Refusal}
use Rattle.frame.specs.declared.Refusal.TheVariants as refusal
use Rattle.guards.specs.Guards.{guards_under}
use Rattle.guards.specs.Judgement.{Judgement}
use Rattle.soundness.proofs.Laws.{check_short, sound_fits, sound_first}
use Rattle.soundness.specs.Soundness.{stepped, step_frame, check_from, check_reply, start}
use Rattle.soundness.specs.declared.State.{State}
use Rattle.soundness.specs.declared.Level.{Level}
use Rattle.reply.specs.Reply.{reducible, violated, Reply, Verdict}
use Rattle.instrumented.specs.Rules.{Judging, judged}
use Rattle.pass.proofs.Judgement.{judgement_sound}
use Rattle.rules.specs.Choice.{Reducible}
use Rattle.exchange.proofs.Sound.{exchanges_sound}
use Rattle.exchange.specs.Exchange.{Exchanges, independent_words}
use Rattle.equal.proofs.Exchanges.{equal_is_exchanges}
use Rattle.equal.specs.Equal.{after_checks, equal_words, equal_reply}
use Rattle.serial.specs.Order.{serial_words, Closed, Open}
use Rattle.orderlaws.proofs.Order.{order_exchanges, order_contiguous, closed_open}
use Rattle.orderlaws.proofs.Open.{none_closed, first_open_lem}
use Rattle.order.specs.Order as asked_for
use Rattle.order.specs.Order.{reducible_reply, closed_reply, reply_by, out_after, on_list, reply_under, order_under, out_under}
use Rattle.demand.specs.Demand.{Sound, RefusedBy, in_list, in_recording, irreducible, still_open, no_room, Asked, ThirdTerm, OneFirstOpen}

-- recordings that compare as equal are sound
equal_sound : (p q : Result Unit Refused) (b : Bool) → after_checks p q b ≡ Ok true → (p ≡ (Ok tt)) × (q ≡ (Ok tt))
equal_sound (Err x) q b e = never (cc)
equal_sound (Ok _) (Err x) b e = never (cc)
equal_sound (Ok _) (Ok _) b e = (refl, refl)

equal_exactly : (left right : List ℕ) → equal_reply left right ≡ Ok true ↔ Sound left × Sound right × Exchanges independent_words left right
equal_exactly left right = (
  λ e. let s = equal_sound (check_reply left) (check_reply right) (equal_words left right) e in (s.0, s.1, (equal_is_exchanges left right s.0 s.1).0 e),
  λ s. (equal_is_exchanges left right s.0 s.1).1 s.2,
)

order_equal : (table ws : List ℕ) → Reducible table ws → Closed ws → equal_reply ws (serial_words table ws) ≡ Ok true
order_equal table ws r c =
    let x = order_exchanges table ws r c in
    let s = judgement_sound table full_sets ws (Ok tt) r in
    (equal_exactly ws (serial_words table ws)).1 (s, exchanges_sound x s, x)

-- the pass of a recording that is sound from here on refuses nothing
pass_refuses : (table : List ℕ) (i : ℕ) (s : State) (j : Judging) (ws : List ℕ) (x : Refused) → (check_from i s ws).reply ≡ (Ok tt)
    → (judge_from table i s j ws).reply ≡ Err x → ⊥
unfolding judge_from
pass_refuses table i s j [] x c e = never (cc)
pass_refuses table i s j (w ∷ ws) x c e =
    let a = sound_first i s w ws c in
    go a.frame a.level a.next a.is a.passes (judge_frame table i a.frame s j).verdict (judge_frame table i a.frame s j).judging refl
    (λ k. pass_refuses table (i + 1) a.next k ws x a.rest)
  where
    go : (f : Frame) (y : Level) (n : State) → decode_word w ≡ Ok f → step_frame f s ≡ stepped (Ok y) n
        → (v : Verdict) (k : Judging) → judge_frame table i f s j ≡ judged v k → ((k : Judging) → (judge_from table (i + 1) n k ws).reply ≡ Err x → ⊥) → ⊥
    go f y n d g (Ok _) k q ih = ih k (rw (d, q, g) at e)
    go f y n d g (Err v) k q ih = let z : violated v ≡ Err x = rw (d, q, g) at e in never (cc)

-- a recording that its judgement refuses is refused by the check
judgement_refused : (table ws : List ℕ) (x : Refused) → (judgement table full_sets ws).reply ≡ Err x → check_reply ws ≡ Err x
unfolding judgement
judgement_refused table ws x e = go (check_reply ws) refl
  where
    go : (q : Result Unit Refused) → check_reply ws ≡ q → check_reply ws ≡ Err x
    go (Ok _) f = absurd (pass_refuses table 0 start (start_judging full_sets) ws x (sym (check_short ws (sound_fits ws f)) ∙ f) (rw f at e))
    go (Err y) f = let g : ◌≡◌ {A = Reply} (Err y) (Err x) = rw f at e in let h : y ≡ x = cc in f ∙ ap Err h

-- A request: what is to hold for it to be granted, and that no refusal holds then.
module _ {A : Type 0} (short : Refusal) (list : Result ℕ Refused) (table ws : List ℕ) (made out : List A) where
  abbrev Granted : Type 0
  Granted = (n : ℕ) × (list ≡ Ok n) × Reducible table ws × Closed ws × (length ws ≤ length out)

  not_both : {r : (Result ℕ Refused)} → RefusedBy short list table ws made out r → Granted → ⊥
  not_both (in_list {x = x} e) g = let z : ◌≡◌ {A = Result ℕ Refused} (Err x) (Ok g.0) = sym e ∙ g.1 in never (cc)
  not_both (in_recording {x = x} e c) g =
      let z : ◌≡◌ {A = Result Unit Refused} (Err x) (Ok tt) = sym c ∙ judgement_sound table full_sets ws (Ok tt) g.2 in
      never (cc)
  not_both (irreducible {v = v} e j) g = let z : violated v ≡ reducible = sym j ∙ g.2 in never (cc)
  not_both (still_open {b = b} e r o) g = none_closed ws b o g.3
  not_both (no_room e r c h) g = let k : length ws ≤ length out = g.4 in omega arith

  -- the request answered by r, which decides what is left
  abbrev AskedBy : Result ℕ Refused → Type 0
  AskedBy r = Asked short list table ws made out r (out_after r made out)

  is_written : Granted → AskedBy (Ok (length ws))
  is_written g = record { length_exactly_if = (λ e. g, λ h. refl); written = λ e. refl; refused_by = λ n. absurd (n refl) }

  is_refused : (x : Refused) → RefusedBy short list table ws made out (Err x) → AskedBy (Err x)
  is_refused x by = record { length_exactly_if = (λ e. no e, λ g. absurd (not_both by g)); written = λ e. no e; refused_by = λ n. (by, refl) }
    where
      no : {A : Type 0} → ◌≡◌ {A = Result ℕ Refused} (Err x) (Ok (length ws)) → A
      no e = never (cc)

  -- a list that is read
  module _ (n : ℕ) (read : list ≡ Ok n) where
    by_room : (b : Bool) → ltb (length out) (length ws) ≡ b → Reducible table ws → Closed ws
        → AskedBy (cond b (Err (refused_at short (length ws))) (Ok (length ws)))
    by_room true q r c = is_refused _ (no_room read r c (ltb-true (length out) (length ws) q))
    by_room false q r c = is_written (n, read, r, c, ltb-false (length out) (length ws) q)

    by_mark : (m : Option ℕ) → open_at_end (judgement table full_sets ws) ≡ m → Reducible table ws → AskedBy (closed_reply short m (length ws) (length out))
    by_mark (Some b) q r = is_refused _ (still_open read r (first_open_lem table ws r b q))
    by_mark None q r = by_room (ltb (length out) (length ws)) refl r (closed_open table ws r q)

    by_reply : (q : Reply) → (judgement table full_sets ws).reply ≡ q
        → AskedBy (cond (reducible_reply q) (closed_reply short (open_at_end (judgement table full_sets ws)) (length ws) (length out)) (asked_for.irreducible q))
    by_reply (Err x) e = is_refused x (in_recording read (judgement_refused table ws x e))
    by_reply (Ok (Ok _)) e = by_mark (open_at_end (judgement table full_sets ws)) refl e
    by_reply (Ok (Err v)) e = is_refused _ (irreducible read e)

    when_read : AskedBy (reply_by short table ws (length out))
    unfolding reply_by
    when_read = by_reply (judgement table full_sets ws).reply refl

module _ {A : Type 0} (short : Refusal) where
  asked : (list : Result ℕ Refused) (table ws : List ℕ) (made out : List A) → AskedBy short list table ws made out (on_list list (reply_by short table ws (length out)))
  asked (Ok n) table ws made out = when_read short (Ok n) table ws made out n refl
  asked (Err x) table ws made out = is_refused short (Err x) table ws made out x (in_list refl)

  -- of any call that answers so
  pub asked_under : (j : Judgement) (list ws : List ℕ) (made out : List A)
      → Asked short (guards_under j list).reply (guards_under j list).table ws made out (reply_under short j list ws (length out))
      (out_after (reply_under short j list ws (length out)) made out)
  unfolding reply_under
  asked_under j list ws made out = asked (guards_under j list).reply (guards_under j list).table ws made out

asked_for_order : (j : Judgement) (list ws out : List ℕ)
    → Asked refusal.OutputBuffer (guards_under j list).reply (guards_under j list).table ws (serial_words (guards_under j list).table ws) out
    (order_under j list ws (length out)) (out_under j list ws out)
unfolding out_under
asked_for_order j list ws out = asked_under refusal.OutputBuffer j list ws (serial_words (guards_under j list).table ws) out

-- The third term.
pub third_term : ThirdTerm
third_term = (
  equal_exactly,
  λ table ws r c. (order_equal table ws r c, order_contiguous table ws r c),
  asked_for_order,
)

-- A thread's block that is open at the end begins at one place, and the first such begin is one place.
one_open : (ws : List ℕ) (t b c : ℕ) → Open ws t b → Open ws t c → b ≡ c
one_open ws t b c h k =
    by_test (ltb b c) (λ q. absurd (h.stays c (ltb-true b c q) (omega (arith, k.within)) k.raised))
    (λ q. by_test (ltb c b) (λ r. absurd (k.stays b (ltb-true c b r) (omega (arith, h.within)) h.raised))
    (λ r. omega (arith, ltb-false b c q, ltb-false c b r)))

pub one_first_open : OneFirstOpen
one_first_open = (one_open, λ ws b c h k. omega (arith, h.smallest k.thread c k.is_open, k.smallest h.thread b h.is_open))
