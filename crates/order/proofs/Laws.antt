-- What the calls for the serial order answer and leave, step by step.
use Rattle.std.specs.Prelude.{Result, Ok, Err, Option, Some, None}
use Prim.Native.Nat.{ℕ, ◌≤◌}
use mathlib.Core.Path.{◌≡◌, refl, sym, ap, ◌∙◌}
use mathlib.Core.Bool.{Bool, true, false}
use mathlib.Core.List.{List, ◌++◌}
use native.Mathlib.Omega.{arith}
use borrow.Author.Tests.{ltb-false}
use lib.Dec.{ltb}
use lib.IntN.{ℤ}
use lib.ListN.{length, drop}
use Rattle.laws.proofs.Logic.{never, by_test}
use Rattle.frame.specs.Refusal.{refused_at}
use Rattle.frame.specs.declared.Refusal.{Refusal}
use Rattle.guards.specs.Guards.{guards_under}
use Rattle.guards.specs.Judgement.{Judgement}
use Rattle.reply.specs.Reply.{reducible, Reply}
use Rattle.pass.specs.Pass.{full_sets, judgement, open_at_end}
use Rattle.rules.specs.Choice.{Reducible as ReducibleUnder}
use Rattle.exchange.specs.Exchange.{Exchanges}
use Rattle.exchange.proofs.Exchange.{exchanges_length}
use Rattle.serial.specs.Order.{Closed, serial_words}
use Rattle.serial.specs.Walk.{walk_of}
use Rattle.displacement.specs.Displacement.{places, ordered_places, displacements, moved}
use Rattle.displacement.proofs.Places.{places_length, moved_all}
use Rattle.walk.specs.Laid.{put_word, put_move, laid}
use Rattle.walk.proofs.Laws.{laid_words, laid_moves}
use Rattle.orderlaws.proofs.Order.{walk_is_order, order_length, order_permutes, closed_open}
use Rattle.order.specs.Order.{reducible_reply, irreducible, closed_reply, reply_by, out_after, on_list, reply_under, written_under}
use Rattle.frame.specs.declared.Refused.{Refused}

-- a reply that passes the test
pub passes : (r : Reply) → reducible_reply r ≡ true → r ≡ reducible
passes (Err x) z = never (cc)
passes (Ok (Ok tt)) z = refl
passes (Ok (Err v)) z = never (cc)

-- A recording that is not refused.
pub record Accepted (table ws : List ℕ) (room n : ℕ) : Type 0 where
  pub reducibly : (judgement table full_sets ws).reply ≡ reducible
  pub closed : Closed ws
  pub fits : length ws ≤ room
  pub count : n ≡ length ws

pub accepted : (short : Refusal) (table ws : List ℕ) (room n : ℕ) → reply_by short table ws room ≡ Ok n → Accepted table ws room n
unfolding reply_by
accepted short table ws room n e = by_test (reducible_reply (judgement table full_sets ws).reply)
    (λ b. let r = passes (judgement table full_sets ws).reply b in
    ended r (open_at_end (judgement table full_sets ws)) refl (ltb room (length ws)) refl (rw b at e))
    (λ b. absurd (refused (judgement table full_sets ws).reply b (rw b at e)))
  where
    refused : (r : Reply) → reducible_reply r ≡ false → irreducible r ≡ Ok n → ⊥
    refused (Err x) b q = never (cc)
    refused (Ok (Ok tt)) b q = never (cc)
    refused (Ok (Err v)) b q = never (cc)

    ended : (judgement table full_sets ws).reply ≡ reducible → (m : Option ℕ) → open_at_end (judgement table full_sets ws) ≡ m → (t : Bool) → ltb room (length ws) ≡ t
        → closed_reply short m (length ws) room ≡ Ok n → Accepted table ws room n
    ended r (Some b) o t l q = never (cc)
    ended r None o true l q = let z : ◌≡◌ {A = Result ℕ Refused} (Err (refused_at short (length ws))) (Ok n) = rw l at q in never (cc)
    ended r None o false l q =
        let z : ◌≡◌ {A = Result ℕ Refused} (Ok (length ws)) (Ok n) = rw l at q in
        record { reducibly = r; closed = closed_open table ws r o; fits = ltb-false room (length ws) l; count = cc }

pub accepted_under : (short : Refusal) (j : Judgement) (list ws : List ℕ) (room n : ℕ) → reply_under short j list ws room ≡ Ok n
    → Accepted (guards_under j list).table ws room n
unfolding reply_under
accepted_under short j list ws room n e = go (guards_under j list).reply e
  where
    go : (q : Result ℕ Refused) → on_list q (reply_by short (guards_under j list).table ws room) ≡ Ok n → Accepted (guards_under j list).table ws room n
    go (Ok m) t = accepted short (guards_under j list).table ws room n t
    go (Err x) t = never (cc)

-- The walk over a reducible, closed recording puts its frames in their serial order into a table: of words, and of displacements.
module _ (guards ws : List ℕ) (r : ReducibleUnder guards ws) (c : Closed ws) where
  ordered : Exchanges (λ x y. true) (places ws) (ordered_places guards ws)
  ordered = order_permutes guards ws (places ws) (places_length 0 ws) r c

  pub walked : walk_of guards ws (places ws) ≡ ordered_places guards ws
  walked = walk_is_order guards ws (places ws) (places_length 0 ws) r c

  pub walk_long : length (walk_of guards ws (places ws)) ≡ length ws
  walk_long = ap length walked ∙ sym (exchanges_length (λ x y. true) ordered) ∙ places_length 0 ws

  words_ordered : (out : List ℕ) → length ws ≤ length out → laid put_word ws 0 (ordered_places guards ws) out ≡ serial_words guards ws ++ drop (length ws) out
  words_ordered out h =
      let same = walk_is_order guards ws ws refl r c in
      let long = ap length same ∙ order_length guards ws r c in
      ap (λ (l : List ℕ). laid put_word ws 0 l out) (sym walked)
      ∙ (laid_words guards ws out (omega (arith, long)) ∙ rw (same, order_length guards ws r c))

  -- What the walk moves are the displacements.
  pub walk_moves : (out : List ℤ) → length ws ≤ length out → moved 0 (walk_of guards ws (places ws)) out ≡ displacements guards ws ++ drop (length ws) out
  unfolding displacements
  walk_moves out h = ap (λ (l : List ℕ). moved 0 l out) walked ∙ moved_all ws (ordered_places guards ws) ordered out h

  moves_ordered : (out : List ℤ) → length ws ≤ length out → laid put_move ws 0 (ordered_places guards ws) out ≡ displacements guards ws ++ drop (length ws) out
  moves_ordered out h =
      ap (λ (l : List ℕ). laid put_move ws 0 l out) (sym walked) ∙ (laid_moves ws 0 (walk_of guards ws (places ws)) out ∙ walk_moves out h)

-- What a request leaves, by its reply.
module _ (short : Refusal) (j : Judgement) (list ws : List ℕ) where
  written_refused : {A : Type 0} (put : ℕ → ℕ → ℕ → List A → List A) (table : List A) {x : Refused} → reply_under short j list ws (length table) ≡ Err x
      → written_under put short j list ws table ≡ table
  unfolding written_under
  written_refused put table e = rw e

  written_is : {A : Type 0} (put : ℕ → ℕ → ℕ → List A → List A) (table : List A) {n : ℕ} → reply_under short j list ws (length table) ≡ Ok n
      → written_under put short j list ws table ≡ laid put ws 0 (ordered_places (guards_under j list).table ws) table
  unfolding written_under
  written_is put table e = rw e

  pub words_under : (out : List ℕ) → written_under put_word short j list ws out
      ≡ out_after (reply_under short j list ws (length out)) (serial_words (guards_under j list).table ws) out
  words_under out = go (reply_under short j list ws (length out)) refl
    where
      go : (q : Result ℕ Refused) → reply_under short j list ws (length out) ≡ q
          → written_under put_word short j list ws out ≡ out_after q (serial_words (guards_under j list).table ws) out
      go (Err x) e = written_refused put_word out e
      go (Ok n) e =
          let a = accepted_under short j list ws (length out) n e in
          written_is put_word out e ∙ (words_ordered (guards_under j list).table ws a.reducibly a.closed out a.fits ∙ rw a.count)

  pub moves_under : (out : List ℤ) → written_under put_move short j list ws out
      ≡ out_after (reply_under short j list ws (length out)) (displacements (guards_under j list).table ws) out
  moves_under out = go (reply_under short j list ws (length out)) refl
    where
      go : (q : Result ℕ Refused) → reply_under short j list ws (length out) ≡ q
          → written_under put_move short j list ws out ≡ out_after q (displacements (guards_under j list).table ws) out
      go (Err x) e = written_refused put_move out e
      go (Ok n) e =
          let a = accepted_under short j list ws (length out) n e in
          written_is put_move out e ∙ (moves_ordered (guards_under j list).table ws a.reducibly a.closed out a.fits ∙ rw a.count)
