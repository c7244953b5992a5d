-- The table of held sets follows the owners, frame by frame.
use Rattle.std.specs.Prelude.{Ok, Err}
use Prim.Native.Nat.{ℕ, ◌+◌, ◌-◌, ◌^◌, ◌<◌}
use mathlib.Core.Path.{◌≡◌, ◌∙◌, sym, ap, refl, subst}
use mathlib.Core.List.{List}
use native.Mathlib.Omega.{arith}
use native.Mathlib.Decide.{ℕ_discrete}
use lib.Dec.{eqb, leb}
use lib.ListN.{length, get_or, set, replicate, length-set, get_or-replicate}
use lib.Seq.{get_or-set_same, get_or-set_other}
use Rattle.frame.specs.Limits.{thread_count, lock_count, deepest}
use Rattle.frame.specs.Frame.{ObjectInRange, InRange}
use Rattle.frame.specs.declared.Frame.{Frame}
use Rattle.frame.specs.declared.Action.{Action}
use Rattle.frame.specs.declared.Action.TheVariants as action
use Rattle.frame.specs.declared.Lock.{Lock}
use Rattle.frame.specs.declared.Refusal.{Refusal}
use Rattle.frame.specs.declared.Refusal.TheVariants as refusal
use Rattle.soundness.specs.Soundness.{nested, Stepped, stepped, step_action, step_frame}
use Rattle.soundness.specs.declared.State.{State}
use Rattle.soundness.proofs.Laws.{spared, Acquired, took, took_again, acquired, Released, freed, let_go, released}
use Rattle.soundness.specs.declared.Level.{Level}
use Rattle.reply.specs.Reply.{Verdict}
use Rattle.operation.specs.declared.Operation.{Operation}
use Rattle.operation.specs.Operation.{operation_of}
use Rattle.instrumented.specs.Rules.{Judging, judged, judge_operation}
use Rattle.instrumented.specs.Held.{held_set, Holdable, held, Follows}
use Rattle.judge.proofs.Held.{mine, mine_other, held_lt, held_none, held_same, held_take, held_free}
use Rattle.judge.proofs.Laws.{access_fits, access_holds}
use Rattle.turn.specs.declared.Stop.TheVariants as stop
use Rattle.turn.specs.Turn.{turned, turned_to, by_verdict}

-- a store to the held sets
stored : (owners owners' held : List ℕ) (t x : ℕ) → t < thread_count → length owners' ≡ lock_count → Follows held owners
    → x ≡ held_set t owners' → ((u : ℕ) → (u ≡ t → ⊥) → held_set u owners' ≡ held_set u owners) → Follows (set held t x) owners'
stored owners owners' held t x small long fs e other = record {
  owners_long = long;
  held_long = length-set held t x ∙ fs.held_long;
  are = λ u h. go u h (ℕ_discrete u t);
}
  where
    go : (u : ℕ) → u < thread_count → Dec (u ≡ t) → get_or (set held t x) u 0 ≡ held_set u owners'
    go u h (yes p) = subst (λ (v : ℕ). get_or (set held t x) v 0 ≡ held_set v owners') (sym p) (get_or-set_same held t x 0 (omega (arith, fs.held_long)) ∙ e)
    go u h (no n) = get_or-set_other held t u x 0 n ∙ fs.are u h ∙ sym (other u n)

-- what a frame that passes needs of the held sets and makes of them
pub record Held (guards hs : List ℕ) (t : ℕ) (x : Level) (a : Action) (n : State) : Type 0 where
  pub fits : Holdable (operation_of guards x a) (get_or hs t 0)
  pub follows : Follows (held t (operation_of guards x a) hs) n.owners

module _ (guards hs : List ℕ) (t : ℕ) (s : State) (small : t < thread_count) (fs : Follows hs s.owners) where
  held_acquire : (l : Lock) → l.0 < lock_count → {x : Level} {n : State} → Acquired t l s x n → Held guards hs t x (action.Acquire l) n
  held_acquire l lock (took free) =
      let h : l.0 < length s.owners = omega (arith, fs.owners_long) in
      let long : length (set s.owners l.0 (t + 1)) ≡ lock_count = length-set s.owners _ _ ∙ fs.owners_long in
      let more : held_set t (set s.owners l.0 (t + 1)) ≡ get_or hs t 0 + 2 ^ l.0 = held_take s.owners l.0 t h free ∙ rw (fs.are t small) in
      let below : held_set t (set s.owners l.0 (t + 1)) < 2 ^ lock_count = subst (λ (k : ℕ). held_set t (set s.owners l.0 (t + 1)) < 2 ^ k) long (held_lt t (set s.owners l.0 (t + 1))) in
      record {
        fits = (lock, rw (← more) below);
        follows = stored s.owners (set s.owners l.0 (t + 1)) hs t (get_or hs t 0 + 2 ^ l.0) small long fs (sym more) (λ u o.
            held_same s.owners l.0 (t + 1) h u (ap (mine u) free ∙ mine_other u 0 (omega arith) ∙ sym (mine_other u (t + 1) (λ z. o (omega arith)))));
      }
  held_acquire l lock (took_again own below) = record { fits = lock; follows = fs }

  held_release : (l : Lock) → l.0 < lock_count → {x : Level} {n : State} → Released t l s x n → Held guards hs t x (action.Release l) n
  held_release l lock (freed own last) =
      let h : l.0 < length s.owners = omega (arith, fs.owners_long) in
      let long : length (set s.owners l.0 0) ≡ lock_count = length-set s.owners _ _ ∙ fs.owners_long in
      let less : held_set t (set s.owners l.0 0) + 2 ^ l.0 ≡ get_or hs t 0 = held_free s.owners l.0 t h own ∙ sym (fs.are t small) in
      record {
        fits = (lock, omega arith);
        follows = stored s.owners (set s.owners l.0 0) hs t (get_or hs t 0 - 2 ^ l.0) small long fs (omega arith) (λ u o.
            held_same s.owners l.0 0 h u (ap (mine u) own ∙ mine_other u (t + 1) (λ z. o (omega arith)) ∙ sym (mine_other u 0 (omega arith))));
      }
  held_release l lock (let_go own more) = record { fits = lock; follows = fs }

  pub held_step : {x : Level} {n : State} (a : Action) → ObjectInRange a → step_action t a s ≡ stepped (Ok x) n → Held guards hs t x a n
  unfolding step_action
  held_step (action.Acquire l) r e = held_acquire l r (acquired t l s e)
  held_step (action.Release l) r e = held_release l r (released t l s e)
  held_step (action.Read v) r e = record {
    fits = access_fits (get_or guards v.0 0) v (get_or hs t 0) r;
    follows = rw (access_holds (get_or guards v.0 0) v t hs, ← ap (λ (y : Stepped). y.state) e) fs;
  }
  held_step (action.Write v) r e = record {
    fits = access_fits (get_or guards v.0 0) v (get_or hs t 0) r;
    follows = rw (access_holds (get_or guards v.0 0) v t hs, ← ap (λ (y : Stepped). y.state) e) fs;
  }
  held_step {n = n} action.Begin r e =
      let p = spared (leb deepest (get_or s.depths t 0)) refusal.TooDeep s (nested t action.Begin s) n e in
      record { fits = tt; follows = rw p.1 fs }
  held_step {n = n} action.End r e =
      let p = spared (eqb (get_or s.depths t 0) 0) refusal.NoOpenBlock s (nested t action.End s) n e in
      record { fits = tt; follows = rw p.1 fs }

-- no thread holds a lock at the start
pub none_held : Follows (replicate thread_count 0) (replicate lock_count 0)
none_held = record {
  owners_long = refl;
  held_long = refl;
  are = λ t h. get_or-replicate thread_count t 0 0 h ∙ sym (held_none t lock_count);
}

-- One frame, with the locks and depths s before it.
module _ (guards : List ℕ) (s : State) {hs : List ℕ} (fs : Follows hs s.owners) {f : Frame} (r : InRange f) where
  module _ {x : Level} {n : State} (g : step_frame f s ≡ stepped (Ok x) n) where
    pub frame_held : Held guards hs f.thread.0 x f.action n
    frame_held = held_step guards hs f.thread.0 s r.thread fs f.action r.object g

    -- a frame that passes is judged
    pub turn_judged : (i : ℕ) (j : Judging) {o : Operation} {v : Verdict} {k : Judging} → o ≡ operation_of guards x f.action
        → judge_operation i f.thread (get_or s.depths f.thread.0 0) (get_or hs f.thread.0 0) o j ≡ judged v k
        → turned guards i f s j ≡ by_verdict v n k
    turn_judged i j oe a = let q = rw (fs.are f.thread.0 r.thread, oe) at a in rw (g, q)

  -- one that does not is refused
  pub turn_refused : (i : ℕ) (j : Judging) {n : State} {b : Refusal} → step_frame f s ≡ stepped (Err b) n
      → turned guards i f s j ≡ turned_to (Err (stop.Refused b)) n j
  turn_refused i j g = rw g
