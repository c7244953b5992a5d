-- A lock has a count exactly if it has an owner, and one of 1 to 15. In this order: a store to a lock, one action, frames, the claim.
use Rattle.std.specs.Prelude.{Ok}
use Prim.Native.Nat.{ℕ, ◌+◌, ◌-◌, ◌≤◌, ◌<◌}
use mathlib.Core.Path.{◌≡◌, refl, sym, ap, ◌∙◌}
use mathlib.Core.Logic.{◌⊎◌, inl, inr}
use mathlib.Core.Bool.{Bool, true, false, cond}
use mathlib.Core.List.{List, [], ◌∷◌}
use native.Mathlib.Omega.{arith}
use borrow.Author.Tests.{eqb-true}
use lib.Dec.{eqb, leb}
use lib.ListN.{length, get_or, length-set}
use Rattle.frame.specs.Limits.{lock_count, deepest, most_held}
use Rattle.frame.specs.Frame.{ObjectInRange}
use Rattle.frame.specs.declared.Action.{Action}
use Rattle.frame.specs.declared.Action.TheVariants as action
use Rattle.frame.specs.declared.Lock.{Lock}
use Rattle.frame.specs.declared.Refusal.TheVariants as refusal
use Rattle.frame.proofs.Laws.{decoded_in_range}
use Rattle.laws.proofs.Lists.{get_or_set, get_or_filled}
use Rattle.soundness.specs.Soundness.{owner_of, count_of, with_count, with_owner, nested, Stepped, stepped, step_action, check_from, start}
use Rattle.soundness.specs.declared.State.{State}
use Rattle.soundness.specs.declared.Level.{Level}
use Rattle.soundness.proofs.Laws.{check_short, sound_fits, sound_first, spared, Acquired, took, took_again, acquired, Released, freed, let_go, released}
use Rattle.rules.specs.Figures.{LocksAreCounted}

-- what is said of a lock by its owner and its count
abbrev pub Is : ℕ → ℕ → Type 0
Is o c = ((o ≡ 0) × (c ≡ 0)) ⊎ ((0 < o) × (0 < c) × (c ≤ most_held))

-- Each lock is counted, and the lists have an entry for each.
pub record Counts (s : State) : Type 0 where
  pub owners_long : length s.owners ≡ lock_count
  pub counts_long : length s.counts ≡ lock_count
  pub are : (l : Lock) → l.0 < lock_count → Is (owner_of l s) (count_of l s)

is_cond : (b : Bool) (o c o' c' : ℕ) → Is o c → Is o' c' → Is (cond b o o') (cond b c c')
is_cond true o c o' c' p q = p
is_cond false o c o' c' p q = q

module _ (s : State) (k : Counts s) (l : Lock) (small : l.0 < lock_count) where
  -- an owner and a count stored, and a count alone
  put_owner : (o c : ℕ) → Is o c → Counts (with_owner l o c s)
  put_owner o c p = record {
    owners_long = length-set s.owners l.0 o ∙ k.owners_long;
    counts_long = length-set s.counts l.0 c ∙ k.counts_long;
    are = λ m h. rw (get_or_set s.owners l.0 o m.0 (omega (arith, k.owners_long)), get_or_set s.counts l.0 c m.0 (omega (arith, k.counts_long)))
        (is_cond (eqb m.0 l.0) o c (owner_of m s) (count_of m s) p (k.are m h));
  }

  put_count : (c : ℕ) → 0 < owner_of l s → 0 < c → c ≤ most_held → Counts (with_count l c s)
  put_count c o p q = record {
    owners_long = k.owners_long;
    counts_long = length-set s.counts l.0 c ∙ k.counts_long;
    are = λ m h. rw (get_or_set s.counts l.0 c m.0 (omega (arith, k.counts_long))) (go m h (eqb m.0 l.0) refl);
  }
    where
      go : (m : Lock) → m.0 < lock_count → (b : Bool) → eqb m.0 l.0 ≡ b → Is (owner_of m s) (cond b c (count_of m s))
      go m h true e = inr (rw (eqb-true m.0 l.0 e) o, p, q)
      go m h false e = k.are m h

  -- a lock that is held is held at most 15 times
  most : Is (owner_of l s) (count_of l s) → 0 < owner_of l s → count_of l s ≤ most_held
  most (inl p) o = absurd (omega arith)
  most (inr p) o = p.2

  counted_acquire : (t : ℕ) {x : Level} {n : State} → Acquired t l s x n → Counts n
  counted_acquire t (took e) = put_owner (t + 1) 1 (inr (omega arith, omega arith, omega arith))
  counted_acquire t (took_again e h) = put_count (count_of l s + 1) (omega arith) (omega arith) (omega arith)

  counted_release : (t : ℕ) {x : Level} {n : State} → Released t l s x n → Counts n
  counted_release t (freed e h) = put_owner 0 0 (inl (refl, refl))
  counted_release t (let_go e h) = put_count (count_of l s - 1) (omega arith) (omega arith) (omega (arith, most (k.are l small) (omega arith)))

-- one action that passes
pub counted_next : (t : ℕ) (a : Action) (s n : State) (x : Level) → ObjectInRange a → Counts s → step_action t a s ≡ stepped (Ok x) n → Counts n
unfolding step_action
counted_next t (action.Acquire l) s n x r k e = counted_acquire s k l r t (acquired t l s e)
counted_next t (action.Release l) s n x r k e = counted_release s k l r t (released t l s e)
counted_next t (action.Read v) s n x r k e = rw (sym (ap (λ (y : Stepped). y.state) e)) k
counted_next t (action.Write v) s n x r k e = rw (sym (ap (λ (y : Stepped). y.state) e)) k
counted_next t action.Begin s n x r k e =
    let p = spared (leb deepest (get_or s.depths t 0)) refusal.TooDeep s (nested t action.Begin s) n e in
    rw p.1 record { owners_long = k.owners_long; counts_long = k.counts_long; are = k.are }
counted_next t action.End s n x r k e =
    let p = spared (eqb (get_or s.depths t 0) 0) refusal.NoOpenBlock s (nested t action.End s) n e in
    rw p.1 record { owners_long = k.owners_long; counts_long = k.counts_long; are = k.are }

-- sound frames
counted_from : (i : ℕ) (s : State) (ws : List ℕ) → (check_from i s ws).reply ≡ (Ok tt) → Counts s → Counts (check_from i s ws).state
unfolding check_from
counted_from i s [] c k = k
counted_from i s (w ∷ ws) c k =
    let q = sound_first i s w ws c in
    let n = counted_next q.frame.thread.0 q.frame.action s q.next q.level (decoded_in_range w q.frame q.is).object k q.passes in
    rw (q.is, q.passes) (counted_from (i + 1) q.next ws q.rest n)

-- no lock is held at the start
pub start_counts : Counts start
unfolding start
start_counts = record { owners_long = refl; counts_long = refl; are = λ l h. inl (get_or_filled lock_count l.0 0, get_or_filled lock_count l.0 0) }

-- Every lock is free, or held 1 to 15 times by its owner.
pub locks_are_counted : LocksAreCounted
locks_are_counted ws e = (counted_from 0 start ws (sym (check_short ws (sound_fits ws e)) ∙ e) start_counts).are
