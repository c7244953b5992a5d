-- A frame passes in sequence exactly if figure 4 has a step for it. In this order: the state that an action leads to, how an action stands in
-- sequence, what follows from its answer and what the answer follows from, the claim.
use Rattle.std.specs.Prelude.{Ok, Err}
use Prim.Native.Nat.{ℕ, ◌+◌, ◌-◌, ◌≤◌, ◌<◌}
use mathlib.Core.Path.{◌≡◌, refl, ap, subst}
use mathlib.Core.Bool.{Bool, true, false, cond}
use native.Mathlib.Omega.{arith}
use borrow.Author.Tests.{eqb-true, eqb-false, eq-eqb, ne_eqb, le-leb, lt-leb, leb-true, leb-false}
use lib.Dec.{eqb, leb}
use lib.ListN.{get_or, set}
use Rattle.frame.specs.Limits.{deepest, most_held}
use Rattle.laws.proofs.Logic.{never}
use Rattle.frame.specs.declared.Lock.{Lock}
use Rattle.frame.specs.declared.Frame.{Frame}
use Rattle.frame.specs.declared.Action.{Action}
use Rattle.frame.specs.declared.Action.TheVariants as action
use Rattle.frame.specs.declared.Refusal.TheVariants as refusal
use Rattle.soundness.specs.Soundness.{state_of, owner_of, count_of, with_count, with_owner, Stepped, stepped, step_action, step_frame}
use Rattle.soundness.specs.declared.State.{State}
use Rattle.soundness.specs.declared.Level.{Level}
use Rattle.soundness.specs.declared.Level.TheVariants.{Outer, Inner}
use Rattle.rules.specs.Figures.{Acts, act_read, act_write, act_acquire, act_release, act_reentrant_acquire, act_reentrant_release, act_other_begin, act_other_end, BelowLimit, SoundnessIsOfTheRules}

-- The state that an action leads to where it has a step.
abbrev pub acted : ℕ → Action → State → State
acted t (action.Acquire m) s = cond (eqb (owner_of m s) 0) (with_owner m (t + 1) 1 s) (with_count m (count_of m s + 1) s)
acted t (action.Release m) s = cond (leb (count_of m s) 1) (with_owner m 0 0 s) (with_count m (count_of m s - 1) s)
acted t (action.Read x) s = s
acted t (action.Write x) s = s
acted t action.Begin s = state_of s.owners s.counts (set s.depths t (get_or s.depths t 0 + 1))
acted t action.End s = state_of s.owners s.counts (set s.depths t (get_or s.depths t 0 - 1))

-- an owner is not none
owned : (o t : ℕ) → o ≡ t + 1 → eqb o 0 ≡ false
owned o t e = ne_eqb o 0 (λ z. omega arith)

pub acts_to : {s : State} {t : ℕ} {n : State} {a : Action} → Acts s t a n → n ≡ acted t a s
acts_to act_read = refl
acts_to act_write = refl
acts_to (act_acquire e) = rw (eq-eqb _ _ e)
acts_to (act_release e h) = rw (le-leb _ _ h)
acts_to {s = s} {t = t} (act_reentrant_acquire {m = m} e) = rw (owned (owner_of m s) t e)
acts_to (act_reentrant_release e h) = rw (lt-leb _ _ h)
acts_to act_other_begin = refl
acts_to (act_other_end h) = refl

module _ (s : State) (t : ℕ) where
  -- How an action stands in sequence: it has a step below the limits, or it is refused for want of one or at a limit.
  data Stands : Action → Stepped → Type 0 where
    passes : {a : Action} {x : Level} {n : State} → Acts s t a n → BelowLimit s t a → Stands a (stepped (Ok x) n)
    taken : {m : Lock} → (owner_of m s ≡ 0 → ⊥) → (owner_of m s ≡ t + 1 → ⊥) → Stands (action.Acquire m) (stepped (Err refusal.LockTaken) s)
    too_often : {m : Lock} → owner_of m s ≡ t + 1 → most_held ≤ count_of m s → Stands (action.Acquire m) (stepped (Err refusal.TooOften) s)
    not_held : {m : Lock} → (owner_of m s ≡ t + 1 → ⊥) → Stands (action.Release m) (stepped (Err refusal.LockNotHeld) s)
    too_deep : deepest ≤ get_or s.depths t 0 → Stands action.Begin (stepped (Err refusal.TooDeep) s)
    none_open : get_or s.depths t 0 ≡ 0 → Stands action.End (stepped (Err refusal.NoOpenBlock) s)

  -- each action by its tests
  acquire_stands : (m : Lock) (a b d : Bool) → eqb (owner_of m s) 0 ≡ a → eqb (owner_of m s) (t + 1) ≡ b → leb most_held (count_of m s) ≡ d
      → Stands (action.Acquire m) (step_action t (action.Acquire m) s)
  unfolding step_action
  acquire_stands m true b d p q r = rw p (passes (act_acquire (eqb-true _ _ p)) (λ e. absurd (omega (arith, eqb-true (owner_of m s) 0 p))))
  acquire_stands m false true true p q r = rw (p, q, r) (too_often (eqb-true _ _ q) (leb-true most_held (count_of m s) r))
  acquire_stands m false true false p q r =
      rw (p, q, r) (passes (act_reentrant_acquire (eqb-true _ _ q)) (λ e. leb-false most_held (count_of m s) r))
  acquire_stands m false false d p q r = rw (p, q) (taken (eqb-false _ _ p) (eqb-false _ _ q))

  release_stands : (m : Lock) (a b : Bool) → eqb (owner_of m s) (t + 1) ≡ a → leb (count_of m s) 1 ≡ b
      → Stands (action.Release m) (step_action t (action.Release m) s)
  unfolding step_action
  release_stands m true true p q = rw (p, q) (passes (act_release (eqb-true _ _ p) (leb-true (count_of m s) 1 q)) tt)
  release_stands m true false p q = rw (p, q) (passes (act_reentrant_release (eqb-true _ _ p) (leb-false (count_of m s) 1 q)) tt)
  release_stands m false b p q = rw p (not_held (eqb-false _ _ p))

  begin_stands : (b : Bool) → leb deepest (get_or s.depths t 0) ≡ b → Stands action.Begin (step_action t action.Begin s)
  unfolding step_action
  begin_stands true q = rw q (too_deep (leb-true deepest (get_or s.depths t 0) q))
  begin_stands false q = rw q (passes act_other_begin (omega (arith, leb-false deepest (get_or s.depths t 0) q)))

  end_stands : (b : Bool) → eqb (get_or s.depths t 0) 0 ≡ b → Stands action.End (step_action t action.End s)
  unfolding step_action
  end_stands true q = rw q (none_open (eqb-true _ _ q))
  end_stands false q = rw q (passes (act_other_end (omega (arith, eqb-false (get_or s.depths t 0) 0 q))) tt)

  stands : (a : Action) → Stands a (step_action t a s)
  unfolding step_action
  stands (action.Acquire m) = acquire_stands m (eqb (owner_of m s) 0) (eqb (owner_of m s) (t + 1)) (leb most_held (count_of m s)) refl refl refl
  stands (action.Release m) = release_stands m (eqb (owner_of m s) (t + 1)) (leb (count_of m s) 1) refl refl
  stands (action.Read x) = passes act_read tt
  stands (action.Write x) = passes act_write tt
  stands action.Begin = begin_stands (leb deepest (get_or s.depths t 0)) refl
  stands action.End = end_stands (eqb (get_or s.depths t 0) 0) refl

  -- an acquire of another thread's lock, a release of a lock that is not held and an end with none open have no step
  no_acquire : (m : Lock) → (owner_of m s ≡ 0 → ⊥) → (owner_of m s ≡ t + 1 → ⊥) → (n : State) → Acts s t (action.Acquire m) n → ⊥
  no_acquire m h g n (act_acquire e) = h e
  no_acquire m h g n (act_reentrant_acquire e) = g e

  no_release : (m : Lock) → (owner_of m s ≡ t + 1 → ⊥) → (n : State) → Acts s t (action.Release m) n → ⊥
  no_release m h n (act_release e l) = h e
  no_release m h n (act_reentrant_release e l) = h e

  no_end : get_or s.depths t 0 ≡ 0 → (n : State) → Acts s t action.End n → ⊥
  no_end e n (act_other_end h) = omega arith

  -- what follows from the answer
  next_acts : {a : Action} {x : Stepped} {y : Level} → Stands a x → x.outcome ≡ Ok y → Acts s t a x.state × BelowLimit s t a
  next_acts (passes y b) q = (y, b)
  next_acts (taken h g) q = never (cc)
  next_acts (too_often e h) q = never (cc)
  next_acts (not_held h) q = never (cc)
  next_acts (too_deep h) q = never (cc)
  next_acts (none_open h) q = never (cc)

  taken_acquire : {a : Action} {x : Stepped} → Stands a x → x.outcome ≡ Err refusal.LockTaken
      → (m : Lock) × (a ≡ action.Acquire m) × ((n : State) → Acts s t a n → ⊥)
  taken_acquire (passes y b) q = never (cc)
  taken_acquire (taken {m = m} h g) q = (m, refl, no_acquire m h g)
  taken_acquire (too_often e h) q = never (cc)
  taken_acquire (not_held h) q = never (cc)
  taken_acquire (too_deep h) q = never (cc)
  taken_acquire (none_open h) q = never (cc)

  too_often_acquire : {a : Action} {x : Stepped} → Stands a x → x.outcome ≡ Err refusal.TooOften
      → (m : Lock) × (a ≡ action.Acquire m) × (owner_of m s ≡ t + 1) × (most_held ≤ count_of m s)
  too_often_acquire (passes y b) q = never (cc)
  too_often_acquire (taken h g) q = never (cc)
  too_often_acquire (too_often {m = m} e h) q = (m, refl, e, h)
  too_often_acquire (not_held h) q = never (cc)
  too_often_acquire (too_deep h) q = never (cc)
  too_often_acquire (none_open h) q = never (cc)

  not_held_release : {a : Action} {x : Stepped} → Stands a x → x.outcome ≡ Err refusal.LockNotHeld
      → (m : Lock) × (a ≡ action.Release m) × ((n : State) → Acts s t a n → ⊥)
  not_held_release (passes y b) q = never (cc)
  not_held_release (taken h g) q = never (cc)
  not_held_release (too_often e h) q = never (cc)
  not_held_release (not_held {m = m} h) q = (m, refl, no_release m h)
  not_held_release (too_deep h) q = never (cc)
  not_held_release (none_open h) q = never (cc)

  too_deep_begin : {a : Action} {x : Stepped} → Stands a x → x.outcome ≡ Err refusal.TooDeep → (a ≡ action.Begin) × (deepest ≤ get_or s.depths t 0)
  too_deep_begin (passes y b) q = never (cc)
  too_deep_begin (taken h g) q = never (cc)
  too_deep_begin (too_often e h) q = never (cc)
  too_deep_begin (not_held h) q = never (cc)
  too_deep_begin (too_deep h) q = (refl, h)
  too_deep_begin (none_open h) q = never (cc)

  none_open_end : {a : Action} {x : Stepped} → Stands a x → x.outcome ≡ Err refusal.NoOpenBlock
      → (a ≡ action.End) × ((n : State) → Acts s t a n → ⊥)
  none_open_end (passes y b) q = never (cc)
  none_open_end (taken h g) q = never (cc)
  none_open_end (too_often e h) q = never (cc)
  none_open_end (not_held h) q = never (cc)
  none_open_end (too_deep h) q = never (cc)
  none_open_end (none_open h) q = (refl, no_end h)

  -- what the answer follows from
  acts_next : {a : Action} {n : State} → Acts s t a n → BelowLimit s t a → (x : Level) × (step_action t a s ≡ stepped (Ok x) n)
  unfolding step_action
  acts_next act_read b = (Outer, refl)
  acts_next act_write b = (Outer, refl)
  acts_next (act_acquire e) b = (Outer, rw (eq-eqb _ _ e))
  acts_next (act_release e h) b = (Outer, rw (eq-eqb _ _ e, le-leb _ _ h))
  acts_next (act_reentrant_acquire {m = m} e) b = (Inner, rw (owned (owner_of m s) t e, eq-eqb _ _ e, lt-leb most_held (count_of m s) (b e)))
  acts_next (act_reentrant_release {m = m} e h) b = (Inner, rw (eq-eqb _ _ e, lt-leb (count_of m s) 1 h))
  acts_next act_other_begin b = (Outer, rw (lt-leb deepest (get_or s.depths t 0) b))
  acts_next (act_other_end h) b = (Outer, rw (ne_eqb (get_or s.depths t 0) 0 (omega arith)))

  acquire_taken : {a : Action} {x : Stepped} → Stands a x → (m : Lock) → a ≡ action.Acquire m → ((n : State) → Acts s t a n → ⊥)
      → x.outcome ≡ Err refusal.LockTaken
  acquire_taken (passes {n = n} y b) m e none = absurd (none n y)
  acquire_taken (taken h g) m e none = refl
  acquire_taken (too_often q h) m e none = absurd (none _ (act_reentrant_acquire q))
  acquire_taken (not_held h) m e none = never (cc)
  acquire_taken (too_deep h) m e none = never (cc)
  acquire_taken (none_open h) m e none = never (cc)

  acquire_too_often : {a : Action} {x : Stepped} → Stands a x → (m : Lock) → a ≡ action.Acquire m → owner_of m s ≡ t + 1 → most_held ≤ count_of m s
      → x.outcome ≡ Err refusal.TooOften
  acquire_too_often (passes y b) m e o l = let c : owner_of m s ≡ t + 1 → count_of m s < most_held = rw e at b in absurd (omega (arith, c o))
  acquire_too_often (taken {m = k} h g) m e o l = let z : k ≡ m = cc in absurd (g (rw z o))
  acquire_too_often (too_often q h) m e o l = refl
  acquire_too_often (not_held h) m e o l = never (cc)
  acquire_too_often (too_deep h) m e o l = never (cc)
  acquire_too_often (none_open h) m e o l = never (cc)

  release_not_held : {a : Action} {x : Stepped} → Stands a x → (m : Lock) → a ≡ action.Release m → ((n : State) → Acts s t a n → ⊥)
      → x.outcome ≡ Err refusal.LockNotHeld
  release_not_held (passes {n = n} y b) m q none = absurd (none n y)
  release_not_held (taken h g) m q none = never (cc)
  release_not_held (too_often e h) m q none = never (cc)
  release_not_held (not_held h) m q none = refl
  release_not_held (too_deep h) m q none = never (cc)
  release_not_held (none_open h) m q none = never (cc)

  begin_too_deep : {a : Action} {x : Stepped} → Stands a x → a ≡ action.Begin → deepest ≤ get_or s.depths t 0 → x.outcome ≡ Err refusal.TooDeep
  begin_too_deep (passes y b) q d = let c : get_or s.depths t 0 < deepest = rw q at b in absurd (omega arith)
  begin_too_deep (taken h g) q d = never (cc)
  begin_too_deep (too_often e h) q d = never (cc)
  begin_too_deep (not_held h) q d = never (cc)
  begin_too_deep (too_deep h) q d = refl
  begin_too_deep (none_open h) q d = never (cc)

  end_none_open : {a : Action} {x : Stepped} → Stands a x → a ≡ action.End → ((n : State) → Acts s t a n → ⊥) → x.outcome ≡ Err refusal.NoOpenBlock
  end_none_open (passes {n = n} y b) q none = absurd (none n y)
  end_none_open (taken h g) q none = never (cc)
  end_none_open (too_often e h) q none = never (cc)
  end_none_open (not_held h) q none = never (cc)
  end_none_open (too_deep h) q none = never (cc)
  end_none_open (none_open h) q none = refl

-- a frame that passes has a step below the limits
passes_acts : (f : Frame) (s n : State) (x : Level) → step_frame f s ≡ stepped (Ok x) n
    → Acts s f.thread.0 f.action n × BelowLimit s f.thread.0 f.action
passes_acts f s n x e =
    let p = next_acts s f.thread.0 (stands s f.thread.0 f.action) (ap (λ (y : Stepped). y.outcome) e) in
    (subst (Acts s f.thread.0 f.action) (ap (λ (y : Stepped). y.state) e) p.0, p.1)

pub frame_acts : {f : Frame} {s n : State} {x : Level} → step_frame f s ≡ stepped (Ok x) n → Acts s f.thread.0 f.action n
frame_acts {f} {s} {n} {x} e = (passes_acts f s n x e).0

-- Soundness in sequence is that of figure 4's rules, but for the limits.
pub soundness_is_of_the_rules : SoundnessIsOfTheRules
soundness_is_of_the_rules f s =
    let t = f.thread.0 in
    let y = stands s t f.action in (
      λ n. (λ p. passes_acts f s n p.0 p.1, λ p. acts_next s t p.0 p.1),
      (taken_acquire s t y, λ p. acquire_taken s t y p.0 p.1 p.2),
      (not_held_release s t y, λ p. release_not_held s t y p.0 p.1 p.2),
      (too_deep_begin s t y, λ p. begin_too_deep s t y p.0 p.1),
      (none_open_end s t y, λ p. end_none_open s t y p.0 p.1),
      (too_often_acquire s t y, λ p. acquire_too_often s t y p.0 p.1 p.2 p.3),
    )
