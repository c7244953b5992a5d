-- One frame: what the pass makes of it is what the rules say of it.
use Rattle.std.specs.Prelude.{Ok}
use Prim.Native.Nat.{ℕ, ◌+◌, ◌-◌, ◌≤◌, ◌<◌}
use mathlib.Core.Path.{◌≡◌, refl, sym, ap, ◌∙◌}
use mathlib.Core.Bool.{Bool, true, false}
use mathlib.Core.Logic.{inr}
use mathlib.Core.List.{List}
use native.Mathlib.Omega.{arith}
use native.Mathlib.Decide.{ℕ_discrete}
use borrow.Author.Tests.{eqb-true, eqb-false, eq-eqb, ne_eqb}
use lib.Bits.{bit_and}
use lib.Dec.{eqb, leb}
use lib.ListN.{get_or, set, length-set}
use Rattle.turn.specs.Turn.{judge_frame}
use Rattle.frame.specs.Limits.{thread_count, variable_count, deepest}
use Rattle.frame.specs.Frame.{ObjectInRange, InRange}
use Rattle.frame.specs.declared.Thread.{Thread}
use Rattle.frame.specs.declared.Lock.{Lock}
use Rattle.frame.specs.declared.Variable.{Variable}
use Rattle.frame.specs.declared.Frame.{Frame}
use Rattle.frame.specs.declared.Refusal.TheVariants as refusal
use Rattle.frame.specs.declared.Action.{Action}
use Rattle.frame.specs.declared.Action.TheVariants as action
use Rattle.guards.specs.Guards.{guard_of}
use Rattle.guards.specs.declared.Guard.{Guard}
use Rattle.guards.specs.declared.Guard.TheVariants as guard
use Rattle.reply.specs.declared.Kind.{Kind}
use Rattle.reply.specs.declared.Kind.TheVariants.{GuardNotHeld, UnprotectedAfterCommit, AcquireAfterCommit, SetEmptied}
use Rattle.soundness.specs.Soundness.{owner_of, count_of, nested, Stepped, stepped, step_action, step_frame}
use Rattle.soundness.specs.declared.State.{State}
use Rattle.soundness.specs.declared.Level.{Level}
use Rattle.soundness.proofs.Laws.{spared, Acquired, took, took_again, acquired, Released, freed, let_go, released}
use Rattle.instrumented.specs.Rules.{Judging, judging_of, Judged, judged, phase_at, violation, contains, committed, with_commit, acquire_in, unprotected_in, judge_operation}
use Rattle.operation.specs.Operation.{guarded_access, operation_of}
use Rattle.instrumented.specs.Held.{held_set}
use Rattle.operation.specs.declared.Operation.TheVariants.{Protected, Inferred, Begin, End}
use Rattle.laws.proofs.Logic.{never}
use Rattle.rules.specs.Figures.{Outside, PreCommit, PostCommit, put_stage, Accesses, reads, writes, Steps, ins_access_protected, ins_race_commit, ins_race_outside, ins_acquire, ins_release_commit, ins_release_outside, ins_reentrant_acquire, ins_reentrant_release, ins_enter, ins_nested_enter, ins_exit, ins_nested_exit, ins2_access, Wrong, wrong_access_protected, wrong_race_violate, wrong_acquire, wrong2_race, guarding, InBlock, Committed, guard_locks, lock_set}
use Rattle.rules.proofs.Store.{held_is, stage_at, store_of, Sized, stays, narrowed, moved, deepened, committing, stage_in, stage_committed, stage_deep}
use Rattle.rules.proofs.Marks.{Kept, Marked, kept_same, unmarked, put_set, put_same, marked, commit_begun, commit_done}

-- a thread's depth and commit
abbrev depth_of : State → Thread → ℕ
depth_of s t = get_or s.depths t.0 0

abbrev commit_of : Judging → Thread → ℕ
commit_of j t = get_or j.commits t.0 0

-- What the pass makes of a frame of thread t, x: it goes on in the state whose store the rules give, with marks by the stages of that store,
-- or it names the kind of the rule that goes wrong, its thread, the marks of its thread's phase, and the locks that the rules name.
pub data Told (P : ℕ → Guard) (s : State) (depths : List ℕ) (j : Judging) (i : ℕ) (t : Thread) (a : Action) (x : Judged) : Type 0 where
  goes : {k : Judging} → x ≡ judged (Ok tt) k → Steps P s (store_of s.depths j) t.0 a (store_of depths k) → Sized depths k
      → Marked i s.depths j depths k → Told P s depths j i t a x
  wrong : (k : Kind) → x ≡ judged (violation k i t (phase_at (depth_of s t) t j) (lock_set P (store_of s.depths j) a)) j
      → Wrong P s (store_of s.depths j) t.0 a k → Told P s depths j i t a x

module _ (guards : List ℕ) (s : State) (j : Judging) (z : Sized s.depths j) (i : ℕ) (t : Thread) (small : t.0 < thread_count) where
  -- the sizes, the marks and the store after a frame that commits
  committed_sized : (c : ℕ) → Sized s.depths (with_commit t c j)
  committed_sized c = record {
    depths_long = z.depths_long;
    begins_long = z.begins_long;
    commits_long = length-set j.commits t.0 c ∙ z.commits_long;
    sets_long = z.sets_long;
  }

  committed_marked : Marked i s.depths j s.depths (with_commit t (committed (depth_of s t) (commit_of j t) i) j)
  committed_marked =
      marked t.0 (depth_of s t) (get_or j.begins t.0 0) (committed (depth_of s t) (commit_of j t) i)
      (put_same t.0 s.depths) (put_same t.0 j.begins) (put_set t.0 j.commits _ (omega (arith, z.commits_long)))
      (commit_begun (depth_of s t) (commit_of j t) i _ (eqb (depth_of s t) 0) refl)
      (commit_done (depth_of s t) (commit_of j t) i (eqb (depth_of s t) 0) refl (eqb (commit_of j t) 0) refl)

  committed_inside : eqb (depth_of s t) 0 ≡ false
      → store_of s.depths (with_commit t (committed (depth_of s t) (commit_of j t) i) j) ≡ put_stage (store_of s.depths j) t.0 PostCommit
  committed_inside e =
      committing s.depths j z t.0 small (committed (depth_of s t) (commit_of j t) i)
      ∙ ap (put_stage (store_of s.depths j) t.0) (stage_committed (depth_of s t) (commit_of j t) i e)

  committed_outside : eqb (depth_of s t) 0 ≡ true
      → store_of s.depths (with_commit t (committed (depth_of s t) (commit_of j t) i) j) ≡ store_of s.depths j
  committed_outside e =
      committing s.depths j z t.0 small (committed (depth_of s t) (commit_of j t) i)
      ∙ stays (store_of s.depths j) t.0 _ (rw e)

  -- an acquire, by the tests of the depth and of the commit
  acquire_told : (l : Lock) → (owner_of l s ≡ t.0 + 1 → ⊥) → (p : Bool) → eqb (depth_of s t) 0 ≡ p → (q : Bool) → eqb (commit_of j t) 0 ≡ q
      → Told (guarding guards) s s.depths j i t (action.Acquire l) (acquire_in (phase_at (depth_of s t) t j) i t l j)
  acquire_told l h true e q f = rw e (goes refl (ins_acquire h (λ r. let y : Outside ≡ PostCommit = rw e at r in never (cc))) z (unmarked refl refl))
  acquire_told l h false e true f =
      rw (e, f) (goes refl (ins_acquire h (λ r. let y : PreCommit ≡ PostCommit = rw (e, f) at r in never (cc))) z (unmarked refl refl))
  acquire_told l h false e false f = wrong AcquireAfterCommit (rw (e, f)) (wrong_acquire h (rw (e, f)))

  -- a release, by the test of the depth
  release_told : (l : Lock) → count_of l s ≤ 1 → (p : Bool) → eqb (depth_of s t) 0 ≡ p
      → Told (guarding guards) s s.depths j i t (action.Release l) (judged (Ok tt) (with_commit t (committed (depth_of s t) (commit_of j t) i) j))
  release_told l h true e = goes refl (rw (committed_outside e) (ins_release_outside h (rw e))) (committed_sized _) committed_marked
  release_told l h false e = goes refl (rw (committed_inside e) (ins_release_commit h (stage_in (depth_of s t) (commit_of j t) e))) (committed_sized _) committed_marked

  -- an inner acquire or release
  inner_told : {a : Action} (l : Lock) → owner_of l s ≡ t.0 + 1 → Steps (guarding guards) s (store_of s.depths j) t.0 a (store_of s.depths j)
      → Told (guarding guards) s s.depths j i t a (judge_operation i t (depth_of s t) (held_set t.0 s.owners) (Protected l) j)
  unfolding judge_operation
  inner_told l own r = let b = held_is t.0 s.owners l ∙ eq-eqb (owner_of l s) (t.0 + 1) own in rw b (goes refl r z (unmarked refl refl))

  -- the locks that the rules name at an access
  access_locks : {a : Action} {x : Variable} → Accesses a x
      → lock_set (guarding guards) (store_of s.depths j) a ≡ guard_locks (guarding guards x.0) (get_or j.sets x.0 0)
  access_locks reads = refl
  access_locks writes = refl

  module _ {a : Action} (x : Variable) (acc : Accesses a x) where
    -- an access under a lock, by whether the thread holds it
    locked_told : (m : Lock) → guarding guards x.0 ≡ guard.Locked m → (b : Bool) → contains (held_set t.0 s.owners) m ≡ b
        → Told (guarding guards) s s.depths j i t a (judge_operation i t (depth_of s t) (held_set t.0 s.owners) (Protected m) j)
    unfolding judge_operation
    locked_told m g true e = rw e (goes refl (ins_access_protected acc g (eqb-true _ _ (sym (held_is t.0 s.owners m) ∙ e))) z (unmarked refl refl))
    locked_told m g false e =
        rw e (wrong GuardNotHeld (rw (access_locks acc, g)) (wrong_access_protected acc g (eqb-false _ _ (sym (held_is t.0 s.owners m) ∙ e))))

    -- an unprotected access, by the tests of the depth and of the commit
    unprotected_told : guarding guards x.0 ≡ guard.Unprotected → (p : Bool) → eqb (depth_of s t) 0 ≡ p → (q : Bool) → eqb (commit_of j t) 0 ≡ q
        → Told (guarding guards) s s.depths j i t a
        (unprotected_in (phase_at (depth_of s t) t j) i t (with_commit t (committed (depth_of s t) (commit_of j t) i) j) j)
    unprotected_told g true e q f =
        goes {k = with_commit t (committed (depth_of s t) (commit_of j t) i) j} (rw e) (rw (committed_outside e) (ins_race_outside acc g (rw e))) (committed_sized _) committed_marked
    unprotected_told g false e true f =
        goes {k = with_commit t (committed (depth_of s t) (commit_of j t) i) j} (rw (e, f)) (rw (committed_inside e) (ins_race_commit acc g (rw (e, f)))) (committed_sized _) committed_marked
    unprotected_told g false e false f = wrong UnprotectedAfterCommit (rw (access_locks acc, g, e, f)) (wrong_race_violate acc g (rw (e, f)))

    -- an access under an inferred guard, by whether the set and the locks held share none
    inferred_told : x.0 < variable_count → guarding guards x.0 ≡ guard.Inferred → (b : Bool) → eqb (bit_and (get_or j.sets x.0 0) (held_set t.0 s.owners)) 0 ≡ b
        → Told (guarding guards) s s.depths j i t a (judge_operation i t (depth_of s t) (held_set t.0 s.owners) (Inferred x) j)
    unfolding judge_operation
    inferred_told h g true e = rw e (wrong SetEmptied (rw (access_locks acc, g)) (wrong2_race acc g (eqb-true _ _ e)))
    inferred_told h g false e =
        let r = narrowed s.depths j z x.0 (bit_and (get_or j.sets x.0 0) (held_set t.0 s.owners)) h in
        rw e (goes refl (rw r (ins2_access acc g (eqb-false _ _ e))) record {
          depths_long = z.depths_long;
          begins_long = z.begins_long;
          commits_long = z.commits_long;
          sets_long = length-set j.sets x.0 _ ∙ z.sets_long;
        } (unmarked refl refl))

    -- a read or a write, by the guard of the variable
    access_told : x.0 < variable_count → (g : Guard) → guarding guards x.0 ≡ g
        → Told (guarding guards) s s.depths j i t a (judge_operation i t (depth_of s t) (held_set t.0 s.owners) (guarded_access g x) j)
    unfolding judge_operation
    access_told h (guard.Locked m) g = locked_told m g (contains (held_set t.0 s.owners) m) refl
    access_told h guard.Unprotected g = unprotected_told g (eqb (depth_of s t) 0) refl (eqb (commit_of j t) 0) refl
    access_told h guard.Inferred g = inferred_told h g (eqb (bit_and (get_or j.sets x.0 0) (held_set t.0 s.owners)) 0) refl

  -- the sizes after a begin or an end, and the marks where it leaves them
  deepened_sized : (d : ℕ) → Sized (set s.depths t.0 d) j
  deepened_sized d = record {
    depths_long = length-set s.depths t.0 d ∙ z.depths_long;
    begins_long = z.begins_long;
    commits_long = z.commits_long;
    sets_long = z.sets_long;
  }

  deepened_marked : (d : ℕ) → Kept InBlock i (stage_at (depth_of s t) (commit_of j t)) (get_or j.begins t.0 0) (stage_at d (commit_of j t)) (get_or j.begins t.0 0)
      → Kept Committed i (stage_at (depth_of s t) (commit_of j t)) (commit_of j t - 1) (stage_at d (commit_of j t)) (commit_of j t - 1)
      → Marked i s.depths j (set s.depths t.0 d) j
  deepened_marked d =
      marked t.0 d (get_or j.begins t.0 0) (commit_of j t)
      (put_set t.0 s.depths d (omega (arith, z.depths_long))) (put_same t.0 j.begins) (put_same t.0 j.commits)

  -- a begin, outermost or nested
  begin_told : (h : ℕ) (b : Bool) → eqb (depth_of s t) 0 ≡ b
      → Told (guarding guards) s (nested t.0 action.Begin s).depths j i t action.Begin (judge_operation i t (depth_of s t) h Begin j)
  unfolding judge_operation
  begin_told h true e =
      let r = moved s.depths j z t.0 small (set j.begins t.0 i) (depth_of s t + 1) 0 in
      let q : stage_at (depth_of s t + 1) 0 ≡ PreCommit = rw (ne_eqb (depth_of s t + 1) 0 (omega arith)) in
      let m : Marked i s.depths j (set s.depths t.0 (depth_of s t + 1)) (judging_of (set j.begins t.0 i) (set j.commits t.0 0) j.sets) =
      marked t.0 (depth_of s t + 1) i 0
      (put_set t.0 s.depths _ (omega (arith, z.depths_long)))
      (put_set t.0 j.begins i (omega (arith, z.begins_long)))
      (put_set t.0 j.commits 0 (omega (arith, z.commits_long)))
      (λ y. inr (λ x. x (rw e), refl)) (λ y. let x : PreCommit ≡ PostCommit = sym q ∙ y in never (cc)) in
      rw e (goes refl (rw (r, q) (ins_enter (eqb-true _ _ e))) record {
        depths_long = length-set s.depths t.0 _ ∙ z.depths_long;
        begins_long = length-set j.begins t.0 i ∙ z.begins_long;
        commits_long = length-set j.commits t.0 0 ∙ z.commits_long;
        sets_long = z.sets_long;
      } m)
  begin_told h false e =
      let p : depth_of s t ≡ 0 → ⊥ = eqb-false _ _ e in
      let r = deepened s.depths j z t.0 small (depth_of s t + 1) in
      let b = stage_deep (depth_of s t) (depth_of s t + 1) (commit_of j t) p (omega arith) in
      let q = stays (store_of s.depths j) t.0 _ b in
      rw e (goes refl (rw (r ∙ q) (ins_nested_enter (omega (arith, p)))) (deepened_sized _) (deepened_marked _ (kept_same InBlock b) (kept_same Committed b)))

  -- an end, outermost or nested
  end_told : (h : ℕ) → (depth_of s t ≡ 0 → ⊥) → Dec (depth_of s t ≡ 1)
      → Told (guarding guards) s (nested t.0 action.End s).depths j i t action.End (judge_operation i t (depth_of s t) h End j)
  unfolding judge_operation
  end_told h p (yes e) =
      let r = deepened s.depths j z t.0 small (depth_of s t - 1) in
      let q : stage_at (depth_of s t - 1) (commit_of j t) ≡ Outside = rw (eq-eqb (depth_of s t - 1) 0 (omega arith)) in
      goes refl (rw (r, q) (ins_exit e)) (deepened_sized _)
      (deepened_marked _ (λ y. absurd (y q)) (λ y. let x : Outside ≡ PostCommit = sym q ∙ y in never (cc)))
  end_told h p (no n) =
      let r = deepened s.depths j z t.0 small (depth_of s t - 1) in
      let b = stage_deep (depth_of s t) (depth_of s t - 1) (commit_of j t) p (omega arith) in
      let q = stays (store_of s.depths j) t.0 _ b in
      goes refl (rw (r ∙ q) (ins_nested_exit (omega arith))) (deepened_sized _) (deepened_marked _ (kept_same InBlock b) (kept_same Committed b))

  -- any action that passes, at its level
  abbrev Passed : Level → State → Action → Type 0
  Passed x n a = Told (guarding guards) s n.depths j i t a (judge_operation i t (depth_of s t) (held_set t.0 s.owners) (operation_of guards x a) j)

  acquired_told : (l : Lock) {x : Level} {n : State} → Acquired t.0 l s x n → Passed x n (action.Acquire l)
  unfolding judge_operation
  acquired_told l (took e) = acquire_told l (λ q. omega arith) (eqb (depth_of s t) 0) refl (eqb (commit_of j t) 0) refl
  acquired_told l (took_again e h) = inner_told l e (ins_reentrant_acquire e)

  released_told : (l : Lock) {x : Level} {n : State} → Released t.0 l s x n → Passed x n (action.Release l)
  unfolding judge_operation
  released_told l (freed e h) = release_told l h (eqb (depth_of s t) 0) refl
  released_told l (let_go e h) = inner_told l e (ins_reentrant_release e h)

  action_told : (n : State) (a : Action) (x : Level) → ObjectInRange a → step_action t.0 a s ≡ stepped (Ok x) n → Passed x n a
  unfolding step_action
  action_told n (action.Acquire l) x h e = acquired_told l (acquired t.0 l s e)
  action_told n (action.Release l) x h e = released_told l (released t.0 l s e)
  action_told n (action.Read v) x h e = rw (sym (ap (λ (y : Stepped). y.state) e)) (access_told v reads h (guard_of (get_or guards v.0 0)) refl)
  action_told n (action.Write v) x h e = rw (sym (ap (λ (y : Stepped). y.state) e)) (access_told v writes h (guard_of (get_or guards v.0 0)) refl)
  action_told n action.Begin x h e =
      let p = spared (leb deepest (depth_of s t)) refusal.TooDeep s (nested t.0 action.Begin s) n e in
      rw p.1 (begin_told (held_set t.0 s.owners) (eqb (depth_of s t) 0) refl)
  action_told n action.End x h e =
      let p = spared (eqb (depth_of s t) 0) refusal.NoOpenBlock s (nested t.0 action.End s) n e in
      rw p.1 (end_told (held_set t.0 s.owners) (eqb-false _ _ p.0) (ℕ_discrete (depth_of s t) 1))

-- The pass makes of a frame that passes what the rules say of it.
pub frame_told : (guards : List ℕ) (s n : State) (j : Judging) (i : ℕ) (f : Frame) (x : Level) → Sized s.depths j → InRange f
    → step_frame f s ≡ stepped (Ok x) n
    → Told (guarding guards) s n.depths j i f.thread f.action (judge_frame guards i f s j)
frame_told guards s n j i f x z r e = rw e (action_told guards s j z i f.thread r.thread n f.action x r.object e)
