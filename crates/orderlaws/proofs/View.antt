-- The run that a state of the judging pass stands for, and one frame: where the pass goes on, its next state stands for the run's next.
-- In this order: the run of a state, entries put into it, one operation that does not go wrong, one frame.
use Rattle.std.specs.Prelude.{Ok, Err}
use Prim.Native.Nat.{ℕ, suc, ◌+◌, ◌-◌, ◌<◌}
use mathlib.Core.Path.{◌≡◌, refl, sym, ap, ◌∙◌, fun_ext}
use mathlib.Core.Bool.{Bool, true, false, cond, ◌&&◌}
use mathlib.Core.List.{List}
use native.Mathlib.Omega.{arith}
use native.Mathlib.Numerals.{add-one}
use borrow.Author.Tests.{eqb-true, eqb-false, eq-eqb, ne_eqb, leb-false, le-leb, lt-leb, lt-ltb}
use lib.Bits.{bit_and}
use lib.Dec.{eqb, leb, ltb}
use lib.ListN.{length, get_or, set, length-set}
use Rattle.frame.specs.Limits.{thread_count, lock_count, deepest}
use Rattle.laws.proofs.Logic.{never}
use Rattle.laws.proofs.Lists.{get_or_set}
use Rattle.frame.specs.Frame.{ObjectInRange, InRange}
use Rattle.frame.specs.declared.Thread.{Thread}
use Rattle.frame.specs.declared.Lock.{Lock}
use Rattle.frame.specs.declared.Variable.{Variable}
use Rattle.frame.specs.declared.Frame.{Frame}
use Rattle.frame.specs.declared.Action.{Action}
use Rattle.frame.specs.declared.Action.TheVariants as action
use Rattle.guards.specs.Guards.{guard_of}
use Rattle.guards.specs.declared.Guard.{Guard}
use Rattle.guards.specs.declared.Guard.TheVariants as guard
use Rattle.reply.specs.declared.Violation.{Violation}
use Rattle.soundness.specs.Soundness.{owner_of, count_of, with_count, with_owner, Stepped, nest, state_of, stepped, step_action, step_frame}
use Rattle.soundness.specs.declared.State.{State}
use Rattle.soundness.specs.declared.Level.{Level}
use Rattle.soundness.proofs.Laws.{spared, Acquired, took, took_again, acquired, Released, freed, let_go, released}
use Rattle.instrumented.specs.Rules.{outside, before, after, Judging, judging_of, Judged, judged, contains, committed, with_commit, acquire_in, unprotected_in, judge_operation}
use Rattle.operation.specs.Operation.{guarded_access, operation_of}
use Rattle.instrumented.specs.Held.{held_set}
use Rattle.operation.specs.declared.Operation.{Operation}
use Rattle.operation.specs.declared.Operation.TheVariants.{Acquire, Release, Protected, Unprotected, Inferred, Begin, End}
use Rattle.turn.specs.Turn.{judge_frame}
use Rattle.rules.proofs.Store.{held_is}
use Rattle.reduction.proofs.Run.{Run, put, level_in, counted, sound, right, afterwards, committing, commit_after, seen}
use Rattle.reduction.proofs.Steps.{put_cases}
use Rattle.reply.specs.Reply.{Verdict}

-- The code forgets a commit at the next outermost begin, the run at the outermost end: outside a block the commit counts as none.
abbrev pub view_of : State → Judging → Run
view_of s j = record {
  owner = λ m. get_or s.owners m 0;
  count = λ m. get_or s.counts m 0;
  depth = λ t. get_or s.depths t 0;
  committed = λ t. cond (eqb (get_or s.depths t 0) 0) 0 (get_or j.commits t 0);
}

-- The lists have an entry for each lock and each thread.
pub record Long (s : State) (j : Judging) : Type 0 where
  pub owners_long : length s.owners ≡ lock_count
  pub counts_long : length s.counts ≡ lock_count
  pub depths_long : length s.depths ≡ thread_count
  pub begins_long : length j.begins ≡ thread_count
  pub commits_long : length j.commits ≡ thread_count

-- The operation is under no inferred guard.
abbrev pub Declared : Operation → Type 0
Declared (Acquire l) = Unit {0}
Declared (Release l) = Unit {0}
Declared (Protected m) = Unit {0}
Declared Unprotected = Unit {0}
Declared (Inferred v) = ⊥
Declared Begin = Unit {0}
Declared End = Unit {0}

-- What an operation of thread t at place i does that leaves the thread at depth d and the locks held c times, and leads from s and j to n and k.
pub record One (i t d : ℕ) (c : ℕ → ℕ) (o : Operation) (s : State) (j : Judging) (n : State) (k : Judging) : Type 0 where
  pub run : view_of n k ≡ afterwards (view_of s j) i t d c o
  pub passes : sound (view_of s j) t o ≡ true
  pub rightly : Declared o → right (view_of s j) t o ≡ true
  pub long : Long n k
  pub begun : (u : ℕ) → (get_or n.depths u 0 ≡ 0 → ⊥)
      → get_or k.begins u 0 ≡ cond (eqb u t && eqb (get_or s.depths t 0) 0) i (get_or j.begins u 0)

-- What a frame does.
abbrev pub OneFrame : List ℕ → ℕ → Frame → State → Judging → State → Judging → Type 0
OneFrame guards i f s j n k =
    One i f.thread.0 (nest (get_or s.depths f.thread.0 0) f.action) (counted (view_of s j) f.thread.0 f.action) (seen guards (view_of s j) f) s j n k

-- two runs with the same entries
pub run_equal : {o o' h h' d d' c c' : ℕ → ℕ} → ((m : ℕ) → o m ≡ o' m) → ((m : ℕ) → h m ≡ h' m) → ((u : ℕ) → d u ≡ d' u) → ((u : ℕ) → c u ≡ c' u)
    → ◌≡◌ {A = Run} (record { owner = o; count = h; depth = d; committed = c }) (record { owner = o'; count = h'; depth = d'; committed = c' })
run_equal {o} {o'} {h} {h'} {d} {d'} {c} {c'} p b q r =
    ap (λ (x : ℕ → ℕ). record { owner = x; count = h; depth = d; committed = c }) (fun_ext p)
    ∙ (ap (λ (x : ℕ → ℕ). record { owner = o'; count = x; depth = d; committed = c }) (fun_ext b)
    ∙ (ap (λ (x : ℕ → ℕ). record { owner = o'; count = h'; depth = x; committed = c }) (fun_ext q)
    ∙ ap (λ (x : ℕ → ℕ). record { owner = o'; count = h'; depth = d'; committed = x }) (fun_ext r)))

-- an entry put back
put_back : (f : ℕ → ℕ) (t u : ℕ) → f u ≡ put f t (f t) u
put_back f t u = put_cases (λ v. f u ≡ v) f t (f t) u (λ e. ap f e) (λ e. refl)

-- a thread's entries put into a view
view_put : (s n : State) (j k : Judging) (t d c m : ℕ) (o h : ℕ → ℕ)
    → ((x : ℕ) → get_or n.owners x 0 ≡ o x)
    → ((x : ℕ) → get_or n.counts x 0 ≡ h x)
    → ((u : ℕ) → get_or n.depths u 0 ≡ put (λ x. get_or s.depths x 0) t d u)
    → ((u : ℕ) → get_or k.commits u 0 ≡ put (λ x. get_or j.commits x 0) t c u)
    → cond (eqb d 0) 0 c ≡ m
    → view_of n k ≡ record { owner = o; count = h; depth = put (view_of s j).depth t d; committed = put (view_of s j).committed t m }
view_put s n j k t d c m o h p b q r e = run_equal p b q (λ u. rw (q u, r u) (go u (eqb u t)))
  where
    go : (u : ℕ) (b : Bool)
        → cond (eqb (cond b d (get_or s.depths u 0)) 0) 0 (cond b c (get_or j.commits u 0))
        ≡ cond b m (cond (eqb (get_or s.depths u 0) 0) 0 (get_or j.commits u 0))
    go u true = e
    go u false = refl

-- which way a test went where the operation does not go wrong
then_right : (b : Bool) (x y k : Judging) (v : Violation)
    → cond b (judged (Ok tt) x) (judged (Err v) y) ≡ judged (Ok tt) k → (b ≡ true) × (k ≡ x)
then_right true x y k v e = (refl, sym (ap (λ (x : Judged). x.judging) e))
then_right false x y k v e =
    let q : ◌≡◌ {A = Verdict} (Err v) (Ok tt) = ap (λ (x : Judged). x.verdict) e in never (cc)

else_right : (b : Bool) (x y k : Judging) (v : Violation)
    → cond b (judged (Err v) y) (judged (Ok tt) x) ≡ judged (Ok tt) k → (b ≡ false) × (k ≡ x)
else_right true x y k v e =
    let q : ◌≡◌ {A = Verdict} (Err v) (Ok tt) = ap (λ (x : Judged). x.verdict) e in never (cc)
else_right false x y k v e = (refl, sym (ap (λ (x : Judged). x.judging) e))

-- an acquire and an unprotected access do not go wrong outside and before commit
acquire_right : (b c i : ℕ) (t : Thread) (l : Lock) (j k : Judging) (p q : Bool) → eqb c 0 ≡ q
    → acquire_in (cond p outside (cond q (before b) (after b (c - 1)))) i t l j ≡ judged (Ok tt) k
    → (eqb (cond p 0 c) 0 ≡ true) × (k ≡ j)
acquire_right b c i t l j k true q f e = (refl, sym (ap (λ (x : Judged). x.judging) e))
acquire_right b c i t l j k false true f e = (f, sym (ap (λ (x : Judged). x.judging) e))
acquire_right b c i t l j k false false f e =
    let z : (acquire_in (after b (c - 1)) i t l j).verdict ≡ (Ok tt) = ap (λ (x : Judged). x.verdict) e in never (cc)

unprotected_right : (b c i : ℕ) (t : Thread) (n j k : Judging) (p q : Bool) → eqb c 0 ≡ q
    → unprotected_in (cond p outside (cond q (before b) (after b (c - 1)))) i t n j ≡ judged (Ok tt) k
    → (eqb (cond p 0 c) 0 ≡ true) × (k ≡ n)
unprotected_right b c i t n j k true q f e = (refl, sym (ap (λ (x : Judged). x.judging) e))
unprotected_right b c i t n j k false true f e = (f, sym (ap (λ (x : Judged). x.judging) e))
unprotected_right b c i t n j k false false f e =
    let z : (unprotected_in (after b (c - 1)) i t n j).verdict ≡ (Ok tt) = ap (λ (x : Judged). x.verdict) e in never (cc)

-- a thread's commit after an operation that is no begin and no end
commit_view : (d c i : ℕ) (k : Operation)
    → cond (eqb d 0) 0 (cond (committing k) (committed d c i) c) ≡ commit_after d (cond (eqb d 0) 0 c) i k
commit_view d c i k = go (eqb d 0) (committing k)
  where
    go : (b v : Bool)
        → cond b 0 (cond v (cond b c (cond (eqb c 0) (i + 1) c)) c) ≡ cond b 0 (cond (v && eqb (cond b 0 c) 0) (suc i) (cond b 0 c))
    go true v = refl
    go false true = rw add-one
    go false false = refl

module _ (s : State) (j : Judging) (z : Long s j) (i : ℕ) (t : Thread) (small : t.0 < thread_count) where
  -- the thread's depth and commit
  abbrev deep : ℕ
  deep = get_or s.depths t.0 0

  abbrev done : ℕ
  done = get_or j.commits t.0 0

  -- the begins stay where no block is entered
  begins_stay : (n : State) → ((u : ℕ) → get_or s.depths u 0 ≡ 0 → get_or n.depths u 0 ≡ 0)
      → (u : ℕ) → (get_or n.depths u 0 ≡ 0 → ⊥)
      → get_or j.begins u 0 ≡ cond (eqb u t.0 && eqb (get_or s.depths t.0 0) 0) i (get_or j.begins u 0)
  begins_stay n h u ne = go (eqb u t.0) (eqb (get_or s.depths t.0 0) 0) refl refl
    where
      go : (a b : Bool) → eqb u t.0 ≡ a → eqb (get_or s.depths t.0 0) 0 ≡ b
          → get_or j.begins u 0 ≡ cond (a && b) i (get_or j.begins u 0)
      go true true p q = absurd (ne (h u (ap (λ (x : ℕ). get_or s.depths x 0) (eqb-true _ _ p) ∙ eqb-true _ _ q)))
      go true false p q = refl
      go false b p q = refl

  set_depth : (d u : ℕ) → get_or (set s.depths t.0 d) u 0 ≡ put (λ x. get_or s.depths x 0) t.0 d u
  set_depth d u = get_or_set s.depths t.0 d u (omega (arith, z.depths_long))

  set_commit : (c u : ℕ) → get_or (set j.commits t.0 c) u 0 ≡ put (λ x. get_or j.commits x 0) t.0 c u
  set_commit c u = get_or_set j.commits t.0 c u (omega (arith, z.commits_long))

  same_depth : (u : ℕ) → get_or s.depths u 0 ≡ put (λ x. get_or s.depths x 0) t.0 deep u
  same_depth u = put_back (λ x. get_or s.depths x 0) t.0 u

  same_commit : (u : ℕ) → get_or j.commits u 0 ≡ put (λ x. get_or j.commits x 0) t.0 done u
  same_commit u = put_back (λ x. get_or j.commits x 0) t.0 u

  -- the locks after an acquire and a release
  set_owner : (l v x : ℕ) → l < lock_count → get_or (set s.owners l v) x 0 ≡ put (λ m. get_or s.owners m 0) l v x
  set_owner l v x h = get_or_set s.owners l v x (omega (arith, z.owners_long))

  set_count : (l v x : ℕ) → l < lock_count → get_or (set s.counts l v) x 0 ≡ put (λ m. get_or s.counts m 0) l v x
  set_count l v x h = get_or_set s.counts l v x (omega (arith, z.counts_long))

  long_count : (l : Lock) (c : ℕ) → Long (with_count l c s) j
  long_count l c = record {
    owners_long = z.owners_long;
    counts_long = length-set s.counts l.0 c ∙ z.counts_long;
    depths_long = z.depths_long;
    begins_long = z.begins_long;
    commits_long = z.commits_long;
  }

  long_owner : (l : Lock) (o c : ℕ) → Long (with_owner l o c s) j
  long_owner l o c = record {
    owners_long = length-set s.owners l.0 o ∙ z.owners_long;
    counts_long = length-set s.counts l.0 c ∙ z.counts_long;
    depths_long = z.depths_long;
    begins_long = z.begins_long;
    commits_long = z.commits_long;
  }

  long_commit : (n : State) (c : ℕ) → Long n j → Long n (with_commit t c j)
  long_commit n c y = record {
    owners_long = y.owners_long;
    counts_long = y.counts_long;
    depths_long = y.depths_long;
    begins_long = y.begins_long;
    commits_long = length-set j.commits t.0 c ∙ y.commits_long;
  }

  long_depth : (d : ℕ) → Long (state_of s.owners s.counts (set s.depths t.0 d)) j
  long_depth d = record {
    owners_long = z.owners_long;
    counts_long = z.counts_long;
    depths_long = length-set s.depths t.0 d ∙ z.depths_long;
    begins_long = z.begins_long;
    commits_long = z.commits_long;
  }

  -- an outer acquire
  one_acquire : (l : Lock) → l.0 < lock_count → owner_of l s ≡ 0 → eqb ((view_of s j).committed t.0) 0 ≡ true
      → One i t.0 deep (put (λ m. get_or s.counts m 0) l.0 1) (Acquire l) s j (with_owner l (t.0 + 1) 1 s) j
  one_acquire l h e q = record {
    run = view_put s (with_owner l (t.0 + 1) 1 s) j j t.0 deep done _ _ _
        (λ x. rw add-one (set_owner l.0 (suc t.0) x h)) (λ x. set_count l.0 1 x h) same_depth same_commit (commit_view deep done i (Acquire l));
    passes = eq-eqb _ _ e;
    rightly = λ x. q;
    long = long_owner l (t.0 + 1) 1;
    begun = begins_stay (with_owner l (t.0 + 1) 1 s) (λ u y. y);
  }

  -- an outer release
  one_release : (l : Lock) → l.0 < lock_count → owner_of l s ≡ t.0 + 1
      → One i t.0 deep (put (λ m. get_or s.counts m 0) l.0 0) (Release l) s j (with_owner l 0 0 s) (with_commit t (committed deep done i) j)
  one_release l h e = record {
    run = view_put s (with_owner l 0 0 s) j (with_commit t (committed deep done i) j) t.0 deep (committed deep done i) _ _ _
        (λ x. set_owner l.0 0 x h) (λ x. set_count l.0 0 x h) same_depth (set_commit (committed deep done i)) (commit_view deep done i (Release l));
    passes = eq-eqb _ _ (rw add-one at e);
    rightly = λ x. refl;
    long = long_commit (with_owner l 0 0 s) (committed deep done i) (long_owner l 0 0);
    begun = begins_stay (with_owner l 0 0 s) (λ u y. y);
  }

  -- an inner acquire or release
  one_inner : (l : Lock) (c : ℕ) → l.0 < lock_count → owner_of l s ≡ t.0 + 1
      → One i t.0 deep (put (λ m. get_or s.counts m 0) l.0 c) (Protected l) s j (with_count l c s) j
  one_inner l c h e = record {
    run = view_put s (with_count l c s) j j t.0 deep done _ _ _ (λ x. refl) (λ x. set_count l.0 c x h) same_depth same_commit
        (commit_view deep done i (Protected l));
    passes = refl;
    rightly = λ x. eq-eqb _ _ (rw add-one at e);
    long = long_count l c;
    begun = begins_stay (with_count l c s) (λ u y. y);
  }

  -- an access, by its guard
  same_view : (v : Variable) → view_of s j ≡ afterwards (view_of s j) i t.0 deep (view_of s j).count (Inferred v)
  same_view v = view_put s s j j t.0 deep done _ _ _ (λ x. refl) (λ x. refl) same_depth same_commit (commit_view deep done i (Inferred v))

  one_access : (g : Guard) (v : Variable) (k : Judging)
      → judge_operation i t deep (held_set t.0 s.owners) (guarded_access g v) j ≡ judged (Ok tt) k
      → One i t.0 deep (view_of s j).count (guarded_access g v) s j s k
  unfolding judge_operation
  one_access (guard.Locked m) v k e =
      let q = then_right (contains (held_set t.0 s.owners) m) _ _ k _ e in
      rw q.1 record {
        run = same_view v;
        passes = refl;
        rightly = λ x. rw (held_is, add-one) at q.0;
        long = z;
        begun = begins_stay s (λ u y. y);
      }
  one_access guard.Unprotected v k e =
      let q = unprotected_right (get_or j.begins t.0 0) done i t (with_commit t (committed deep done i) j) j k (eqb deep 0) (eqb done 0) refl e in
      rw q.1 record {
        run = view_put s s j (with_commit t (committed deep done i) j) t.0 deep (committed deep done i) _ _ _
            (λ x. refl) (λ x. refl) same_depth (set_commit (committed deep done i)) (commit_view deep done i Unprotected);
        passes = refl;
        rightly = λ x. q.0;
        long = long_commit s (committed deep done i) z;
        begun = begins_stay s (λ u y. y);
      }
  one_access guard.Inferred v k e =
      let q = else_right (eqb (bit_and (get_or j.sets v.0 0) (held_set t.0 s.owners)) 0) _ _ k _ e in
      rw q.1 record {
        run = same_view v;
        passes = refl;
        rightly = λ x. absurd x;
        long = record { owners_long = z.owners_long; counts_long = z.counts_long; depths_long = z.depths_long; begins_long = z.begins_long; commits_long = z.commits_long };
        begun = begins_stay s (λ u y. y);
      }

  -- a begin, outermost and nested
  one_begin : leb deepest deep ≡ false → (k : Judging) → judge_operation i t deep (held_set t.0 s.owners) Begin j ≡ judged (Ok tt) k
      → One i t.0 (deep + 1) (view_of s j).count Begin s j (state_of s.owners s.counts (set s.depths t.0 (deep + 1))) k
  unfolding judge_operation
  one_begin h k e = go (eqb deep 0) refl e
    where
      n : State
      n = state_of s.owners s.counts (set s.depths t.0 (deep + 1))

      outer : Judging
      outer = judging_of (set j.begins t.0 i) (set j.commits t.0 0) j.sets

      low : ltb deep deepest ≡ true
      low = lt-ltb deep deepest (leb-false deepest deep h)

      begun_outer : eqb deep 0 ≡ true → (u : ℕ) → get_or (set j.begins t.0 i) u 0 ≡ cond (eqb u t.0 && eqb deep 0) i (get_or j.begins u 0)
      begun_outer q u = get_or_set j.begins t.0 i u (omega (arith, z.begins_long)) ∙ rw q (both (eqb u t.0))
        where
          both : (b : Bool) → cond b i (get_or j.begins u 0) ≡ cond (b && true) i (get_or j.begins u 0)
          both true = refl
          both false = refl

      begun_inner : eqb deep 0 ≡ false → (u : ℕ) → get_or j.begins u 0 ≡ cond (eqb u t.0 && eqb deep 0) i (get_or j.begins u 0)
      begun_inner q u = rw q (both (eqb u t.0))
        where
          both : (b : Bool) → get_or j.begins u 0 ≡ cond (b && false) i (get_or j.begins u 0)
          both true = refl
          both false = refl

      go : (b : Bool) → eqb deep 0 ≡ b → cond b (judged (Ok tt) outer) (judged (Ok tt) j) ≡ judged (Ok tt) k
          → One i t.0 (deep + 1) (view_of s j).count Begin s j n k
      go true q r = rw (sym (ap (λ (x : Judged). x.judging) r)) record {
        run = view_put s n j outer t.0 (deep + 1) 0 _ _ _ (λ x. refl) (λ x. refl) (set_depth (deep + 1)) (set_commit 0) (rw q);
        passes = low;
        rightly = λ x. refl;
        long = record {
          owners_long = z.owners_long;
          counts_long = z.counts_long;
          depths_long = length-set s.depths t.0 (deep + 1) ∙ z.depths_long;
          begins_long = length-set j.begins t.0 i ∙ z.begins_long;
          commits_long = length-set j.commits t.0 0 ∙ z.commits_long;
        };
        begun = λ u ne. begun_outer q u;
      }
      go false q r = rw (sym (ap (λ (x : Judged). x.judging) r)) record {
        run = view_put s n j j t.0 (deep + 1) done _ _ _ (λ x. refl) (λ x. refl) (set_depth (deep + 1)) same_commit (rw q);
        passes = low;
        rightly = λ x. refl;
        long = long_depth (deep + 1);
        begun = λ u ne. begun_inner q u;
      }

  -- an end
  one_end : eqb deep 0 ≡ false → One i t.0 (deep - 1) (view_of s j).count End s j (state_of s.owners s.counts (set s.depths t.0 (deep - 1))) j
  one_end h = record {
    run = view_put s (state_of s.owners s.counts (set s.depths t.0 (deep - 1))) j j t.0 (deep - 1) done _ _ _ (λ x. refl) (λ x. refl) (set_depth (deep - 1))
        same_commit (rw h);
    passes = lt-ltb 0 deep (omega (arith, eqb-false deep 0 h));
    rightly = λ x. refl;
    long = long_depth (deep - 1);
    begun = begins_stay (state_of s.owners s.counts (set s.depths t.0 (deep - 1)))
        (λ u y. set_depth (deep - 1) u ∙ put_cases (λ v. v ≡ 0) (λ x. get_or s.depths x 0) t.0 (deep - 1) u
        (λ q. absurd (eqb-false deep 0 h (ap (λ (x : ℕ). get_or s.depths x 0) (sym q) ∙ y))) (λ q. y));
  }

  -- any action that passes, at its level
  abbrev OneAction : List ℕ → State → Judging → Action → Type 0
  OneAction guards n k a =
      One i t.0 (nest deep a) (counted (view_of s j) t.0 a) (operation_of guards (level_in (view_of s j) t.0 a) a) s j n k

  abbrev Judges : List ℕ → Level → Action → Judging → Type 0
  Judges guards x a k = judge_operation i t deep (held_set t.0 s.owners) (operation_of guards x a) j ≡ judged (Ok tt) k

  -- the test of an owner, as the run makes it
  own_test : (l : Lock) → owner_of l s ≡ t.0 + 1 → eqb (owner_of l s) (suc t.0) ≡ true
  own_test l e = eq-eqb _ _ (rw add-one at e)

  one_inner_judged : (l : Lock) (c : ℕ) (k : Judging) → l.0 < lock_count → owner_of l s ≡ t.0 + 1
      → judge_operation i t deep (held_set t.0 s.owners) (Protected l) j ≡ judged (Ok tt) k
      → One i t.0 deep (put (λ m. get_or s.counts m 0) l.0 c) (Protected l) s j (with_count l c s) k
  unfolding judge_operation
  one_inner_judged l c k h e r =
      let q = then_right (contains (held_set t.0 s.owners) l) _ _ k _ r in
      rw q.1 (one_inner l c h e)

  acquired_one : (guards : List ℕ) (l : Lock) (k : Judging) → l.0 < lock_count → {x : Level} {n : State} → Acquired t.0 l s x n
      → Judges guards x (action.Acquire l) k → OneAction guards n k (action.Acquire l)
  unfolding judge_operation
  acquired_one guards l k h (took e) r =
      let q = acquire_right (get_or j.begins t.0 0) done i t l j k (eqb deep 0) (eqb done 0) refl r in
      rw (ne_eqb (owner_of l s) (suc t.0) (λ z. omega arith), q.1) (one_acquire l h e q.0)
  acquired_one guards l k h (took_again e b) r = rw (own_test l e) (one_inner_judged l (count_of l s + 1) k h e r)

  released_one : (guards : List ℕ) (l : Lock) (k : Judging) → l.0 < lock_count → {x : Level} {n : State} → Released t.0 l s x n
      → Judges guards x (action.Release l) k → OneAction guards n k (action.Release l)
  unfolding judge_operation
  released_one guards l k h (freed e b) r = rw (own_test l e, le-leb (count_of l s) 1 b, sym (ap (λ (x : Judged). x.judging) r)) (one_release l h e)
  released_one guards l k h (let_go e b) r = rw (own_test l e, lt-leb (count_of l s) 1 b) (one_inner_judged l (count_of l s - 1) k h e r)

  one_action : (guards : List ℕ) (n : State) (k : Judging) (a : Action) (x : Level) → ObjectInRange a → step_action t.0 a s ≡ stepped (Ok x) n
      → Judges guards x a k → OneAction guards n k a
  unfolding step_action judge_operation
  one_action guards n k (action.Acquire l) x h e r = acquired_one guards l k h (acquired t.0 l s e) r
  one_action guards n k (action.Release l) x h e r = released_one guards l k h (released t.0 l s e) r
  one_action guards n k (action.Read v) x h e r =
      rw (sym (ap (λ (y : Stepped). y.state) e)) (one_access (guard_of (get_or guards v.0 0)) v k r)
  one_action guards n k (action.Write v) x h e r =
      rw (sym (ap (λ (y : Stepped). y.state) e)) (one_access (guard_of (get_or guards v.0 0)) v k r)
  one_action guards n k action.Begin x h e r =
      let p = spared (leb deepest deep) _ s _ n e in
      rw p.1 (one_begin p.0 k r)
  one_action guards n k action.End x h e r =
      let p = spared (eqb deep 0) _ s _ n e in
      rw (p.1, sym (ap (λ (y : Judged). y.judging) r)) (one_end p.0)

-- One frame of the pass is one step of the run.
pub one_frame : (guards : List ℕ) (i : ℕ) (f : Frame) (s n : State) (j k : Judging) (x : Level) → Long s j → InRange f
    → step_frame f s ≡ stepped (Ok x) n → judge_frame guards i f s j ≡ judged (Ok tt) k
    → OneFrame guards i f s j n k
one_frame guards i f s n j k x z r e v = one_action s j z i f.thread r.thread guards n k f.action x r.object e (rw e at v)
