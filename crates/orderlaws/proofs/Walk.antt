-- The code's walk over a recording that the pass judges reducible is the walk over frames: what it keeps follows the state of the pass. In this
-- order: the counts, the depths, what commits; the units that the walk keeps; the units of open blocks; the unit that a frame commits; the walk.
use Rattle.std.specs.Prelude.{Ok, Some, None}
use Prim.Native.Nat.{ℕ, zero, suc, ◌-◌, ◌<◌}
use mathlib.Core.Path.{◌≡◌, refl, sym, ap, ◌∙◌, subst}
use mathlib.Core.Bool.{Bool, true, false, cond, not, ◌&&◌, ◌||◌}
use mathlib.Core.Logic.{inl, inr}
use mathlib.Core.List.{List, [], ◌∷◌, ◌++◌}
use native.Mathlib.Omega.{arith}
use native.Mathlib.Numerals.{add-one}
use borrow.Author.Tests.{eqb-true, eqb-false, eq-eqb, ne_eqb, ltb-true, le-leb, lt-leb}
use lib.Dec.{eqb, leb, ltb}
use lib.ListN.{length, get_or, set, drop, replicate, length-set}
use lib.Seq.{set-get_or, drop-drop, get_or-set_same, get_or-set_other}
use Rattle.laws.proofs.Logic.{by_test}
use Rattle.laws.proofs.Lists.{get_or_set, get_or_filled, rest_of}
use Rattle.frame.specs.Limits.{thread_count, lock_count, deepest}
use Rattle.frame.specs.Frame.{decode_word, ObjectInRange, InRange}
use Rattle.frame.specs.declared.Variable.{Variable}
use Rattle.frame.specs.declared.Lock.{Lock}
use Rattle.frame.specs.declared.Frame.{Frame}
use Rattle.frame.specs.declared.Action.{Action}
use Rattle.frame.specs.declared.Action.TheVariants as action
use Rattle.frame.proofs.Laws.{decoded_in_range}
use Rattle.guards.specs.Guards.{guard_of, unprotected_code}
use Rattle.soundness.specs.Soundness.{owner_of, count_of, Stepped, stepped, step_action, step_frame, start, nest}
use Rattle.soundness.specs.declared.State.{State}
use Rattle.soundness.specs.declared.Level.{Level}
use Rattle.soundness.proofs.Laws.{spared, Acquired, took, took_again, acquired, Released, freed, let_go, released}
use Rattle.instrumented.specs.Rules.{Judging}
use Rattle.operation.specs.Operation.{guarded_access}
use Rattle.exchange.specs.Exchange.{frames_of}
use Rattle.commit.specs.declared.Units.{Units}
use Rattle.commit.specs.Commit.{start_units, counted, committing, start_in, visited, unit_start}
use Rattle.serial.specs.Walk.{unit_from, unit_of, unit_in, walk_from}
use Rattle.rules.proofs.Counts.{Is, Counts, counted_next, start_counts}
use Rattle.reduction.proofs.Run as run
use Rattle.reduction.proofs.Run.{thread_of, Run, onto, commit_after, seen}
use Rattle.reduction.proofs.Units as units
use Rattle.reduction.proofs.Units.{open_from, emitted, walk}
use Rattle.orderlaws.proofs.View.{view_of, OneFrame}
use Rattle.orderlaws.proofs.Recording.{Pass, end, on, frames_first, depth_now, unit_frames}

-- a lock with no owner has no count
free_count : (o c : ℕ) → Is o c → o ≡ 0 → c ≡ 0
free_count o c (inl p) e = p.1
free_count o c (inr p) e = absurd (omega arith)

-- The counts after an action that passes are those that the walk keeps.
acquired_counts : (t : ℕ) (l : Lock) (s : State) → Is (owner_of l s) (count_of l s) → {x : Level} {n : State} → Acquired t l s x n
    → n.counts ≡ counted (action.Acquire l) s.counts
acquired_counts t l s k (took e) = rw (free_count (owner_of l s) (count_of l s) k e)
acquired_counts t l s k (took_again e h) = refl

released_counts : (t : ℕ) (l : Lock) (s : State) {x : Level} {n : State} → Released t l s x n → n.counts ≡ counted (action.Release l) s.counts
released_counts t l s (freed e h) = let z : count_of l s - 1 ≡ 0 = omega arith in ap (set s.counts l.0) (sym z)
released_counts t l s (let_go e h) = refl

step_counts : (t : ℕ) (a : Action) (s n : State) (x : Level) → ObjectInRange a → Counts s → step_action t a s ≡ stepped (Ok x) n
    → n.counts ≡ counted a s.counts
unfolding step_action
step_counts t (action.Acquire l) s n x r k e = acquired_counts t l s (k.are l r) (acquired t l s e)
step_counts t (action.Release l) s n x r k e = released_counts t l s (released t l s e)
step_counts t (action.Read v) s n x r k e = sym (ap (λ (y : Stepped). y.state.counts) e)
step_counts t (action.Write v) s n x r k e = sym (ap (λ (y : Stepped). y.state.counts) e)
step_counts t action.Begin s n x r k e = ap (λ (y : State). y.counts) (spared (leb deepest (get_or s.depths t 0)) _ s _ n e).1
step_counts t action.End s n x r k e = ap (λ (y : State). y.counts) (spared (eqb (get_or s.depths t 0) 0) _ s _ n e).1

-- The depths, too.
acquired_depths : (t : ℕ) (l : Lock) (s : State) {x : Level} {n : State} → Acquired t l s x n → n.depths ≡ s.depths
acquired_depths t l s (took e) = refl
acquired_depths t l s (took_again e h) = refl

released_depths : (t : ℕ) (l : Lock) (s : State) {x : Level} {n : State} → Released t l s x n → n.depths ≡ s.depths
released_depths t l s (freed e h) = refl
released_depths t l s (let_go e h) = refl

step_depths : (t : ℕ) (a : Action) (s n : State) (x : Level) → step_action t a s ≡ stepped (Ok x) n
    → n.depths ≡ set s.depths t (nest (get_or s.depths t 0) a)
unfolding step_action
step_depths t (action.Acquire l) s n x e = acquired_depths t l s (acquired t l s e) ∙ sym (set-get_or s.depths t 0)
step_depths t (action.Release l) s n x e = released_depths t l s (released t l s e) ∙ sym (set-get_or s.depths t 0)
step_depths t (action.Read v) s n x e = sym (ap (λ (y : Stepped). y.state.depths) e) ∙ sym (set-get_or s.depths t 0)
step_depths t (action.Write v) s n x e = sym (ap (λ (y : Stepped). y.state.depths) e) ∙ sym (set-get_or s.depths t 0)
step_depths t action.Begin s n x e = ap (λ (y : State). y.depths) (spared (leb deepest (get_or s.depths t 0)) _ s _ n e).1
step_depths t action.End s n x e = ap (λ (y : State). y.depths) (spared (eqb (get_or s.depths t 0) 0) _ s _ n e).1

-- What commits in the walk commits in the run.
access_commits : (c : ℕ) (v : Variable) → eqb c unprotected_code ≡ run.committing (guarded_access (guard_of c) v)
access_commits c v = go (ltb c lock_count) refl (eqb c unprotected_code) refl
  where
    go : (a : Bool) → ltb c lock_count ≡ a → (b : Bool) → eqb c unprotected_code ≡ b → eqb c unprotected_code ≡ run.committing (guarded_access (guard_of c) v)
    go true p b q = rw (p, ne_eqb c unprotected_code (λ z. omega (arith, ltb-true c lock_count p)))
    go false p true q = rw (p, q)
    go false p false q = rw (p, q)

released_commits : (t : ℕ) (l : Lock) (s : State) (j : Judging) (guards : List ℕ) {x : Level} {n : State} → Released t l s x n
    → leb (count_of l s) 1 ≡ run.committing (seen guards (view_of s j) (record { thread = record { 0 = t }; action = action.Release l }))
released_commits t l s j guards (freed e h) = rw (eq-eqb (owner_of l s) (suc t) (rw add-one at e), le-leb (count_of l s) 1 h)
released_commits t l s j guards (let_go e h) = rw (eq-eqb (owner_of l s) (suc t) (rw add-one at e), lt-leb (count_of l s) 1 h)

acquired_commits : (t : ℕ) (l : Lock) (s : State) (j : Judging) (guards : List ℕ)
    → false ≡ run.committing (seen guards (view_of s j) (record { thread = record { 0 = t }; action = action.Acquire l }))
acquired_commits t l s j guards = go (eqb (owner_of l s) (suc t)) refl
  where
    go : (b : Bool) → eqb (owner_of l s) (suc t) ≡ b
        → false ≡ run.committing (seen guards (view_of s j) (record { thread = record { 0 = t }; action = action.Acquire l }))
    go true e = rw e
    go false e = rw e

step_commits : (guards : List ℕ) (t : ℕ) (a : Action) (s n : State) (j : Judging) (x : Level) → step_action t a s ≡ stepped (Ok x) n
    → committing guards s.counts a ≡ run.committing (seen guards (view_of s j) (record { thread = record { 0 = t }; action = a }))
step_commits guards t (action.Acquire l) s n j x e = acquired_commits t l s j guards
step_commits guards t (action.Release l) s n j x e = released_commits t l s j guards (released t l s e)
step_commits guards t (action.Read v) s n j x e = access_commits (get_or guards v.0 0) v
step_commits guards t (action.Write v) s n j x e = access_commits (get_or guards v.0 0) v
step_commits guards t action.Begin s n j x e = refl
step_commits guards t action.End s n j x e = refl

-- an entry after a store to a list of marks, and one of a list with none
mark_set : (l : List Bool) (i : ℕ) (v : Bool) (u : ℕ) → i < length l → get_or (set l i v) u false ≡ cond (eqb u i) v (get_or l u false)
mark_set l i v u h = by_test (eqb u i)
    (λ q. let same : u ≡ i = eqb-true u i q in rw (q, same) (get_or-set_same l i v false h))
    (λ q. rw q (get_or-set_other l i u v false (eqb-false u i q)))

no_mark : (n i : ℕ) → get_or (replicate n false) i false ≡ false
no_mark zero i = refl
no_mark (suc n) zero = refl
no_mark (suc n) (suc i) = no_mark n i

-- What the walk keeps is what the pass has, and its own lists have an entry for each thread.
pub record Kept (s : State) (j : Judging) (x : Units) : Type 0 where
  pub locks : Counts s
  pub counts_are : x.counts ≡ s.counts
  pub depths_are : x.depths ≡ s.depths
  pub starts_long : length x.starts ≡ thread_count
  pub committed_long : length x.committed ≡ thread_count
  pub committed_is : (u : ℕ) → not (get_or x.committed u false) ≡ eqb ((view_of s j).committed u) 0

pub kept_start : (j : Judging) → Kept start j start_units
unfolding start start_units
kept_start j = record {
  locks = start_counts;
  counts_are = refl;
  depths_are = refl;
  starts_long = refl;
  committed_long = refl;
  committed_is = λ u. rw (no_mark thread_count u, get_or_filled thread_count u 0);
}

pub commits_are : (guards : List ℕ) (f : Frame) {s n : State} {j : Judging} {x : Units} {l : Level} → step_frame f s ≡ stepped (Ok l) n → Kept s j x
    → committing guards x.counts f.action ≡ run.committing (seen guards (view_of s j) f)
commits_are guards f {s} {n} {j} {x} {l} g h = rw h.counts_are (step_commits guards (thread_of f) f.action s n j l g)

-- whether a unit has committed, where the walk's mark m and the run's commit c agree
after_is : (b z : Bool) (i : ℕ) (m : Bool) (c : ℕ) → not m ≡ eqb c 0 → not (cond z false (b || m)) ≡ eqb (cond z 0 (cond (b && eqb c 0) (suc i) c)) 0
after_is b true i m c e = refl
after_is true false i m c e = go (eqb c 0) refl
  where
    go : (q : Bool) → eqb c 0 ≡ q → false ≡ eqb (cond q (suc i) c) 0
    go true p = sym (ne_eqb (suc i) 0 (λ z. omega arith))
    go false p = sym p
after_is false false i m c e = e

module _ (guards : List ℕ) {i : ℕ} {s n : State} {j k : Judging} {x : Units} {f : Frame} {l : Level} (r : InRange f)
    (g : step_frame f s ≡ stepped (Ok l) n) (o : OneFrame guards i f s j n k) (h : Kept s j x) where
  next_committed : (u : ℕ) → not (get_or (visited guards i f x).committed u false) ≡ eqb ((onto guards (view_of s j) i f).committed u) 0
  unfolding visited
  next_committed u = rw (mark_set x.committed (thread_of f) _ u (omega (arith, h.committed_long, r.thread)), commits_are guards f g h, h.depths_are)
      (by_test (eqb u (thread_of f))
      (λ q. rw q (after_is (run.committing (seen guards (view_of s j) f)) (eqb (nest (get_or s.depths (thread_of f) 0) f.action) 0) i
      (get_or x.committed (thread_of f) false) ((view_of s j).committed (thread_of f)) (h.committed_is (thread_of f))))
      (λ q. rw q (h.committed_is u)))

  pub kept_next : Kept n k (visited guards i f x)
  unfolding visited
  kept_next = record {
    locks = counted_next (thread_of f) f.action s n l r.object h.locks g;
    counts_are = rw h.counts_are (sym (step_counts (thread_of f) f.action s n l r.object h.locks g));
    depths_are = rw h.depths_are (sym (step_depths (thread_of f) f.action s n l g));
    starts_long = length-set x.starts (thread_of f) _ ∙ h.starts_long;
    committed_long = length-set x.committed (thread_of f) _ ∙ h.committed_long;
    committed_is = λ u. next_committed u ∙ sym (ap (λ (y : Run). eqb (y.committed u) 0) o.run);
  }

-- What the walk has of the units of the blocks that are open is what the walk over frames has of them, over any element type.
abbrev Opens : {A : Type 0} → List ℕ → List A → State → Units → (ℕ → List Frame) → (ℕ → List A) → Type 0
Opens all xs s x q y =
    (u : ℕ) → (get_or s.depths u 0 ≡ 0 → ⊥) → unit_of all xs (get_or x.starts u 0) (record { 0 = u }) ≡ units.unit_from u 0 (q u) (y u)

module _ {A : Type 0} (guards all : List ℕ) (xs : List A) {i w : ℕ} {s : State} {j : Judging} {x : Units} {f : Frame} {ws : List ℕ} (q : ℕ → List Frame)
    (y : ℕ → List A) (r : InRange f) (d : decode_word w ≡ Ok f) (p : Pass guards i s j (w ∷ ws)) (e : drop i all ≡ w ∷ ws) (h : Kept s j x)
    (v : Opens all xs s x q y) where
  -- the unit of the frame's thread, from its start on
  unit_of_lem : unit_of all xs (start_in (get_or s.depths (thread_of f) 0) i (get_or x.starts (thread_of f) 0)) f.thread
      ≡ units.unit_from (thread_of f) 0 (cond (eqb (get_or s.depths (thread_of f) 0) 0) (f ∷ frames_of ws) (q (thread_of f)))
      (cond (eqb (get_or s.depths (thread_of f) 0) 0) (drop i xs) (y (thread_of f)))
  unfolding unit_of
  unit_of_lem = by_test (eqb (get_or s.depths (thread_of f) 0) 0)
      (λ b. rw b
      (ap (λ (l : List ℕ). unit_from f.thread 0 l (drop i xs)) e
      ∙ (subst (λ (z : ℕ). unit_from f.thread z (w ∷ ws) (drop i xs) ≡ units.unit_from (thread_of f) z (frames_of (w ∷ ws)) (drop i xs)) (eqb-true _ _ b)
      (unit_frames guards f.thread (drop i xs) p)
      ∙ ap (λ (l : List Frame). units.unit_from (thread_of f) 0 l (drop i xs)) (frames_first w f ws d))))
      (λ b. rw b (v (thread_of f) (eqb-false _ _ b)))

  opens_next : {n : State} {k : Judging} → OneFrame guards i f s j n k
      → Opens all xs n (visited guards i f x) (open_from (view_of s j) q f (f ∷ frames_of ws)) (open_from (view_of s j) y f (drop i xs))
  unfolding visited
  opens_next o u ne =
      rw (get_or_set x.starts (thread_of f) _ u (omega (arith, h.starts_long, r.thread)), h.depths_are)
      (by_test (eqb u (thread_of f))
      (λ a. let same : u ≡ thread_of f = eqb-true _ _ a in
      rw a (subst (λ (z : ℕ). unit_of all xs (start_in (get_or s.depths (thread_of f) 0) i (get_or x.starts (thread_of f) 0)) (record { 0 = z })
      ≡ units.unit_from z 0 (cond (eqb (get_or s.depths (thread_of f) 0) 0) (f ∷ frames_of ws) (q z)) (cond (eqb (get_or s.depths (thread_of f) 0) 0) (drop i xs) (y z)))
      (sym same) unit_of_lem))
      (λ a. rw a (v u (λ z. ne (depth_now guards u f o ∙ (rw (ne_eqb (thread_of f) u (λ same. eqb-false _ _ a (sym same))) z))))))

  -- a thread after its frame
  settled_own : run.settled (onto guards (view_of s j) i f) (thread_of f)
      ≡ (eqb (nest (get_or s.depths (thread_of f) 0) f.action) 0
      || not (eqb (commit_after (nest (get_or s.depths (thread_of f) 0) f.action) ((view_of s j).committed (thread_of f)) i (seen guards (view_of s j) f)) 0))
  settled_own = rw (eq-eqb (thread_of f) (thread_of f) refl)

  -- where a frame commits a unit
  commits_unit : (b : ℕ) (u : List A) → unit_of all xs b f.thread ≡ u → (a z m : Bool) (c : ℕ) → not m ≡ eqb c 0
      → unit_in (cond m None (cond (a || z) (Some b) None)) all xs f.thread
      ≡ cond (eqb c 0 && (z || not (eqb (cond z 0 (cond (a && eqb c 0) (suc i) c)) 0))) u []
  commits_unit b u o a z true c e = rw (← e)
  commits_unit b u o true true false c e = rw (← e) o
  commits_unit b u o true false false c e = rw (← e, ne_eqb (suc i) 0 (λ k. omega arith)) o
  commits_unit b u o false true false c e = rw (← e) o
  commits_unit b u o false false false c e = rw (← e)

  -- The unit that the frame commits.
  emits : {l : Level} {n : State} → step_frame f s ≡ stepped (Ok l) n
      → unit_in (unit_start guards i f x) all xs f.thread ≡ emitted guards (view_of s j) q y i f (frames_of ws) (drop i xs)
  unfolding unit_start
  emits g =
      rw (commits_are guards f g h, h.depths_are, settled_own)
      (commits_unit (start_in (get_or s.depths (thread_of f) 0) i (get_or x.starts (thread_of f) 0)) _ unit_of_lem
      (run.committing (seen guards (view_of s j) f)) (eqb (nest (get_or s.depths (thread_of f) 0) f.action) 0)
      (get_or x.committed (thread_of f) false) ((view_of s j).committed (thread_of f)) (h.committed_is (thread_of f)))

-- The walk over the words is the walk over the frames.
walks : {A : Type 0} (guards all : List ℕ) (xs : List A) (q : ℕ → List Frame) (y : ℕ → List A) {i : ℕ} {s : State} {j : Judging} {x : Units} {ws : List ℕ}
    → Pass guards i s j ws → drop i all ≡ ws → Kept s j x → Opens all xs s x q y
    → walk_from guards all xs i x ws ≡ walk guards (view_of s j) q y i (frames_of ws) (drop i xs)
unfolding walk_from
walks guards all xs q y end e h v = refl
walks {A} guards all xs q y {x = x} (on {i = i} {s = s} {j = j} {w = w} {ws = ws} {f = f} {n = n} {k = k} d g a o rest) e h v =
    let r = decoded_in_range w f d in
    let q' = open_from (view_of s j) q f (f ∷ frames_of ws) in
    let y' = open_from (view_of s j) y f (drop i xs) in
    rw (d, add-one i)
    (ap (λ (z : List A). z ++ walk_from guards all xs (suc i) (visited guards i f x) ws) (emits guards all xs q y r d (on d g a o rest) e h v g)
    ∙ ap (λ (z : List A). emitted guards (view_of s j) q y i f (frames_of ws) (drop i xs) ++ z)
    (walks guards all xs q' y' rest (rest_of all i w ws e).2 (kept_next guards r g o h) (opens_next guards all xs q y r d (on d g a o rest) e h v o)
    ∙ (ap (λ (z : Run). walk guards z q' y' (suc i) (frames_of ws) (drop (suc i) xs)) o.run
    ∙ ap (λ (z : List A). walk guards (onto guards (view_of s j) i f) q' y' (suc i) (frames_of ws) z) (sym (rest_drop i xs)))))
  where
    rest_drop : (i : ℕ) (xs : List A) → drop 1 (drop i xs) ≡ drop (suc i) xs
    rest_drop i xs = drop-drop 1 i xs ∙ rw (add-one i)

-- From the start.
pub pass_walk : {A : Type 0} (guards : List ℕ) (xs : List A) {j : Judging} {ws : List ℕ} → Pass guards 0 start j ws
    → walk_from guards ws xs 0 start_units ws ≡ walk guards (view_of start j) (λ t. []) (λ t. []) 0 (frames_of ws) xs
unfolding start
pass_walk guards xs {j} {ws} p = walks guards ws xs (λ t. []) (λ t. []) p refl (kept_start j) (λ u ne. absurd (ne (get_or_filled thread_count u 0)))
