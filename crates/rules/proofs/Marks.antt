-- The marks that a violation has. In this order: what a frame leaves of the begins and commits of the pass, one frame more by the rules,
-- since when a stage holds, what the pass knows of the frames before a place.
use Rattle.std.specs.Prelude.{Ok}
use Prim.Native.Nat.{ℕ, suc, ◌+◌, ◌-◌, ◌≤◌, ◌<◌}
use mathlib.Core.Path.{◌≡◌, refl, sym, subst}
use mathlib.Core.Bool.{Bool, true, false, cond}
use mathlib.Core.Logic.{◌⊎◌, inl, inr}
use mathlib.Core.List.{List, ◌∷◌}
use native.Mathlib.Omega.{arith}
use native.Mathlib.Numerals.{add-one}
use borrow.Author.Tests.{eqb-true, eqb-false}
use lib.Dec.{eqb}
use lib.ListN.{length, get_or, set, drop}
use Rattle.frame.specs.Frame.{decode_word}
use Rattle.frame.specs.declared.Frame.{Frame}
use Rattle.frame.specs.declared.Thread.{Thread}
use Rattle.guards.specs.declared.Guard.{Guard}
use Rattle.soundness.specs.Soundness.{start}
use Rattle.soundness.specs.declared.State.{State}
use Rattle.instrumented.specs.Rules.{Judging, phase_at, committed, begin_mark, commit_mark}
use Rattle.laws.proofs.Logic.{never, by_test}
use Rattle.laws.proofs.Lists.{get_or_set}
use Rattle.rules.specs.Figures.{Acts, Stage, Outside, PreCommit, PostCommit, Store, Steps, Reaches, none, more, start_store, InBlock, Committed, StageAfter, Since, MarkIs}
use Rattle.rules.proofs.Store.{stage_at, store_of, stage_in}

-- What a frame at place i does to a thread's mark of Q, as it leads from stage g to stage h: the mark stays where Q held, and is i where it
-- did not.
abbrev pub Kept : (Stage → Type 0) → ℕ → Stage → ℕ → Stage → ℕ → Type 0
Kept Q i g b h c = Q h → ((Q g × (c ≡ b)) ⊎ ((Q g → ⊥) × (c ≡ i)))

-- The same of the begins and the commits of all threads.
pub record Marked (i : ℕ) (depths : List ℕ) (j : Judging) (next : List ℕ) (k : Judging) : Type 0 where
  pub begun : (u : ℕ) → Kept InBlock i ((store_of depths j).stage u) (get_or j.begins u 0) ((store_of next k).stage u) (get_or k.begins u 0)
  pub done : (u : ℕ) → Kept Committed i ((store_of depths j).stage u) (get_or j.commits u 0 - 1) ((store_of next k).stage u) (get_or k.commits u 0 - 1)

-- a stage that stays keeps its mark
pub kept_same : (Q : Stage → Type 0) {i b : ℕ} {g h : Stage} → g ≡ h → Kept Q i g b h b
kept_same Q e q = inl (subst Q (sym e) q, refl)

-- a frame that changes neither depths nor marks
pub unmarked : {i : ℕ} {depths : List ℕ} {j k : Judging} → k.begins ≡ j.begins → k.commits ≡ j.commits → Marked i depths j depths k
unmarked p q = record { begun = λ u. rw (p, q) (kept_same InBlock refl); done = λ u. rw q (kept_same Committed refl) }

-- The entry for t alone is changed, to v.
abbrev pub Put : ℕ → List ℕ → ℕ → List ℕ → Type 0
Put t l v m = (u : ℕ) → get_or m u 0 ≡ cond (eqb u t) v (get_or l u 0)

pub put_set : (t : ℕ) (l : List ℕ) (v : ℕ) → t < length l → Put t l v (set l t v)
put_set t l v h u = get_or_set l t v u h

pub put_same : (t : ℕ) (l : List ℕ) → Put t l (get_or l t 0) l
put_same t l u = go (eqb u t) refl
  where
    go : (b : Bool) → eqb u t ≡ b → get_or l u 0 ≡ cond (eqb u t) (get_or l t 0) (get_or l u 0)
    go true q = rw (q, eqb-true u t q)
    go false q = rw q

-- a frame that changes the depth and the marks of thread t alone
pub marked : {i : ℕ} {depths next : List ℕ} {j k : Judging} (t d b c : ℕ)
    → Put t depths d next → Put t j.begins b k.begins → Put t j.commits c k.commits
    → Kept InBlock i ((store_of depths j).stage t) (get_or j.begins t 0) (stage_at d c) b
    → Kept Committed i ((store_of depths j).stage t) (get_or j.commits t 0 - 1) (stage_at d c) (c - 1) → Marked i depths j next k
marked {i = i} {depths = depths} {j = j} t d b c pd pb pc kb kc = record {
  begun = λ u. rw (pd u, pb u, pc u) (begun_at u (eqb u t) refl);
  done = λ u. rw (pd u, pc u) (done_at u (eqb u t) refl);
}
  where
    begun_at : (u : ℕ) (y : Bool) → eqb u t ≡ y
        → Kept InBlock i ((store_of depths j).stage u) (get_or j.begins u 0)
        (stage_at (cond (eqb u t) d (get_or depths u 0)) (cond (eqb u t) c (get_or j.commits u 0))) (cond (eqb u t) b (get_or j.begins u 0))
    begun_at u true q = rw (q, eqb-true u t q) kb
    begun_at u false q = rw q (kept_same InBlock refl)

    done_at : (u : ℕ) (y : Bool) → eqb u t ≡ y
        → Kept Committed i ((store_of depths j).stage u) (get_or j.commits u 0 - 1)
        (stage_at (cond (eqb u t) d (get_or depths u 0)) (cond (eqb u t) c (get_or j.commits u 0))) (cond (eqb u t) c (get_or j.commits u 0) - 1)
    done_at u true q = rw (q, eqb-true u t q) kc
    done_at u false q = rw q (kept_same Committed refl)

-- a frame that commits the block it stands in, if any, keeps the begin, and the commit where there is one
pub commit_begun : (d c i b : ℕ) (y : Bool) → eqb d 0 ≡ y → Kept InBlock i (stage_at d c) b (stage_at d (committed d c i)) b
commit_begun d c i b true e = rw e (kept_same InBlock refl)
commit_begun d c i b false e = λ q. inl (stage_in d c e, refl)

pub commit_done : (d c i : ℕ) (y : Bool) → eqb d 0 ≡ y → (x : Bool) → eqb c 0 ≡ x
    → Kept Committed i (stage_at d c) (c - 1) (stage_at d (committed d c i)) (committed d c i - 1)
commit_done d c i true e x f = rw e (kept_same Committed refl)
commit_done d c i false e true f = rw (e, f) (λ q. inr (λ r. let y : PreCommit ≡ PostCommit = r in never (cc), omega arith))
commit_done d c i false e false f = rw (e, f) (λ q. inl (refl, refl))

-- one frame more, of which the word is the next
pub one_more : {P : ℕ → Guard} {s m n : State} {φ ψ χ : Store} {all : List ℕ} {i w : ℕ} {ws : List ℕ} {f : Frame} → Reaches P s φ all i m ψ
    → drop i all ≡ w ∷ ws → decode_word w ≡ Ok f → Acts m f.thread.0 f.action n → Steps P m ψ f.thread.0 f.action χ
    → Reaches P s φ all (suc i) n χ
one_more none e d a r = rw e (more d a r none)
one_more (more d' a' r' rest) e d a r = more d' a' r' (one_more rest e d a r)

module _ (P : ℕ → Guard) (all : List ℕ) where
  module _ (u : ℕ) (Q : Stage → Type 0) where
    -- what holds since a frame holds after one frame more that leaves it true
    longer : {i b : ℕ} → Since P all u Q i b → StageAfter P all u (suc i) Q → Since P all u Q (suc i) b
    longer {i = i} {b = b} h a = record { within = omega (arith, h.within); not_before = h.not_before; from_there = at }
      where
        at : (k : ℕ) → b < k → k ≤ suc i → StageAfter P all u k Q
        at k p q = by_test (eqb k (suc i)) (λ e. rw (eqb-true k (suc i) e) a) (λ e. h.from_there k p (omega (arith, eqb-false k (suc i) e)))

    -- what a frame makes true holds since that frame
    newly : {i : ℕ} → StageAfter P all u i (λ g. Q g → ⊥) → StageAfter P all u (suc i) Q → Since P all u Q (suc i) i
    newly {i = i} h a = record { within = omega arith; not_before = h; from_there = at }
      where
        at : (k : ℕ) → i < k → k ≤ suc i → StageAfter P all u k Q
        at k p q = let e : k ≡ suc i = omega arith in rw e a

    -- a mark that was right is right after a frame that does to it what a frame does
    onward : {i b c : ℕ} {s n : State} {φ ψ : Store} → Reaches P start start_store all i s φ → Reaches P start start_store all (suc i) n ψ
        → Kept Q i (φ.stage u) b (ψ.stage u) c → (Q (φ.stage u) → Since P all u Q i b) → Q (ψ.stage u) → Since P all u Q (suc i) c
    onward {i = i} {b = b} {c = c} {s = s} {n = n} {φ = φ} {ψ = ψ} x y k h q = go (k q)
      where
        go : (Q (φ.stage u) × (c ≡ b)) ⊎ ((Q (φ.stage u) → ⊥) × (c ≡ i)) → Since P all u Q (suc i) c
        go (inl (p, e)) = rw e (longer (h p) (n, ψ, y, q))
        go (inr (p, e)) = rw e (newly (s, φ, x, p) (n, ψ, y, q))

  -- What the pass knows before frame i: the rules lead to its state and its store, and each mark is right.
  pub record Knows (i : ℕ) (s : State) (j : Judging) : Type 0 where
    pub reached : Reaches P start start_store all i s (store_of s.depths j)
    pub begun : (u : ℕ) → InBlock ((store_of s.depths j).stage u) → Since P all u InBlock i (get_or j.begins u 0)
    pub done : (u : ℕ) → Committed ((store_of s.depths j).stage u) → Since P all u Committed i (get_or j.commits u 0 - 1)

  -- so it does before the next frame
  pub knows_next : {i w : ℕ} {ws : List ℕ} {f : Frame} {s n : State} {j k : Judging} → Knows i s j → drop i all ≡ w ∷ ws → decode_word w ≡ Ok f
      → Acts s f.thread.0 f.action n → Steps P s (store_of s.depths j) f.thread.0 f.action (store_of n.depths k)
      → Marked i s.depths j n.depths k → Knows (i + 1) n k
  knows_next {i = i} x e d a r m =
      let y = one_more x.reached e d a r in
      rw (add-one i) record {
        reached = y;
        begun = λ u. onward u InBlock x.reached y (m.begun u) (x.begun u);
        done = λ u. onward u Committed x.reached y (m.done u) (x.done u);
      }

  -- the marks of a thread's phase are right
  module _ {i : ℕ} {s : State} {j : Judging} (x : Knows i s j) (t : Thread) where
    begin_case : (y : Bool) → eqb (get_or s.depths t.0 0) 0 ≡ y → (z : Bool) → eqb (get_or j.commits t.0 0) 0 ≡ z
        → MarkIs P all t.0 InBlock i (begin_mark (phase_at (get_or s.depths t.0 0) t j))
    begin_case true e z f =
        let n : InBlock ((store_of s.depths j).stage t.0) → ⊥ = λ h. h (rw e) in
        rw e (s, store_of s.depths j, x.reached, n)
    begin_case false e true f = rw (e, f) (x.begun t.0 (stage_in (get_or s.depths t.0 0) (get_or j.commits t.0 0) e))
    begin_case false e false f = rw (e, f) (x.begun t.0 (stage_in (get_or s.depths t.0 0) (get_or j.commits t.0 0) e))

    commit_case : (y : Bool) → eqb (get_or s.depths t.0 0) 0 ≡ y → (z : Bool) → eqb (get_or j.commits t.0 0) 0 ≡ z
        → MarkIs P all t.0 Committed i (commit_mark (phase_at (get_or s.depths t.0 0) t j))
    commit_case true e z f = rw e (s, store_of s.depths j, x.reached, λ h. let q : Outside ≡ PostCommit = rw e at h in never (cc))
    commit_case false e true f = rw (e, f) (s, store_of s.depths j, x.reached, λ h. let q : PreCommit ≡ PostCommit = rw (e, f) at h in never (cc))
    commit_case false e false f = rw (e, f) (x.done t.0 (rw (e, f)))

    pub begin_is : MarkIs P all t.0 InBlock i (begin_mark (phase_at (get_or s.depths t.0 0) t j))
    begin_is = begin_case _ refl _ refl

    pub commit_is : MarkIs P all t.0 Committed i (commit_mark (phase_at (get_or s.depths t.0 0) t j))
    commit_is = commit_case _ refl _ refl
