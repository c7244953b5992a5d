-- Laws of one step of a run, which the order of keys, the serial order and its walk share. In this order: an entry put into a function,
-- commits and keys that lie before or after a place, a thread's depth and commit after its frame, and how one frame bears on a thread.
use Prim.Native.Nat.{ℕ, suc, pred, ◌≤◌, ◌<◌}
use mathlib.Core.Path.{◌≡◌, refl, sym, ap, ◌∙◌, subst}
use mathlib.Core.Logic.{◌⊎◌, inl, inr}
use mathlib.Core.Bool.{Bool, true, false, cond, not, ◌&&◌, ◌||◌, and-false}
use mathlib.Core.List.{List, [], ◌∷◌}
use native.Mathlib.Omega.{arith}
use lib.Dec.{eqb}
use borrow.Author.Tests.{eqb-true, eqb-false, eq-eqb, ne_eqb}
use Rattle.laws.proofs.Logic.{either, by_test}
use Rattle.frame.specs.declared.Frame.{Frame}
use Rattle.soundness.specs.Soundness.{nest}
use Rattle.operation.specs.declared.Operation.{Operation}
use Rattle.reduction.proofs.Run.{thread_of, Run, put, committing, commit_after, settled, seen, onto, commit_place, key_of, keyed}
use Rattle.reduction.proofs.Sort.{All}

pub put_same : (f : ℕ → ℕ) (k v i : ℕ) → i ≡ k → put f k v i ≡ v
put_same f k v i h = rw (eq-eqb i k h)

pub put_other : (f : ℕ → ℕ) (k v i : ℕ) → (i ≡ k → ⊥) → put f k v i ≡ f i
put_other f k v i h = rw (ne_eqb i k h)

pub put_own : (f h : ℕ → ℕ) (k i : ℕ) → k ≡ i → put f k (h k) i ≡ h i
put_own f h k i e = put_same f k (h k) i (sym e) ∙ ap h e

-- What holds of an entry after a step: of the thread's new one, and of the others as they were.
pub put_cases : (P : ℕ → Type 0) (f : ℕ → ℕ) (k v i : ℕ) → (i ≡ k → P v) → ((i ≡ k → ⊥) → P (f i)) → P (put f k v i)
put_cases P f k v i p q = go (eqb i k) refl
  where
    go : (b : Bool) → eqb i k ≡ b → P (cond b v (f i))
    go true e = p (eqb-true i k e)
    go false e = q (eqb-false i k e)

-- What leaves a block open and before commit commits nothing.
quiet : (d n : ℕ) (k : Operation) → commit_after d 0 n k ≡ 0 → (d ≡ 0 → ⊥) → committing k ≡ false
quiet d n k e h = by_test (committing k) (λ b. absurd (let z : suc n ≡ 0 = rw (ne_eqb d 0 h, b) at e in omega arith)) (λ b. b)

-- No commit, or one after the place N.
abbrev pub Fresh : ℕ → ℕ → Type 0
Fresh N c = (c ≡ 0) ⊎ (N < c)

-- Commits lie before the place n.
abbrev pub Past : Run → ℕ → Type 0
Past s n = (u : ℕ) → s.committed u ≤ n

module _ (guards : List ℕ) where
  pub commit_place_le : (t : ℕ) (s : Run) (n : ℕ) (l : List Frame) → n ≤ commit_place guards t s n l
  commit_place_le t s n [] = omega arith
  commit_place_le t s n (f ∷ l) =
      either (λ v. n ≤ v) (eqb (thread_of f) t && settled (onto guards s n f) t) {x = n} {y = commit_place guards t (onto guards s n f) (suc n) l} (omega arith)
      (omega (arith, commit_place_le t (onto guards s n f) (suc n) l))

  -- A thread's commit after a frame is the one before, none, or the frame's place where the frame is the thread's.
  pub commit_elim : (P : ℕ → Type 0) (s : Run) (n u : ℕ) (f : Frame) → P (s.committed u) → (u ≡ thread_of f → P (suc n)) → P 0
      → P ((onto guards s n f).committed u)
  commit_elim P s n u f p q r =
      put_cases P s.committed (thread_of f) _ u
      (λ e. either P (eqb (nest (s.depth (thread_of f)) f.action) 0) r
      (either P (committing (seen guards s f) && eqb (s.committed (thread_of f)) 0) (q e) (subst (λ (i : ℕ). P (s.committed i)) e p)))
      (λ e. p)

  pub fresh_next : (N : ℕ) (s : Run) (n u : ℕ) (f : Frame) → N ≤ n → Fresh N (s.committed u) → Fresh N ((onto guards s n f).committed u)
  fresh_next N s n u f h p = commit_elim (Fresh N) s n u f p (λ e. inr (omega arith)) (inl refl)

  key_late : (N : ℕ) (s : Run) (n : ℕ) (f : Frame) (l : List Frame) → N ≤ n → Fresh N (s.committed (thread_of f)) → N ≤ key_of guards s n f l
  key_late N s n f l h p = go (eqb (s.committed (thread_of f)) 0) refl p
    where
      c : ℕ
      c = s.committed (thread_of f)

      k : ℕ
      k = commit_place guards (thread_of f) s n (f ∷ l)

      go : (b : Bool) → eqb c 0 ≡ b → Fresh N c → N ≤ cond b k (pred c)
      go true e q = omega (arith, commit_place_le (thread_of f) s n (f ∷ l))
      go false e (inl q) = absurd (eqb-false c 0 e q)
      go false e (inr q) = let z : N ≤ pred c = omega arith in z

  -- A thread with no commit before N has no frame with a key below N.
  pub late_keys : (u N : ℕ) (s : Run) (n : ℕ) (l : List Frame) → N ≤ n → Fresh N (s.committed u)
      → All (λ x. thread_of x.frame ≡ u → N ≤ x.key) (keyed guards s n l)
  late_keys u N s n [] h p = tt
  late_keys u N s n (f ∷ l) h p = (
    λ e. key_late N s n f l h (subst (λ (i : ℕ). Fresh N (s.committed i)) (sym e) p),
    late_keys u N (onto guards s n f) (suc n) l (omega arith) (fresh_next N s n u f h p),
  )

  pub past_next : (s : Run) (n : ℕ) (f : Frame) → Past s n → Past (onto guards s n f) (suc n)
  past_next s n f h u = commit_elim (λ v. v ≤ suc n) s n u f (omega (arith, h u)) (λ e. omega arith) (omega arith)

  pub depth_own : (t : ℕ) (s : Run) (n : ℕ) (f : Frame) → thread_of f ≡ t → (onto guards s n f).depth t ≡ nest (s.depth t) f.action
  depth_own t s n f e = put_own s.depth (λ j. nest (s.depth j) f.action) (thread_of f) t e

  committed_own : (t : ℕ) (s : Run) (n : ℕ) (f : Frame) → thread_of f ≡ t
      → (onto guards s n f).committed t ≡ commit_after (nest (s.depth t) f.action) (s.committed t) n (seen guards s f)
  committed_own t s n f e =
      put_own s.committed (λ j. commit_after (nest (s.depth j) f.action) (s.committed j) n (seen guards s f)) (thread_of f) t e

  -- A frame keeps its thread's commit, or leaves the thread outside, where it has none.
  pub commit_keeps : (t : ℕ) (s : Run) (n : ℕ) (f : Frame) → thread_of f ≡ t → (s.committed t ≡ 0 → ⊥)
      → ((onto guards s n f).committed t ≡ s.committed t) ⊎ ((onto guards s n f).depth t ≡ 0)
  commit_keeps t s n f e h = by_test (eqb (nest (s.depth t) f.action) 0) (λ b. inr (depth_own t s n f e ∙ eqb-true _ _ b))
      (λ b. inl (committed_own t s n f e ∙ rw (b, ne_eqb (s.committed t) 0 h, and-false)))

  pub commit_tidy : (t : ℕ) (s : Run) (n : ℕ) (f : Frame) → thread_of f ≡ t → (onto guards s n f).depth t ≡ 0
      → (onto guards s n f).committed t ≡ 0
  commit_tidy t s n f e z = committed_own t s n f e ∙ rw (eq-eqb (nest (s.depth t) f.action) 0 (sym (depth_own t s n f e) ∙ z))

  -- How the next frame bears on a thread that is not after commit, whose unit commits at K.
  pub data Turn (t K : ℕ) (s : Run) (n : ℕ) (f : Frame) (l : List Frame) : Type 0 where
    here : thread_of f ≡ t → n ≡ K → ((onto guards s n f).depth t ≡ 0) ⊎ ((onto guards s n f).committed t ≡ suc n) → Turn t K s n f l
    on :
        thread_of f ≡ t → committing (seen guards s f) ≡ false → (onto guards s n f).committed t ≡ 0 → ((onto guards s n f).depth t ≡ 0 → ⊥)
        → commit_place guards t (onto guards s n f) (suc n) l ≡ K → Turn t K s n f l
    other : (thread_of f ≡ t → ⊥) → (onto guards s n f).committed t ≡ 0 → commit_place guards t (onto guards s n f) (suc n) l ≡ K
        → Turn t K s n f l

  -- Such a frame is one of the three.
  pub turn : (t K : ℕ) (s : Run) (n : ℕ) (f : Frame) (l : List Frame) → s.committed t ≡ 0 → commit_place guards t s n (f ∷ l) ≡ K
      → Turn t K s n f l
  turn t K s n f l c p = go (eqb (thread_of f) t) (eqb (s'.depth t) 0) (eqb (s'.committed t) 0) refl refl refl p
    where
      s' : Run
      s' = onto guards s n f

      go : (a b v : Bool) → eqb (thread_of f) t ≡ a → eqb (s'.depth t) 0 ≡ b → eqb (s'.committed t) 0 ≡ v
          → cond (a && (b || not v)) n (commit_place guards t s' (suc n) l) ≡ K → Turn t K s n f l
      go true true v ea eb ev q = here (eqb-true _ _ ea) q (inl (eqb-true _ _ eb))
      go true false false ea eb ev q =
          here (eqb-true _ _ ea) q
          (inr
          (commit_elim (λ x. (x ≡ 0 → ⊥) → x ≡ suc n) s n t f (λ z. absurd (z c)) (λ e z. refl) (λ z. absurd (z refl)) (eqb-false _ _ ev)))
      go true false true ea eb ev q =
          let e : thread_of f ≡ t = eqb-true _ _ ea in
          let now : s'.committed t ≡ commit_after (nest (s.depth t) f.action) 0 n (seen guards s f) =
          committed_own t s n f e ∙ ap (λ (j : ℕ). commit_after (nest (s.depth t) f.action) j n (seen guards s f)) c in
          on e (quiet (nest (s.depth t) f.action) n (seen guards s f) (sym now ∙ eqb-true _ _ ev)
          (λ z. eqb-false _ _ eb (depth_own t s n f e ∙ z))) (eqb-true _ _ ev) (eqb-false _ _ eb) q
      go false b v ea eb ev q = other (eqb-false _ _ ea) (put_other s.committed (thread_of f) _ t (λ e. eqb-false _ _ ea (sym e)) ∙ c) q

  -- The key of a frame whose thread is not after commit, and of one whose thread is.
  pub key_before : (t : ℕ) (s : Run) (n : ℕ) (f : Frame) (l : List Frame) → thread_of f ≡ t → s.committed t ≡ 0
      → key_of guards s n f l ≡ commit_place guards t s n (f ∷ l)
  key_before t s n f l e c =
      ap (λ (j : ℕ). cond (eqb (s.committed j) 0) (commit_place guards j s n (f ∷ l)) (pred (s.committed j))) e
      ∙ (rw (eq-eqb (s.committed t) 0 c))

  pub key_after : (s : Run) (n : ℕ) (f : Frame) (l : List Frame) → (s.committed (thread_of f) ≡ 0 → ⊥)
      → key_of guards s n f l ≡ pred (s.committed (thread_of f))
  key_after s n f l c = rw (ne_eqb (s.committed (thread_of f)) 0 c)
