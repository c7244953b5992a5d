-- The commit of a unit is one of its frames: the frame at the place of a key has that key.
use Prim.Native.Nat.{ℕ, suc, pred, ◌+◌, ◌≤◌, ◌<◌}
use mathlib.Core.Path.{◌≡◌, refl, sym, ap, ◌∙◌}
use mathlib.Core.Logic.{⊎_elim}
use mathlib.Core.List.{List, [], ◌∷◌}
use native.Mathlib.Omega.{arith}
use borrow.Author.Tests.{eqb-true, eqb-false}
use lib.Dec.{eqb}
use lib.ListN.{length, get_or, drop}
use Rattle.laws.proofs.Logic.{by_test}
use Rattle.laws.proofs.Lists.{rest_of}
use Rattle.frame.specs.declared.Frame.{Frame}
use Rattle.reduction.proofs.Run.{thread_of, Run, begin, onto, commit_place, key_of, keyed, depth_at, Closed}
use Rattle.reduction.proofs.Sort.{keys}
use Rattle.reduction.proofs.Steps.{put_other, commit_elim, commit_keeps, commit_tidy, Past, past_next, Turn, turn, here, on, other, key_before, key_after}
use Rattle.reduction.proofs.Serial.{key_bound, closed_next}

-- `all` has the keys of a whole recording.
module _ (guards all : List ℕ) where
  -- the commit to come of the thread t
  own_commit : (t c : ℕ) (s : Run) (n : ℕ) (l : List Frame) → s.committed t ≡ 0 → commit_place guards t s n l ≡ c → c < n + length l
      → drop n all ≡ keys (keyed guards s n l) → get_or all c 0 ≡ c
  own_commit t c s n [] b p h e = absurd (omega arith)
  own_commit t c s n (f ∷ l) b p h e =
      go (turn guards t c s n f l b p)
      (λ z q. own_commit t c (onto guards s n f) (suc n) l z q (omega arith) (rest_of all n (key_of guards s n f l) (keys (keyed guards (onto guards s n f) (suc n) l)) e).2)
    where
      go : Turn guards t c s n f l → ((onto guards s n f).committed t ≡ 0 → commit_place guards t (onto guards s n f) (suc n) l ≡ c → get_or all c 0 ≡ c)
          → get_or all c 0 ≡ c
      go (here x q r) ih =
          sym (ap (λ (j : ℕ). get_or all j 0) q)
          ∙ ((rest_of all n (key_of guards s n f l) (keys (keyed guards (onto guards s n f) (suc n) l)) e).1 ∙ (key_before guards t s n f l x b ∙ p))
      go (on x y z v q) ih = ih z q
      go (other x z q) ih = ih z q

  -- what the threads stand after has its own place for a key
  abbrev Noted : Run → Type 0
  Noted s = (u c : ℕ) → s.committed u ≡ suc c → get_or all c 0 ≡ c

  -- a frame at which its thread commits has its own place for a key
  commits_here : (t : ℕ) (s : Run) (n : ℕ) (f : Frame) (l : List Frame) → Past s n → (onto guards s n f).committed t ≡ suc n → key_of guards s n f l ≡ n
  commits_here t s n f l q z = by_test (eqb (thread_of f) t)
      (λ b. own (eqb-true _ _ b))
      (λ b. let y : (onto guards s n f).committed t ≡ s.committed t = put_other s.committed (thread_of f) _ t (λ x. eqb-false _ _ b (sym x)) in
      absurd (omega (arith, q t, y)))
    where
      own : thread_of f ≡ t → key_of guards s n f l ≡ n
      own e = by_test (eqb (s.committed t) 0)
          (λ b. go (eqb-true _ _ b) (turn guards t (commit_place guards t s n (f ∷ l)) s n f l (eqb-true _ _ b) refl))
          (λ b. absurd (⊎_elim (λ y. omega (arith, q t, y)) (λ y. omega (arith, commit_tidy guards t s n f e y)) (commit_keeps guards t s n f e (eqb-false _ _ b))))
        where
          go : s.committed t ≡ 0 → Turn guards t (commit_place guards t s n (f ∷ l)) s n f l → key_of guards s n f l ≡ n
          go c (here x y r) = key_before guards t s n f l e c ∙ sym y
          go c (on x y w v r) = absurd (omega (arith, w))
          go c (other x w r) = absurd (x e)

  noted_next : (s : Run) (n : ℕ) (f : Frame) (l : List Frame) → Past s n → get_or all n 0 ≡ key_of guards s n f l → Noted s → Noted (onto guards s n f)
  noted_next s n f l q k h u c e = by_test (eqb c n)
      (λ b. let z : c ≡ n = eqb-true _ _ b in
      ap (λ (j : ℕ). get_or all j 0) z ∙ (k ∙ (commits_here u s n f l q (e ∙ ap suc z) ∙ sym z)))
      (λ b. commit_elim guards (λ v. v ≡ suc c → get_or all c 0 ≡ c) s n u f (h u c) (λ x z. absurd (eqb-false c n b (omega arith))) (λ z. absurd (omega arith)) e)

  -- Each key lies within the recording, and is the key of the frame at its place.
  keys_own : (s : Run) (n : ℕ) (l : List Frame) → Past s n → ((t : ℕ) → depth_at t (s.depth t) l ≡ 0) → Noted s → drop n all ≡ keys (keyed guards s n l)
      → (p : ℕ) → n ≤ p → p < n + length l → (get_or all p 0 < n + length l) × (get_or all (get_or all p 0) 0 ≡ get_or all p 0)
  keys_own s n [] q d h e p a b = absurd (omega arith)
  keys_own s n (f ∷ l) q d h e p a b =
      let r = rest_of all n (key_of guards s n f l) (keys (keyed guards (onto guards s n f) (suc n) l)) e in
      by_test (eqb p n)
      (λ v. rw (eqb-true p n v, r.1) (
        key_bound guards s n f l q (d (thread_of f)),
        by_test (eqb (s.committed (thread_of f)) 0)
            (λ z. own_commit (thread_of f) (key_of guards s n f l) s n (f ∷ l) (eqb-true _ _ z) (sym (key_before guards (thread_of f) s n f l refl (eqb-true _ _ z)))
            (key_bound guards s n f l q (d (thread_of f))) e)
            (λ z. let y = key_after guards s n f l (eqb-false _ _ z) in
            rw y (h (thread_of f) (pred (s.committed (thread_of f))) (omega (arith, eqb-false (s.committed (thread_of f)) 0 z)))),
      ))
      (λ v. let ih = keys_own (onto guards s n f) (suc n) l (past_next guards s n f q) (λ t. closed_next guards t s n f l (d t)) (noted_next s n f l q r.1 h) r.2 p
      (omega (arith, eqb-false p n v)) (omega arith) in
      (omega (arith, ih.0), ih.1))

-- From the start.
pub commits_own : (guards : List ℕ) (l : List Frame) → Closed l → (p : ℕ) → p < length l
    → (get_or (keys (keyed guards begin 0 l)) p 0 < length l)
    × (get_or (keys (keyed guards begin 0 l)) (get_or (keys (keyed guards begin 0 l)) p 0) 0 ≡ get_or (keys (keyed guards begin 0 l)) p 0)
commits_own guards l c p h =
    let r = keys_own guards (keys (keyed guards begin 0 l)) begin 0 l (λ u. omega arith) c (λ u k e. absurd (omega arith)) refl p (omega arith) (omega arith) in
    (omega (arith, r.0), r.1)

pub keys_length : (guards : List ℕ) (s : Run) (n : ℕ) (l : List Frame) → length (keys (keyed guards s n l)) ≡ length l
keys_length guards s n [] = refl
keys_length guards s n (f ∷ l) = ap suc (keys_length guards (onto guards s n f) (suc n) l)
