-- The serial order as a walk of the recording that emits each unit at its commit. In this order: a unit's frames; the frames of a key are
-- what is left of its unit, and none once the unit is over; the walk; what holds at each place of it; the walk gives the serial order.
use Prim.Native.Nat.{ℕ, suc, ◌+◌, ◌≤◌, ◌<◌}
use mathlib.Core.Path.{◌≡◌, refl, sym, ap, ◌∙◌, subst}
use mathlib.Core.Logic.{◌⊎◌, ⊎_elim}
use mathlib.Core.Bool.{Bool, true, false, cond, not, ◌&&◌, ◌||◌, true≢false}
use mathlib.Core.List.{List, [], ◌∷◌, ◌++◌}
use native.Mathlib.Omega.{arith}
use lib.Dec.{eqb}
use lib.ListN.{length, drop}
use borrow.Author.Tests.{eqb-true, eqb-false, eq-eqb, ne_eqb}
use Rattle.laws.proofs.Logic.{by_test}
use Rattle.frame.specs.declared.Frame.{Frame}
use Rattle.soundness.specs.Soundness.{nest}
use Rattle.reduction.proofs.Run.{thread_of, Run, begin, settled, Keyed, onto, commit_place, key_of, keyed_by, depth_at, Closed}
use Rattle.reduction.proofs.Sort.{frames, bucket, buckets}
use Rattle.reduction.proofs.Steps.{put_other, commit_elim, commit_keeps, commit_tidy, Past, past_next, Turn, turn, here, on, other, depth_own, key_before, key_after, commit_place_le}
use Rattle.reduction.proofs.Serial.{order_by, unit_key, unit_before, unit_after, unit_step, other_step, At, at_some, place_at, one_thread, frames_append, key_bound, closed_next}

-- The elements of the frames of the thread t up to the one that brings its depth back to 0.
abbrev pub unit_from : {A : Type 0} → ℕ → ℕ → List Frame → List A → List A
unit_from t d [] xs = []
unit_from t d (f ∷ l) [] = []
unit_from t d (f ∷ l) (x ∷ xs) =
    cond (eqb (thread_of f) t) (x ∷ cond (eqb (nest d f.action) 0) [] (unit_from t (nest d f.action) l xs)) (unit_from t d l xs)

-- `o` has, for each thread in a block, a list from its outermost begin on, of frames or of elements; the same after the frame f, with which l
-- begins.
abbrev pub open_from : {B : Type 0} → Run → (ℕ → List B) → Frame → List B → ℕ → List B
open_from s o f l u = cond (eqb u (thread_of f) && eqb (s.depth (thread_of f)) 0) l (o u)

-- A thread that is outside has no commit.
abbrev Tidy : Run → Type 0
Tidy s = (u : ℕ) → s.depth u ≡ 0 → s.committed u ≡ 0

module _ (guards : List ℕ) where
  tidy_next : (s : Run) (n : ℕ) (f : Frame) → Tidy s → Tidy (onto guards s n f)
  tidy_next s n f h u e = by_test (eqb (thread_of f) u)
      (λ b. commit_tidy guards u s n f (eqb-true _ _ b) e)
      (λ b. let ne : u ≡ thread_of f → ⊥ = λ z. eqb-false _ _ b (sym z) in
      put_other s.committed (thread_of f) _ u ne ∙ h u (sym (put_other s.depth (thread_of f) _ u ne) ∙ e))

  -- No later frame has the key of a commit that no thread stands after.
  committed_not : (c : ℕ) (s : Run) (n : ℕ) (f : Frame) → c < n → ((u : ℕ) → s.committed u ≡ suc c → ⊥) → (u : ℕ)
      → (onto guards s n f).committed u ≡ suc c → ⊥
  committed_not c s n f h p u = commit_elim guards (λ v. v ≡ suc c → ⊥) s n u f (p u) (λ e z. omega arith) (λ z. omega arith)

  key_not : (c : ℕ) (s : Run) (n : ℕ) (f : Frame) (l : List Frame) → c < n → (s.committed (thread_of f) ≡ suc c → ⊥)
      → key_of guards s n f l ≡ c → ⊥
  key_not c s n f l h p e = by_test (eqb (s.committed (thread_of f)) 0)
      (λ b. omega (arith, key_before guards (thread_of f) s n f l refl (eqb-true _ _ b), commit_place_le guards (thread_of f) s n (f ∷ l)))
      (λ b. p (omega (arith, eqb-false, key_after guards s n f l (eqb-false _ _ b))))

  bucket_gone : {A : Type 0} (c : ℕ) (s : Run) (n : ℕ) (l : List Frame) (xs : List A) → c < n → ((u : ℕ) → s.committed u ≡ suc c → ⊥)
      → bucket c (keyed_by guards s n l xs) ≡ []
  bucket_gone c s n [] xs h p = refl
  bucket_gone c s n (f ∷ l) [] h p = refl
  bucket_gone c s n (f ∷ l) (x ∷ xs) h p =
      rw (ne_eqb (key_of guards s n f l) c (key_not c s n f l h (p (thread_of f))))
      (bucket_gone c (onto guards s n f) (suc n) l xs (omega arith) (committed_not c s n f h p))

  -- A unit whose thread is outside again has committed.
  unit_over : (w c : ℕ) (s : Run) (n : ℕ) (f : Frame) (l : List Frame) → Past s n → unit_key guards s n (f ∷ l) w ≡ c → thread_of f ≡ w
      → (onto guards s n f).depth w ≡ 0 → c ≤ n
  unit_over w c s n f l q k e z = by_test (eqb (s.committed w) 0)
      (λ b. go (turn guards w c s n f l (eqb-true _ _ b) (sym (unit_before guards s n (f ∷ l) w (eqb-true _ _ b)) ∙ k)))
      (λ b. omega (arith, q w, k, unit_after guards s n (f ∷ l) w (eqb-false _ _ b)))
    where
      go : Turn guards w c s n f l → c ≤ n
      go (here _ y _) = omega arith
      go (on _ _ _ y _) = absurd (y z)
      go (other y _ _) = absurd (y e)

  -- Where a thread's unit commits at c, the elements of that key are what the unit still has.
  bucket_unit : {A : Type 0} (w c : ℕ) (s : Run) (n : ℕ) (l : List Frame) (xs : List A) → c < n + length l → ((u : ℕ) → s.committed u ≡ suc c → u ≡ w) → At w c n l
      → Past s n → Tidy s → unit_key guards s n l w ≡ c → frames (bucket c (keyed_by guards s n l xs)) ≡ unit_from w (s.depth w) l xs
  bucket_unit w c s n [] xs h p a q d k = refl
  bucket_unit w c s n (f ∷ l) [] h p a q d k = refl
  bucket_unit {A} w c s n (f ∷ l) (x ∷ xs) h p a q d k =
      go (eqb (thread_of f) w) (eqb (nest (s.depth w) f.action) 0) refl refl
      (bucket_unit w c s' (suc n) l xs (omega arith) only_w a.1 (past_next guards s n f q) (tidy_next s n f d))
    where
      s' : Run
      s' = onto guards s n f

      rest : List (Keyed A)
      rest = bucket c (keyed_by guards (onto guards s n f) (suc n) l xs)

      only_w : (u : ℕ) → s'.committed u ≡ suc c → u ≡ w
      only_w u = commit_elim guards (λ v. v ≡ suc c → u ≡ w) s n u f (p u) (λ e z. e ∙ a.0 (omega arith)) (λ z. absurd (omega arith))

      own : thread_of f ≡ w → key_of guards s n f l ≡ c
      own e = ap (λ (j : ℕ). unit_key guards s n (f ∷ l) j) e ∙ k

      -- The unit is over.
      over : thread_of f ≡ w → s'.depth w ≡ 0 → rest ≡ []
      over e z =
          bucket_gone c s' (suc n) l xs (omega (arith, unit_over w c s n f l q k e z))
          (λ u y. let v : s'.committed w ≡ suc c = ap s'.committed (sym (only_w u y)) ∙ y in omega (arith, tidy_next s n f d w z))

      kept : thread_of f ≡ w → frames (bucket c (keyed_by guards s n (f ∷ l) (x ∷ xs))) ≡ x ∷ frames rest
      kept e =
          ap (λ (b : Bool). frames (cond b (record { key = key_of guards s n f l; frame = x } ∷ rest) rest))
          (eq-eqb (key_of guards s n f l) c (own e))

      skipped : (thread_of f ≡ w → ⊥) → frames (bucket c (keyed_by guards s n (f ∷ l) (x ∷ xs))) ≡ frames rest
      skipped ne =
          ap (λ (b : Bool). frames (cond b (record { key = key_of guards s n f l; frame = x } ∷ rest) rest))
          (ne_eqb (key_of guards s n f l) c (λ z. ne ((one_thread guards w c s n (f ∷ l) h p a).0 z)))

      go : (v b : Bool) → eqb (thread_of f) w ≡ v → eqb (nest (s.depth w) f.action) 0 ≡ b
          → (unit_key guards s' (suc n) l w ≡ c → frames rest ≡ unit_from w (s'.depth w) l xs)
          → frames (bucket c (keyed_by guards s n (f ∷ l) (x ∷ xs)))
          ≡ cond v (x ∷ cond b [] (unit_from w (nest (s.depth w) f.action) l xs)) (unit_from w (s.depth w) l xs)
      go true true ev eb ih =
          let e : thread_of f ≡ w = eqb-true _ _ ev in
          kept e ∙ ap (λ (r : List (Keyed A)). x ∷ frames r) (over e (depth_own guards w s n f e ∙ eqb-true _ _ eb))
      go true false ev eb ih =
          let e : thread_of f ≡ w = eqb-true _ _ ev in
          kept e ∙ (ap (λ (r : List A). x ∷ r) (ih (⊎_elim (λ y. y ∙ k)
          (λ y. absurd (eqb-false _ _ eb (sym (depth_own guards w s n f e) ∙ y))) (unit_step guards w s n f l e)))
          ∙ ap (λ (j : ℕ). x ∷ unit_from w j l xs) (depth_own guards w s n f e))
      go false b ev eb ih =
          let ne : thread_of f ≡ w → ⊥ = eqb-false _ _ ev in
          skipped ne ∙ (ih (other_step guards w s n f l ne ∙ k)
          ∙ ap (λ (j : ℕ). unit_from w j l xs) (put_other s.depth (thread_of f) _ w (λ z. ne (sym z))))

  -- The unit that commits at this frame, from its first frame on; nothing where none does. `o` and `e` are as in `open_from`, of frames and of
  -- elements; the elements xs begin with that of f.
  abbrev pub emitted : {A : Type 0} → Run → (ℕ → List Frame) → (ℕ → List A) → ℕ → Frame → List Frame → List A → List A
  emitted s o e n f l xs =
      cond (eqb (s.committed (thread_of f)) 0 && settled (onto guards s n f) (thread_of f))
      (unit_from (thread_of f) 0 (cond (eqb (s.depth (thread_of f)) 0) (f ∷ l) (o (thread_of f)))
      (cond (eqb (s.depth (thread_of f)) 0) xs (e (thread_of f)))) []

  -- What each frame emits, in recorded order.
  abbrev pub walk : {A : Type 0} → Run → (ℕ → List Frame) → (ℕ → List A) → ℕ → List Frame → List A → List A
  walk s o e n [] xs = []
  walk s o e n (f ∷ l) xs = emitted s o e n f l xs ++ walk (onto guards s n f) (open_from s o f (f ∷ l)) (open_from s e f xs) (suc n) l (drop 1 xs)

  -- No frame before n has the key c, unless it is that of a unit that is still open.
  abbrev Rest : {A : Type 0} → List (Keyed A) → Run → ℕ → List Frame → List A → Type 0
  Rest k s n l xs =
      (c : ℕ) → n ≤ c → ((u : ℕ) → (s.depth u ≡ 0 → ⊥) → unit_key guards s n l u ≡ c → ⊥) → bucket c k ≡ bucket c (keyed_by guards s n l xs)

  -- A block that is open and before commit is what `o` and `e` have of its unit.
  abbrev Opened : {A : Type 0} → List (Keyed A) → Run → (ℕ → List Frame) → (ℕ → List A) → ℕ → List Frame → Type 0
  Opened k s o e n l =
      (u : ℕ) → (s.depth u ≡ 0 → ⊥) → s.committed u ≡ 0 → frames (bucket (unit_key guards s n l u) k) ≡ unit_from u 0 (o u) (e u)

  open_stays : (s : Run) (n : ℕ) (f : Frame) (l : List Frame) (c u : ℕ) → Past s n → suc n ≤ c → unit_key guards s n (f ∷ l) u ≡ c
      → ((thread_of f ≡ u → ⊥) → (s.depth u ≡ 0 → ⊥))
      → ((onto guards s n f).depth u ≡ 0 → ⊥) × (unit_key guards (onto guards s n f) (suc n) l u ≡ c)
  open_stays s n f l c u q h k d = by_test (eqb (thread_of f) u)
      (λ b. let e : thread_of f ≡ u = eqb-true _ _ b in
      let z : (onto guards s n f).depth u ≡ 0 → ⊥ = λ y. omega (arith, unit_over u c s n f l q k e y) in
      (z, ⊎_elim (λ y. y ∙ k) (λ y. absurd (z y)) (unit_step guards u s n f l e)))
      (λ b. let ne : thread_of f ≡ u → ⊥ = eqb-false _ _ b in
      (λ y. d ne (sym (put_other s.depth (thread_of f) _ u (λ z. ne (sym z))) ∙ y), other_step guards u s n f l ne ∙ k))

  rest_next : {A : Type 0} (k : List (Keyed A)) (s : Run) (n : ℕ) (f : Frame) (l : List Frame) (x : A) (xs : List A) → Past s n
      → Rest k s n (f ∷ l) (x ∷ xs) → Rest k (onto guards s n f) (suc n) l xs
  rest_next k s n f l x xs q r c h p =
      r c (omega arith) (λ u d e. p u (open_stays s n f l c u q h e (λ z. d)).0 (open_stays s n f l c u q h e (λ z. d)).1)
      ∙ ap (λ (b : Bool). cond b (record { key = key_of guards s n f l; frame = x } ∷ bucket c (keyed_by guards (onto guards s n f) (suc n) l xs))
      (bucket c (keyed_by guards (onto guards s n f) (suc n) l xs)))
      (ne_eqb (key_of guards s n f l) c
      (λ e. p (thread_of f) (open_stays s n f l c (thread_of f) q h e (λ z. absurd (z refl))).0
      (open_stays s n f l c (thread_of f) q h e (λ z. absurd (z refl))).1))

  -- The unit that begins at this frame.
  unit_here : {A : Type 0} (k : List (Keyed A)) (s : Run) (n : ℕ) (f : Frame) (l : List Frame) (xs : List A) → Past s n → Tidy s
      → Rest k s n (f ∷ l) xs → depth_at (thread_of f) (s.depth (thread_of f)) (f ∷ l) ≡ 0 → s.depth (thread_of f) ≡ 0
      → frames (bucket (unit_key guards s n (f ∷ l) (thread_of f)) k) ≡ unit_from (thread_of f) 0 (f ∷ l) xs
  unit_here k s n f l xs q d r h z =
      ap frames (r c low closed)
      ∙ (bucket_unit t c s n (f ∷ l) xs bound none (subst (λ (w : ℕ). At w c n (f ∷ l)) (sym (same t refl before)) a.1) q d refl
      ∙ ap (λ (j : ℕ). unit_from t j (f ∷ l) xs) z)
    where
      t : ℕ
      t = thread_of f

      c : ℕ
      c = unit_key guards s n (f ∷ l) (thread_of f)

      before : s.committed t ≡ 0
      before = d t z

      low : n ≤ c
      low = omega (arith, unit_before guards s n (f ∷ l) t before, commit_place_le guards t s n (f ∷ l))

      bound : c < n + length (f ∷ l)
      bound = key_bound guards s n f l q h

      a : (w : ℕ) × At w c n (f ∷ l)
      a = at_some c n (f ∷ l)

      same : (u : ℕ) → unit_key guards s n (f ∷ l) u ≡ c → s.committed u ≡ 0 → u ≡ a.0
      same u e b = place_at guards a.0 c u s n (f ∷ l) (sym (unit_before guards s n (f ∷ l) u b) ∙ e) bound a.1

      none : (u : ℕ) → s.committed u ≡ suc c → u ≡ t
      none u e = absurd (omega (arith, q u, low))

      closed : (u : ℕ) → (s.depth u ≡ 0 → ⊥) → unit_key guards s n (f ∷ l) u ≡ c → ⊥
      closed u y e = by_test (eqb (s.committed u) 0)
          (λ b. y (ap s.depth (same u e (eqb-true _ _ b) ∙ sym (same t refl before)) ∙ z))
          (λ b. omega (arith, q u, low, e, eqb-false (s.committed u) 0 b, unit_after guards s n (f ∷ l) u (eqb-false _ _ b)))

  -- A block that is open and before commit was so before its thread's frame, or begins there.
  before_stays : (s : Run) (n : ℕ) (f : Frame) → ((onto guards s n f).depth (thread_of f) ≡ 0 → ⊥)
      → (onto guards s n f).committed (thread_of f) ≡ 0 → s.committed (thread_of f) ≡ 0
  before_stays s n f h c = by_test (eqb (s.committed (thread_of f)) 0) (λ b. eqb-true _ _ b)
      (λ b. absurd (⊎_elim (λ y. eqb-false _ _ b (sym y ∙ c)) h (commit_keeps guards (thread_of f) s n f refl (eqb-false _ _ b))))

  opened_own : {A : Type 0} (k : List (Keyed A)) (s : Run) (o : ℕ → List Frame) (e : ℕ → List A) (n : ℕ) (f : Frame) (l : List Frame) (xs : List A)
      → Past s n → Tidy s → Rest k s n (f ∷ l) xs
      → depth_at (thread_of f) (s.depth (thread_of f)) (f ∷ l) ≡ 0 → Opened k s o e n (f ∷ l) → s.committed (thread_of f) ≡ 0
      → frames (bucket (unit_key guards s n (f ∷ l) (thread_of f)) k)
      ≡ unit_from (thread_of f) 0 (cond (eqb (s.depth (thread_of f)) 0) (f ∷ l) (o (thread_of f))) (cond (eqb (s.depth (thread_of f)) 0) xs (e (thread_of f)))
  opened_own k s o e n f l xs q d r h p c = by_test (eqb (s.depth (thread_of f)) 0)
      (λ b. rw b (unit_here k s n f l xs q d r h (eqb-true _ _ b)))
      (λ b. rw b (p (thread_of f) (eqb-false _ _ b) c))

  opened_next : {A : Type 0} (k : List (Keyed A)) (s : Run) (o : ℕ → List Frame) (e : ℕ → List A) (n : ℕ) (f : Frame) (l : List Frame) (xs : List A)
      → Past s n → Tidy s → Rest k s n (f ∷ l) xs
      → depth_at (thread_of f) (s.depth (thread_of f)) (f ∷ l) ≡ 0 → Opened k s o e n (f ∷ l)
      → Opened k (onto guards s n f) (open_from s o f (f ∷ l)) (open_from s e f xs) (suc n) l
  opened_next k s o e n f l xs q d r h p u = by_test (eqb u (thread_of f))
      (λ b. subst (λ (j : ℕ). (s'.depth j ≡ 0 → ⊥) → s'.committed j ≡ 0
      → frames (bucket (unit_key guards s' (suc n) l j) k) ≡ unit_from j 0 (open_from s o f (f ∷ l) j) (open_from s e f xs j))
      (sym (eqb-true u (thread_of f) b)) own)
      (λ b. others (eqb-false u (thread_of f) b))
    where
      s' : Run
      s' = onto guards s n f

      own : (s'.depth (thread_of f) ≡ 0 → ⊥) → s'.committed (thread_of f) ≡ 0
          → frames (bucket (unit_key guards s' (suc n) l (thread_of f)) k) ≡ unit_from (thread_of f) 0 (open_from s o f (f ∷ l) (thread_of f)) (open_from s e f xs (thread_of f))
      own y c =
          ap (λ (j : ℕ). frames (bucket j k)) (⊎_elim (λ z. z) (λ z. absurd (y z)) (unit_step guards (thread_of f) s n f l refl))
          ∙ (opened_own k s o e n f l xs q d r h p (before_stays s n f y c)
          ∙ ap (λ (b : Bool). unit_from (thread_of f) 0 (cond (b && eqb (s.depth (thread_of f)) 0) (f ∷ l) (o (thread_of f)))
          (cond (b && eqb (s.depth (thread_of f)) 0) xs (e (thread_of f))))
          (sym (eq-eqb (thread_of f) (thread_of f) refl)))

      others : (u ≡ thread_of f → ⊥) → (s'.depth u ≡ 0 → ⊥) → s'.committed u ≡ 0
          → frames (bucket (unit_key guards s' (suc n) l u) k) ≡ unit_from u 0 (open_from s o f (f ∷ l) u) (open_from s e f xs u)
      others ne y c =
          ap (λ (j : ℕ). frames (bucket j k)) (other_step guards u s n f l (λ z. ne (sym z)))
          ∙ (p u (λ z. y (put_other s.depth (thread_of f) _ u ne ∙ z)) (sym (put_other s.committed (thread_of f) _ u ne) ∙ c)
          ∙ ap (λ (b : Bool). unit_from u 0 (cond (b && eqb (s.depth (thread_of f)) 0) (f ∷ l) (o u)) (cond (b && eqb (s.depth (thread_of f)) 0) xs (e u)))
          (sym (ne_eqb u (thread_of f) ne)))

  unsettled : (s : Run) (t : ℕ) → settled s t ≡ false → (s.depth t ≡ 0 → ⊥) × (s.committed t ≡ 0)
  unsettled s t e = go (eqb (s.depth t) 0) (eqb (s.committed t) 0) refl refl e
    where
      go : (a b : Bool) → eqb (s.depth t) 0 ≡ a → eqb (s.committed t) 0 ≡ b → (a || not b) ≡ false
          → (s.depth t ≡ 0 → ⊥) × (s.committed t ≡ 0)
      go true b ea eb q = absurd (true≢false q)
      go false true ea eb q = (eqb-false _ _ ea, eqb-true _ _ eb)
      go false false ea eb q = absurd (true≢false q)

  -- What a frame emits is what has its place for a key.
  emitted_bucket : {A : Type 0} (k : List (Keyed A)) (s : Run) (o : ℕ → List Frame) (e : ℕ → List A) (n : ℕ) (f : Frame) (l : List Frame) (x : A) (xs : List A)
      → Past s n → Tidy s → Rest k s n (f ∷ l) (x ∷ xs)
      → depth_at (thread_of f) (s.depth (thread_of f)) (f ∷ l) ≡ 0 → Opened k s o e n (f ∷ l) → frames (bucket n k) ≡ emitted s o e n f l (x ∷ xs)
  emitted_bucket k s o es n f l x xs q d r h p = go (eqb (s.committed (thread_of f)) 0) (settled (onto guards s n f) (thread_of f)) refl refl
    where
      t : ℕ
      t = thread_of f

      s' : Run
      s' = onto guards s n f

      -- No unit commits here.
      gone : ((u : ℕ) → unit_key guards s n (f ∷ l) u ≡ n → ⊥) → ((u : ℕ) → s'.committed u ≡ suc n → ⊥) → frames (bucket n k) ≡ []
      gone a b =
          ap frames
          (r n (omega arith) (λ u y. a u)
          ∙ (ap (λ (v : Bool). cond v (record { key = key_of guards s n f l; frame = x } ∷ bucket n (keyed_by guards s' (suc n) l xs))
          (bucket n (keyed_by guards s' (suc n) l xs))) (ne_eqb (key_of guards s n f l) n (a t))
          ∙ bucket_gone n s' (suc n) l xs (omega arith) b))

      no_unit : ((u : ℕ) → t ≡ u → s.committed u ≡ 0 → (s'.depth u ≡ 0) ⊎ (s'.committed u ≡ suc n) → ⊥) → (u : ℕ)
          → unit_key guards s n (f ∷ l) u ≡ n → ⊥
      no_unit a u e = by_test (eqb (s.committed u) 0)
          (λ b. cases (eqb-true _ _ b) (turn guards u n s n f l (eqb-true _ _ b) (sym (unit_before guards s n (f ∷ l) u (eqb-true _ _ b)) ∙ e)))
          (λ b. omega (arith, q u, e, eqb-false (s.committed u) 0 b, unit_after guards s n (f ∷ l) u (eqb-false _ _ b)))
        where
          cases : s.committed u ≡ 0 → Turn guards u n s n f l → ⊥
          cases c (here x y z) = a u x c z
          cases c (on x y z w v) = omega (arith, v, commit_place_le guards u s' (suc n) l)
          cases c (other x y v) = omega (arith, v, commit_place_le guards u s' (suc n) l)

      no_commit : (s'.committed t ≡ suc n → ⊥) → (u : ℕ) → s'.committed u ≡ suc n → ⊥
      no_commit a u =
          commit_elim guards (λ v. s'.committed u ≡ v → v ≡ suc n → ⊥) s n u f (λ x z. omega (arith, q u))
          (λ e x z. a (ap s'.committed (sym e) ∙ x)) (λ x z. omega arith) refl

      go : (v w : Bool) → eqb (s.committed t) 0 ≡ v → settled s' t ≡ w
          → frames (bucket n k) ≡ cond (v && w) (unit_from t 0 (cond (eqb (s.depth t) 0) (f ∷ l) (o t)) (cond (eqb (s.depth t) 0) (x ∷ xs) (es t))) []
      go true true ev ew =
          let c : unit_key guards s n (f ∷ l) t ≡ n =
          unit_before guards s n (f ∷ l) t (eqb-true _ _ ev)
          ∙ (ap (λ (b : Bool). cond (b && settled s' t) n (commit_place guards t s' (suc n) l)) (eq-eqb t t refl)
          ∙ ap (λ (b : Bool). cond b n (commit_place guards t s' (suc n) l)) ew) in
          sym (ap (λ (j : ℕ). frames (bucket j k)) c) ∙ opened_own k s o es n f l (x ∷ xs) q d r h p (eqb-true _ _ ev)
      go true false ev ew =
          let z : (s'.depth t ≡ 0 → ⊥) × (s'.committed t ≡ 0) = unsettled s' t ew in
          gone
          (no_unit (λ u e c y. ⊎_elim (λ x. z.0 (ap s'.depth e ∙ x)) (λ x. omega (arith, ap s'.committed e, z.1)) y))
          (no_commit (λ x. omega (arith, z.1)))
      go false w ev ew =
          gone (no_unit (λ u e c y. eqb-false _ _ ev (ap s.committed e ∙ c)))
          (no_commit (λ x. ⊎_elim
          (λ y. omega (arith, q t, y))
          (λ y. omega (arith, commit_tidy guards t s n f refl y))
          (commit_keeps guards t s n f refl (eqb-false _ _ ev))))

  walk_buckets : {A : Type 0} (k : List (Keyed A)) (s : Run) (o : ℕ → List Frame) (e : ℕ → List A) (n : ℕ) (l : List Frame) (xs : List A)
      → length xs ≡ length l → Past s n → Tidy s → Rest k s n l xs
      → ((t : ℕ) → depth_at t (s.depth t) l ≡ 0) → Opened k s o e n l → walk s o e n l xs ≡ frames (buckets (length l) n k)
  walk_buckets k s o e n [] xs z q d r h p = refl
  walk_buckets k s o e n (f ∷ l) [] z q d r h p = absurd (omega arith)
  walk_buckets {A} k s o e n (f ∷ l) (x ∷ xs) z q d r h p =
      rw (frames_append (bucket n k) (buckets (length l) (suc n) k), emitted_bucket k s o e n f l x xs q d r (h (thread_of f)) p)
      (ap (λ (y : List A). emitted s o e n f l (x ∷ xs) ++ y)
      (walk_buckets k (onto guards s n f) (open_from s o f (f ∷ l)) (open_from s e f (x ∷ xs)) (suc n) l xs (omega arith) (past_next guards s n f q)
      (tidy_next s n f d) (rest_next k s n f l x xs q r)
      (λ t. closed_next guards t s n f l (h t)) (opened_next k s o e n f l (x ∷ xs) q d r (h (thread_of f)) p)))

  -- The walk from the start gives the serial order.
  pub serial_walk : {A : Type 0} (l : List Frame) (xs : List A) → length xs ≡ length l → Closed l → walk begin (λ t. []) (λ t. []) 0 l xs ≡ order_by guards l xs
  serial_walk l xs z h =
      walk_buckets (keyed_by guards begin 0 l xs) begin (λ t. []) (λ t. []) 0 l xs z (λ u. omega arith) (λ u e. refl) (λ c y p. refl) h
      (λ u y e. absurd (y refl))
