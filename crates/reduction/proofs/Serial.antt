-- The serial order of a recording: the frames by the place of their commit. In this order: the definitions; keys lie within the recording,
-- so that exchanges lead to the order where the recording does not go wrong and all blocks are closed; the frames of one key are of one
-- thread and take it from depth 0 back to depth 0, so that the order is serial.
use Prim.Native.Nat.{ℕ, zero, suc, pred, ◌+◌, ◌<◌}
use mathlib.Core.Path.{◌≡◌, refl, sym, ap, ◌∙◌, subst}
use mathlib.Core.Logic.{◌⊎◌, inl, inr, ⊎_elim}
use mathlib.Core.Bool.{Bool, true, false, cond, not, ◌&&◌, ◌||◌}
use mathlib.Core.List.{List, [], ◌∷◌, ◌++◌}
use native.Mathlib.Omega.{arith}
use lib.Dec.{eqb}
use lib.ListN.{length}
use borrow.Author.Tests.{eqb-true, eqb-false, eq-eqb, ne_eqb}
use Rattle.std.proofs.lemmas.List.{map-append}
use Rattle.laws.proofs.Logic.{by_test}
use Rattle.frame.specs.declared.Frame.{Frame}
use Rattle.soundness.specs.Soundness.{nest}
use Rattle.exchange.specs.Exchange.{Exchanges}
use Rattle.exchange.specs.Independent.{independent}
use Rattle.reduction.proofs.Run.{thread_of, Run, begin, put, settled, Keyed, onto, Good, commit_place, key_of, keyed_by, keyed, depth_at, Closed}
use Rattle.reduction.proofs.Sort.{frames, bucket, buckets, All, all_intro, Ordered, sort_exchanges, sort_buckets, Within}
use Rattle.reduction.proofs.Steps.{put_own, put_other, commit_elim, commit_keeps, Past, past_next, Turn, turn, here, on, other, depth_own, key_before, key_after}
use Rattle.reduction.proofs.Order.{ordered}

-- The elements by the place of their frames' commit, lowest first, those of one commit in recorded order; and the frames themselves.
abbrev pub order_by : {A : Type 0} → List ℕ → List Frame → List A → List A
order_by guards l xs = frames (buckets (length l) 0 (keyed_by guards begin 0 l xs))

abbrev pub serial_order : List ℕ → List Frame → List Frame
serial_order guards l = order_by guards l l

-- Figure 6: at each frame every other thread is outside. `d` has each thread's depth before the first.
abbrev pub Serial : (ℕ → ℕ) → List Frame → Type 0
Serial d [] = Unit {0}
Serial d (f ∷ l) = ((u : ℕ) → (u ≡ thread_of f → ⊥) → d u ≡ 0) × Serial (put d (thread_of f) (nest (d (thread_of f)) f.action)) l

depth_at_own : (t d : ℕ) (f : Frame) (l : List Frame) → thread_of f ≡ t → depth_at t d (f ∷ l) ≡ depth_at t (nest d f.action) l
depth_at_own t d f l e = ap (λ (b : Bool). depth_at t (cond b (nest d f.action) d) l) (eq-eqb _ _ e)

depth_at_other : (t d : ℕ) (f : Frame) (l : List Frame) → (thread_of f ≡ t → ⊥) → depth_at t d (f ∷ l) ≡ depth_at t d l
depth_at_other t d f l e = ap (λ (b : Bool). depth_at t (cond b (nest d f.action) d) l) (ne_eqb _ _ e)

-- The frame at the place c, where the list begins at n and has it, is of the thread w.
abbrev pub At : ℕ → ℕ → ℕ → List Frame → Type 0
At w c n [] = Unit {0}
At w c n (f ∷ l) = (n ≡ c → thread_of f ≡ w) × At w c (suc n) l

pub at_past : (w c n : ℕ) (l : List Frame) → c < n → At w c n l
at_past w c n [] h = tt
at_past w c n (f ∷ l) h = (λ e. absurd (omega arith), at_past w c (suc n) l (omega arith))

pub at_some : (c n : ℕ) (l : List Frame) → (w : ℕ) × At w c n l
at_some c n [] = (0, tt)
at_some c n (f ∷ l) = go (eqb n c) refl (at_some c (suc n) l)
  where
    go : (b : Bool) → eqb n c ≡ b → (w : ℕ) × At w c (suc n) l → (w : ℕ) × At w c n (f ∷ l)
    go true e r = (thread_of f, (λ q. refl, at_past (thread_of f) c (suc n) l (omega (arith, eqb-true))))
    go false e r = (r.0, (λ q. absurd (eqb-false _ _ e q), r.1))

bucket_all : (Q : Keyed Frame → Type 0) (c : ℕ) (l : List (Keyed Frame)) → All (λ x. x.key ≡ c → Q x) l → All Q (bucket c l)
bucket_all Q c [] a = tt
bucket_all Q c (x ∷ l) a = go (eqb x.key c) refl (bucket_all Q c l a.1)
  where
    go : (b : Bool) → eqb x.key c ≡ b → All Q (bucket c l) → All Q (cond b (x ∷ bucket c l) (bucket c l))
    go true e ih = (a.0 (eqb-true _ _ e), ih)
    go false e ih = ih

pub frames_append : {A : Type 0} (l r : List (Keyed A)) → frames (l ++ r) ≡ frames l ++ frames r
frames_append l r = map-append (λ x. x.frame) l r

-- Where all neighbours may be exchanged, every list is in order.
all_ordered : {A : Type 0} (l : List (Keyed A)) → Ordered (λ x y. true) l
all_ordered [] = tt
all_ordered (x ∷ l) = (all_intro (λ y. inl refl) l, all_ordered l)

-- A unit and what is serial after it.
serial_unit : (w : ℕ) (b : List (Keyed Frame)) (r : List Frame) (d : ℕ → ℕ) → All (λ x. thread_of x.frame ≡ w) b
    → ((u : ℕ) → (u ≡ w → ⊥) → d u ≡ 0)
    → depth_at w (d w) (frames b) ≡ 0 → ((d' : ℕ → ℕ) → ((u : ℕ) → d' u ≡ 0) → Serial d' r) → Serial d (frames b ++ r)
serial_unit w [] r d a o h k = k d (λ u. by_test (eqb u w) (λ e. ap d (eqb-true _ _ e) ∙ h) (λ e. o u (eqb-false _ _ e)))
serial_unit w (x ∷ b) r d a o h k = (
  λ u ne. o u (λ e. ne (e ∙ sym a.0)),
  serial_unit w b r (put d (thread_of x.frame) (nest (d (thread_of x.frame)) x.frame.action)) a.1
      (λ u ne. put_other d (thread_of x.frame) _ u (λ e. ne (e ∙ a.0)) ∙ o u ne)
      (ap (λ (j : ℕ). depth_at w j (frames b)) (put_own d (λ j. nest (d j) x.frame.action) (thread_of x.frame) w a.0)
      ∙ (sym (depth_at_own w (d w) x.frame (frames b) a.0) ∙ h))
      k,
)

module _ (guards : List ℕ) where
  -- The depth that the run keeps.
  pub depth_next : (t : ℕ) (s : Run) (n : ℕ) (f : Frame)
      → (onto guards s n f).depth t ≡ cond (eqb (thread_of f) t) (nest (s.depth t) f.action) (s.depth t)
  depth_next t s n f = by_test (eqb (thread_of f) t)
      (λ e. rw e (depth_own guards t s n f (eqb-true _ _ e)))
      (λ e. rw e (put_other s.depth (thread_of f) _ t (λ q. eqb-false _ _ e (sym q))))

  pub closed_next : (t : ℕ) (s : Run) (n : ℕ) (f : Frame) (l : List Frame) → depth_at t (s.depth t) (f ∷ l) ≡ 0
      → depth_at t ((onto guards s n f).depth t) l ≡ 0
  closed_next t s n f l h = ap (λ (d : ℕ). depth_at t d l) (depth_next t s n f) ∙ h

  frames_keyed : {A : Type 0} (s : Run) (n : ℕ) (l : List Frame) (xs : List A) → length xs ≡ length l → frames (keyed_by guards s n l xs) ≡ xs
  frames_keyed s n [] [] e = refl
  frames_keyed s n [] (x ∷ xs) e = absurd (omega arith)
  frames_keyed s n (f ∷ l) [] e = absurd (omega arith)
  frames_keyed {A} s n (f ∷ l) (x ∷ xs) e = ap (λ (r : List A). x ∷ r) (frames_keyed (onto guards s n f) (suc n) l xs (omega arith))

  -- A unit commits within the recording.
  place_bound : (t : ℕ) (s : Run) (n : ℕ) (l : List Frame) → depth_at t (s.depth t) l ≡ 0 → (s.depth t ≡ 0 → ⊥)
      → commit_place guards t s n l < n + length l
  place_bound t s n [] h p = absurd (p h)
  place_bound t s n (f ∷ l) h p =
      go (eqb (thread_of f) t) (eqb (s'.depth t) 0) (eqb (s'.committed t) 0) refl refl
      (place_bound t (onto guards s n f) (suc n) l (closed_next t s n f l h))
    where
      s' : Run
      s' = onto guards s n f

      go : (a b v : Bool) → eqb (thread_of f) t ≡ a → eqb (s'.depth t) 0 ≡ b
          → ((s'.depth t ≡ 0 → ⊥) → commit_place guards t s' (suc n) l < suc n + length l)
          → cond (a && (b || not v)) n (commit_place guards t s' (suc n) l) < n + suc (length l)
      go true true v ea eb ih = omega arith
      go true false false ea eb ih = omega arith
      go true false true ea eb ih = omega (arith, ih (eqb-false _ _ eb))
      go false b v ea eb ih = omega (arith, ih (λ z. p (sym (put_other s.depth (thread_of f) _ t (λ y. eqb-false _ _ ea (sym y))) ∙ z)))

  pub key_bound : (s : Run) (n : ℕ) (f : Frame) (l : List Frame) → Past s n → depth_at (thread_of f) (s.depth (thread_of f)) (f ∷ l) ≡ 0
      → key_of guards s n f l < n + length (f ∷ l)
  key_bound s n f l p h = by_test (eqb (s.committed (thread_of f)) 0)
      (λ b. go (turn guards (thread_of f) (key_of guards s n f l) s n f l (eqb-true _ _ b)
      (sym (key_before guards (thread_of f) s n f l refl (eqb-true _ _ b)))))
      (λ b. let q : key_of guards s n f l ≡ pred (s.committed (thread_of f)) = key_after guards s n f l (eqb-false _ _ b) in
      omega (arith, eqb-false, p (thread_of f)))
    where
      go : Turn guards (thread_of f) (key_of guards s n f l) s n f l → key_of guards s n f l < n + length (f ∷ l)
      go (here e q r) = omega (arith, q)
      go (on e b c d q) = omega (arith, q, place_bound (thread_of f) (onto guards s n f) (suc n) l (closed_next (thread_of f) s n f l h) d)
      go (other e c q) = absurd (e refl)

  -- Keys lie within the recording.
  keys_within : {A : Type 0} (e : ℕ) (s : Run) (n : ℕ) (l : List Frame) (xs : List A) → e ≡ n + length l → Past s n
      → ((t : ℕ) → depth_at t (s.depth t) l ≡ 0) → Within 0 e (keyed_by guards s n l xs)
  keys_within e s n [] xs q p h = tt
  keys_within e s n (f ∷ l) [] q p h = tt
  keys_within e s n (f ∷ l) (x ∷ xs) q p h = (
    (omega arith, omega (arith, key_bound s n f l p (h (thread_of f)))),
    keys_within e (onto guards s n f) (suc n) l xs (omega arith) (past_next guards s n f p) (λ t. closed_next t s n f l (h t)),
  )

  -- Exchanges of neighbours that are independent, or in order, lead to the serial order.
  order_exchanges : {A : Type 0} (ind : A → A → Bool) (l : List Frame) (xs : List A) → length xs ≡ length l → Ordered ind (keyed_by guards begin 0 l xs)
      → Closed l → Exchanges ind xs (order_by guards l xs)
  order_exchanges {A} ind l xs e o c =
      subst (λ (r : List A). Exchanges ind r (order_by guards l xs)) (frames_keyed begin 0 l xs e)
      (subst (λ (r : List (Keyed A)). Exchanges ind (frames (keyed_by guards begin 0 l xs)) (frames r))
      (sort_buckets (length l) (keyed_by guards begin 0 l xs) (keys_within (length l) begin 0 l xs (omega arith) (λ u. omega arith) c))
      (sort_exchanges ind (keyed_by guards begin 0 l xs) o))

  -- Exchanges of independent frames do, where the recording does not go wrong.
  pub serial_exchanges : (l : List Frame) → Good guards begin 0 l → Closed l → Exchanges independent l (serial_order guards l)
  serial_exchanges l h c = order_exchanges independent l l refl (ordered guards begin 0 l h (λ u. omega arith)) c

  -- The serial order has the elements of the recording: exchanges of any neighbours lead to it.
  pub serial_permutes : {A : Type 0} (l : List Frame) (xs : List A) → length xs ≡ length l → Closed l → Exchanges (λ x y. true) xs (order_by guards l xs)
  serial_permutes l xs e c = order_exchanges (λ x y. true) l xs e (all_ordered (keyed_by guards begin 0 l xs)) c

  -- The commit of the unit that a thread is in, or comes to next.
  abbrev pub unit_key : Run → ℕ → List Frame → ℕ → ℕ
  unit_key s n l t = cond (eqb (s.committed t) 0) (commit_place guards t s n l) (pred (s.committed t))

  pub unit_before : (s : Run) (n : ℕ) (l : List Frame) (t : ℕ) → s.committed t ≡ 0 → unit_key s n l t ≡ commit_place guards t s n l
  unit_before s n l t e = rw (eq-eqb (s.committed t) 0 e)

  pub unit_after : (s : Run) (n : ℕ) (l : List Frame) (t : ℕ) → (s.committed t ≡ 0 → ⊥) → unit_key s n l t ≡ pred (s.committed t)
  unit_after s n l t e = rw (ne_eqb (s.committed t) 0 e)

  -- A thread's frame leaves it in its unit, or at depth 0.
  pub unit_step : (t : ℕ) (s : Run) (n : ℕ) (f : Frame) (l : List Frame) → thread_of f ≡ t
      → (unit_key (onto guards s n f) (suc n) l t ≡ unit_key s n (f ∷ l) t) ⊎ ((onto guards s n f).depth t ≡ 0)
  unit_step t s n f l e = by_test (eqb (s.committed t) 0)
      (λ b. go (eqb-true _ _ b) (turn guards t (commit_place guards t s n (f ∷ l)) s n f l (eqb-true _ _ b) refl))
      (λ b. ⊎_elim (λ c. inl (kept (eqb-false _ _ b) c)) inr (commit_keeps guards t s n f e (eqb-false _ _ b)))
    where
      s' : Run
      s' = onto guards s n f

      kept : (s.committed t ≡ 0 → ⊥) → s'.committed t ≡ s.committed t → unit_key s' (suc n) l t ≡ unit_key s n (f ∷ l) t
      kept b c = unit_after s' (suc n) l t (λ z. b (sym c ∙ z)) ∙ (ap pred c ∙ sym (unit_after s n (f ∷ l) t b))

      go : s.committed t ≡ 0 → Turn guards t (commit_place guards t s n (f ∷ l)) s n f l
          → (unit_key s' (suc n) l t ≡ unit_key s n (f ∷ l) t) ⊎ (s'.depth t ≡ 0)
      go b (here _ q (inl r)) = inr r
      go b (here _ q (inr r)) =
          inl (unit_after s' (suc n) l t (λ z. omega (arith, r, z)) ∙ (ap pred r ∙ (q ∙ sym (unit_before s n (f ∷ l) t b))))
      go b (on _ _ c _ q) = inl (unit_before s' (suc n) l t c ∙ (q ∙ sym (unit_before s n (f ∷ l) t b)))
      go b (other ne _ _) = absurd (ne e)

  pub other_step : (t : ℕ) (s : Run) (n : ℕ) (f : Frame) (l : List Frame) → (thread_of f ≡ t → ⊥)
      → unit_key (onto guards s n f) (suc n) l t ≡ unit_key s n (f ∷ l) t
  other_step t s n f l ne =
      rw (ne_eqb t (thread_of f) (λ q. ne (sym q)), ne_eqb (thread_of f) t ne)

  -- The frames of one key take their thread from depth 0 back to depth 0.
  bucket_depth : (t c : ℕ) (s : Run) (n : ℕ) (l : List Frame) (d : ℕ) → depth_at t (s.depth t) l ≡ 0
      → (unit_key s n l t ≡ c → d ≡ s.depth t) → ((unit_key s n l t ≡ c → ⊥) → d ≡ 0)
      → depth_at t d (frames (bucket c (keyed guards s n l))) ≡ 0
  bucket_depth t c s n [] d h p q = by_test (eqb (unit_key s n [] t) c) (λ e. p (eqb-true _ _ e) ∙ h) (λ e. q (eqb-false _ _ e))
  bucket_depth t c s n (f ∷ l) d h p q =
      go (eqb (thread_of f) t) (eqb (key_of guards s n f l) c) refl refl
      (λ d'. bucket_depth t c (onto guards s n f) (suc n) l d' (closed_next t s n f l h))
    where
      s' : Run
      s' = onto guards s n f

      rest : List Frame
      rest = frames (bucket c (keyed guards (onto guards s n f) (suc n) l))

      own_key : thread_of f ≡ t → key_of guards s n f l ≡ unit_key s n (f ∷ l) t
      own_key e = ap (λ (j : ℕ). unit_key s n (f ∷ l) j) e

      skip : (thread_of f ≡ t → ⊥)
          → ((d' : ℕ) → (unit_key s' (suc n) l t ≡ c → d' ≡ s'.depth t) → ((unit_key s' (suc n) l t ≡ c → ⊥) → d' ≡ 0) → depth_at t d' rest ≡ 0)
          → depth_at t d rest ≡ 0
      skip ne ih =
          ih d (λ z. p (sym (other_step t s n f l ne) ∙ z) ∙ sym (put_other s.depth (thread_of f) _ t (λ y. ne (sym y))))
          (λ z. q (λ y. z (other_step t s n f l ne ∙ y)))

      go : (a b : Bool) → eqb (thread_of f) t ≡ a → eqb (key_of guards s n f l) c ≡ b
          → ((d' : ℕ) → (unit_key s' (suc n) l t ≡ c → d' ≡ s'.depth t) → ((unit_key s' (suc n) l t ≡ c → ⊥) → d' ≡ 0) → depth_at t d' rest ≡ 0)
          → depth_at t d (frames (cond b (record { key = key_of guards s n f l; frame = f } ∷ bucket c (keyed guards s' (suc n) l))
          (bucket c (keyed guards s' (suc n) l)))) ≡ 0
      go true true ea eb ih =
          let e : thread_of f ≡ t = eqb-true _ _ ea in
          let k : unit_key s n (f ∷ l) t ≡ c = sym (own_key e) ∙ eqb-true _ _ eb in
          let w : nest d f.action ≡ s'.depth t =
          ap (λ (j : ℕ). nest j f.action) (p k) ∙ sym (depth_own guards t s n f e) in
          depth_at_own t d f rest e
          ∙ ih (nest d f.action) (λ z. w) (λ z. ⊎_elim (λ y. absurd (z (y ∙ k))) (λ y. w ∙ y) (unit_step t s n f l e))
      go true false ea eb ih =
          let e : thread_of f ≡ t = eqb-true _ _ ea in
          let k : unit_key s n (f ∷ l) t ≡ c → ⊥ = λ z. eqb-false _ _ eb (own_key e ∙ z) in
          ih d (λ z. ⊎_elim (λ y. absurd (k (sym y ∙ z))) (λ y. q k ∙ sym y) (unit_step t s n f l e)) (λ z. q k)
      go false true ea eb ih = depth_at_other t d f rest (eqb-false _ _ ea) ∙ skip (eqb-false _ _ ea) ih
      go false false ea eb ih = skip (eqb-false _ _ ea) ih

  pub place_at : (w c u : ℕ) (s : Run) (n : ℕ) (l : List Frame) → commit_place guards u s n l ≡ c → c < n + length l → At w c n l → u ≡ w
  place_at w c u s n [] p h a = absurd (omega arith)
  place_at w c u s n (f ∷ l) p h a =
      go (eqb (thread_of f) u) (settled (onto guards s n f) u) refl p
      (λ q. place_at w c u (onto guards s n f) (suc n) l q (omega arith) a.1)
    where
      go : (v b : Bool) → eqb (thread_of f) u ≡ v → cond (v && b) n (commit_place guards u (onto guards s n f) (suc n) l) ≡ c
          → (commit_place guards u (onto guards s n f) (suc n) l ≡ c → u ≡ w) → u ≡ w
      go true true e q ih = sym (eqb-true _ _ e) ∙ a.0 q
      go true false e q ih = ih q
      go false b e q ih = ih q

  -- The frames of one key are of one thread.
  pub one_thread : (w c : ℕ) (s : Run) (n : ℕ) (l : List Frame) → c < n + length l → ((u : ℕ) → s.committed u ≡ suc c → u ≡ w) → At w c n l
      → All (λ x. x.key ≡ c → thread_of x.frame ≡ w) (keyed guards s n l)
  one_thread w c s n [] h p a = tt
  one_thread w c s n (f ∷ l) h p a = (
    λ e. by_test (eqb (s.committed (thread_of f)) 0)
        (λ b. place_at w c (thread_of f) s n (f ∷ l) (sym (key_before guards (thread_of f) s n f l refl (eqb-true _ _ b)) ∙ e) h a)
        (λ b. p (thread_of f) (omega (arith, eqb-false, key_after guards s n f l (eqb-false _ _ b)))),
    one_thread w c (onto guards s n f) (suc n) l (omega arith)
        (λ u. commit_elim guards (λ v. v ≡ suc c → u ≡ w) s n u f (p u) (λ e z. e ∙ a.0 (omega arith)) (λ z. absurd (omega arith)))
        a.1,
  )

  serial_buckets : (l : List Frame) → Closed l → (m c : ℕ) → m + c ≡ length l → (d : ℕ → ℕ) → ((u : ℕ) → d u ≡ 0)
      → Serial d (frames (buckets m c (keyed guards begin 0 l)))
  serial_buckets l h zero c e d z = tt
  serial_buckets l h (suc m) c e d z =
      let w : (u : ℕ) × At u c 0 l = at_some c 0 l in
      let q : All (λ x. thread_of x.frame ≡ w.0) (bucket c (keyed guards begin 0 l)) =
      bucket_all (λ x. thread_of x.frame ≡ w.0) c (keyed guards begin 0 l)
      (one_thread w.0 c begin 0 l (omega arith) (λ u y. absurd (omega arith)) w.1) in
      rw (frames_append (bucket c (keyed guards begin 0 l)) (buckets m (suc c) (keyed guards begin 0 l)))
      (serial_unit w.0 (bucket c (keyed guards begin 0 l)) (frames (buckets m (suc c) (keyed guards begin 0 l))) d q (λ u ne. z u)
      (ap (λ (j : ℕ). depth_at w.0 j (frames (bucket c (keyed guards begin 0 l)))) (z w.0)
      ∙ bucket_depth w.0 c begin 0 l 0 (h w.0) (λ y. refl) (λ y. refl))
      (serial_buckets l h m (suc c) (omega arith)))

  -- The serial order is serial.
  pub serial_serial : (l : List Frame) → Closed l → Serial (λ t. 0) (serial_order guards l)
  serial_serial l h = serial_buckets l h (length l) 0 (omega arith) (λ t. 0) (λ u. refl)
