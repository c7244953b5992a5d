-- Keys are in order along dependence, in a recording that is not refused and does not go wrong: Lipton's reduction on recordings. In this
-- order: what one operation holds, uses and has in common with another; what a thread after commit still touches it holds already; a
-- thread's own later frames; the frames of other threads while a lock is held up to the commit; a frame against every later one.
use Prim.Native.Nat.{ℕ, zero, suc, ◌≤◌, ◌<◌}
use mathlib.Core.Path.{◌≡◌, refl, sym, ap, ◌∙◌, subst}
use mathlib.Core.Logic.{◌⊎◌, inl, inr}
use mathlib.Core.Bool.{true, false, false≢true, true≢false}
use mathlib.Core.List.{List, [], ◌∷◌}
use native.Mathlib.Omega.{arith}
use lib.Dec.{eqb, leb}
use lib.ListN.{get_or}
use borrow.Author.Tests.{leb-true, leb-false, eqb-true, eqb-false}
use Rattle.laws.proofs.Logic.{by_test}
use Rattle.frame.specs.declared.Lock.{Lock}
use Rattle.frame.specs.declared.Variable.{Variable}
use Rattle.frame.specs.declared.Action.{Action}
use Rattle.frame.specs.declared.Action.TheVariants as action
use Rattle.frame.specs.declared.Frame.{Frame}
use Rattle.guards.specs.Guards.{guard_of}
use Rattle.guards.specs.declared.Guard.{Guard}
use Rattle.guards.specs.declared.Guard.TheVariants as guard
use Rattle.soundness.specs.declared.Level.{Level}
use Rattle.soundness.specs.declared.Level.TheVariants.{Outer, Inner}
use Rattle.operation.specs.Operation.{guarded_access, operation_of}
use Rattle.operation.specs.declared.Operation.{Operation}
use Rattle.operation.specs.declared.Operation.TheVariants.{Acquire, Release, Protected, Unprotected, Inferred, Begin, End}
use Rattle.exchange.specs.Independent.{independent}
use Rattle.reduction.proofs.Run.{thread_of, Run, Keyed, sound, right, owners, committing, level_in, seen, named, onto, Good, commit_place, key_of, keyed}
use Rattle.reduction.proofs.Sort.{All, all_map, all_intro, all_map₂, Ordered, Right}
use Rattle.reduction.proofs.Dependent.{OfLock, OfVariable, Common, lock, variable, dependent}
use Rattle.reduction.proofs.Steps.{put_same, put_cases, Fresh, Past, late_keys, fresh_next, Turn, turn, here, on, other, key_before, key_after, past_next}

-- What the operation touches the thread u holds.
abbrev Held : Run → ℕ → Operation → Type 0
Held s u (Acquire m) = s.owner m.0 ≡ suc u
Held s u (Release m) = s.owner m.0 ≡ suc u
Held s u (Protected m) = s.owner m.0 ≡ suc u
Held s u Unprotected = ⊥
Held s u (Inferred v) = ⊥
Held s u Begin = Unit {0}
Held s u End = Unit {0}

held_map : (s s' : Run) (u : ℕ) (k : Operation) → ((m : ℕ) → s'.owner m ≡ suc u → s.owner m ≡ suc u) → Held s' u k → Held s u k
held_map s s' u (Acquire m) h p = h m.0 p
held_map s s' u (Release m) h p = h m.0 p
held_map s s' u (Protected m) h p = h m.0 p
held_map s s' u Unprotected h p = p
held_map s s' u (Inferred v) h p = p
held_map s s' u Begin h p = p
held_map s s' u End h p = p

-- So it is with a thread after commit.
held_now : (s : Run) (u : ℕ) (k : Operation) → sound s u k ≡ true → right s u k ≡ true → (s.committed u ≡ 0 → ⊥) → Held s u k
held_now s u (Acquire m) e r c = absurd (c (eqb-true _ _ r))
held_now s u (Release m) e r c = eqb-true _ _ e
held_now s u (Protected m) e r c = eqb-true _ _ r
held_now s u Unprotected e r c = c (eqb-true _ _ r)
held_now s u (Inferred v) e r c = false≢true r
held_now s u Begin e r c = tt
held_now s u End e r c = tt

-- What a thread that takes no lock holds after a step it held before.
owner_back : (o : ℕ → ℕ) (t u : ℕ) (k : Operation) (m : ℕ) → ((i : Lock) → k ≡ Acquire i → t ≡ u → ⊥) → owners o t k m ≡ suc u → o m ≡ suc u
owner_back o t u (Acquire i) m h =
    put_cases (λ v. v ≡ suc u → o m ≡ suc u) o i.0 (suc t) m (λ e q. absurd (h i refl (omega arith))) (λ e q. q)
owner_back o t u (Release i) m h = put_cases (λ v. v ≡ suc u → o m ≡ suc u) o i.0 0 m (λ e q. absurd (omega arith)) (λ e q. q)
owner_back o t u (Protected i) m h = λ p. p
owner_back o t u Unprotected m h = λ p. p
owner_back o t u (Inferred v) m h = λ p. p
owner_back o t u Begin m h = λ p. p
owner_back o t u End m h = λ p. p

-- A thread after commit takes no lock.
no_take : (s : Run) (t u : ℕ) (k : Operation) → right s t k ≡ true → (s.committed u ≡ 0 → ⊥) → (i : Lock) → k ≡ Acquire i → t ≡ u → ⊥
no_take s t u k e c i q r = c (subst (λ (j : ℕ). s.committed j ≡ 0) r (eqb-true _ _ (subst (λ (j : Operation). right s t j ≡ true) q e)))

fresh_dec : (N c : ℕ) → Fresh N c ⊎ (c ≡ 0 → ⊥)
fresh_dec N zero = inl (inl refl)
fresh_dec N (suc c) = inr (λ e. omega arith)

-- The operation acquires, releases or relies on the lock m.
abbrev Uses : ℕ → Operation → Type 0
Uses m (Acquire i) = m ≡ i.0
Uses m (Release i) = m ≡ i.0
Uses m (Protected i) = m ≡ i.0
Uses m Unprotected = ⊥
Uses m (Inferred v) = ⊥
Uses m Begin = ⊥
Uses m End = ⊥

abbrev Bare : Operation → Type 0
Bare (Acquire i) = ⊥
Bare (Release i) = ⊥
Bare (Protected i) = ⊥
Bare Unprotected = Unit {0}
Bare (Inferred v) = ⊥
Bare Begin = ⊥
Bare End = ⊥

-- Two operations that use the same lock, or are both unprotected. Nothing is asked of an inferred guard, under which every access goes wrong.
abbrev Same : Operation → Operation → Type 0
Same (Acquire m) k = Uses m.0 k
Same (Release m) k = Uses m.0 k
Same (Protected m) k = Uses m.0 k
Same Unprotected k = Bare k
Same (Inferred v) k = Unit {0}
Same Begin k = ⊥
Same End k = ⊥

uses_held : (s : Run) (u m : ℕ) (k : Operation) → Uses m k → Held s u k → s.owner m ≡ suc u
uses_held s u m (Acquire i) e h = ap s.owner e ∙ h
uses_held s u m (Release i) e h = ap s.owner e ∙ h
uses_held s u m (Protected i) e h = ap s.owner e ∙ h
uses_held s u m Unprotected e h = absurd e
uses_held s u m (Inferred v) e h = absurd e
uses_held s u m Begin e h = absurd e
uses_held s u m End e h = absurd e

bare_held : (s : Run) (u : ℕ) (k : Operation) → Bare k → Held s u k → ⊥
bare_held s u (Acquire i) e h = e
bare_held s u (Release i) e h = e
bare_held s u (Protected i) e h = e
bare_held s u Unprotected e h = h
bare_held s u (Inferred v) e h = e
bare_held s u Begin e h = e
bare_held s u End e h = e

same_access : (g : Guard) (v w : Variable) → Same (guarded_access g v) (guarded_access g w)
same_access (guard.Locked m) v w = refl
same_access guard.Unprotected v w = tt
same_access guard.Inferred v w = tt

-- An operation that does not go wrong and what another thread holds are apart.
same_held : (s : Run) (t u : ℕ) (k k' : Operation) → sound s t k ≡ true → right s t k ≡ true → Same k k' → Held s u k' → (u ≡ t → ⊥) → ⊥
same_held s t u (Acquire m) k' e r q h d = omega (arith, eqb-true (s.owner m.0) 0 e, uses_held s u m.0 k' q h)
same_held s t u (Release m) k' e r q h d = omega (arith, eqb-true (s.owner m.0) (suc t) e, uses_held s u m.0 k' q h)
same_held s t u (Protected m) k' e r q h d = omega (arith, eqb-true (s.owner m.0) (suc t) r, uses_held s u m.0 k' q h)
same_held s t u Unprotected k' e r q h d = bare_held s u k' q h
same_held s t u (Inferred v) k' e r q h d = false≢true r
same_held s t u Begin k' e r q h d = q
same_held s t u End k' e r q h d = q

-- An operation that does not go wrong uses no lock of another thread.
uses_fine : (s : Run) (t u m : ℕ) (k : Operation) → sound s u k ≡ true → right s u k ≡ true → Uses m k → s.owner m ≡ suc t → (u ≡ t → ⊥)
    → ⊥
uses_fine s t u m (Acquire i) e r q h d = omega (arith, eqb-true (s.owner i.0) 0 e, ap s.owner q)
uses_fine s t u m (Release i) e r q h d = omega (arith, eqb-true (s.owner i.0) (suc u) e, ap s.owner q)
uses_fine s t u m (Protected i) e r q h d = omega (arith, eqb-true (s.owner i.0) (suc u) r, ap s.owner q)
uses_fine s t u m Unprotected e r q h d = q
uses_fine s t u m (Inferred v) e r q h d = q
uses_fine s t u m Begin e r q h d = q
uses_fine s t u m End e r q h d = q

-- A lock stays with its thread but for a release.
owner_stays : (s : Run) (t u m : ℕ) (k : Operation) → sound s u k ≡ true → s.owner m ≡ suc t → (u ≡ t → committing k ≡ false)
    → owners s.owner u k m ≡ suc t
owner_stays s t u m (Acquire i) e h c =
    put_cases (λ v. v ≡ suc t) s.owner i.0 (suc u) m (λ q. absurd (omega (arith, eqb-true (s.owner i.0) 0 e, ap s.owner q)))
    (λ q. h)
owner_stays s t u m (Release i) e h c =
    put_cases (λ v. v ≡ suc t) s.owner i.0 0 m
    (λ q. absurd (true≢false (c (omega (arith, eqb-true (s.owner i.0) (suc u) e, ap s.owner q))))) (λ q. h)
owner_stays s t u m (Protected i) e h c = h
owner_stays s t u m Unprotected e h c = h
owner_stays s t u m (Inferred v) e h c = h
owner_stays s t u m Begin e h c = h
owner_stays s t u m End e h c = h

module _ (guards : List ℕ) where
  -- An inner acquire or release, which is seen as an access under its lock, holds, uses and has in common with others what it would as an
  -- outer one.
  levels : (P : Operation → Operation → Type 0) → ((k : Operation) → P k k) → ((l : Lock) → P (Protected l) (Acquire l))
      → ((l : Lock) → P (Protected l) (Release l)) → (x : Level) (a : Action) → P (operation_of guards x a) (operation_of guards Outer a)
  levels P r p q Outer a = r (operation_of guards Outer a)
  levels P r p q Inner (action.Acquire l) = p l
  levels P r p q Inner (action.Release l) = q l
  levels P r p q Inner (action.Read v) = r (operation_of guards Outer (action.Read v))
  levels P r p q Inner (action.Write v) = r (operation_of guards Outer (action.Write v))
  levels P r p q Inner action.Begin = r Begin
  levels P r p q Inner action.End = r End

  level_held : (s : Run) (u : ℕ) (x : Level) (a : Action) → Held s u (operation_of guards x a) → Held s u (operation_of guards Outer a)
  level_held s u = levels (λ k k'. Held s u k → Held s u k') (λ k h. h) (λ l h. h) (λ l h. h)

  level_uses : (m : ℕ) (x : Level) (a : Action) → Uses m (operation_of guards Outer a) → Uses m (operation_of guards x a)
  level_uses m = levels (λ k k'. Uses m k' → Uses m k) (λ k h. h) (λ l h. h) (λ l h. h)

  level_same : (o : Operation) (x : Level) (a : Action) → Same (operation_of guards Outer a) o → Same (operation_of guards x a) o
  level_same o = levels (λ k k'. Same k' o → Same k o) (λ k h. h) (λ l h. h) (λ l h. h)

  -- What a thread after a commit before N still touches it holds already.
  held_keys : (u N : ℕ) (s : Run) (n : ℕ) (l : List Frame) → Good guards s n l → N ≤ n
      → All (λ x. thread_of x.frame ≡ u → x.key < N → Held s u (named guards x.frame)) (keyed guards s n l)
  held_keys u N s n [] h p = tt
  held_keys u N s n (f ∷ l) h p = go (fresh_dec N (s.committed u)) (held_keys u N (onto guards s n f) (suc n) l h.2 (omega arith))
    where
      go : Fresh N (s.committed u) ⊎ (s.committed u ≡ 0 → ⊥)
          → All (λ x. thread_of x.frame ≡ u → x.key < N → Held (onto guards s n f) u (named guards x.frame))
          (keyed guards (onto guards s n f) (suc n) l)
          → All (λ x. thread_of x.frame ≡ u → x.key < N → Held s u (named guards x.frame)) (keyed guards s n (f ∷ l))
      go (inl q) ih =
          all_map (λ x a e b. absurd (let z : N ≤ x.key = a e in omega arith)) (keyed guards s n (f ∷ l))
          (late_keys guards u N s n (f ∷ l) p q)
      go (inr q) ih = (
        λ e b. level_held s u (level_in s (thread_of f) f.action) f.action
            (held_now s u (seen guards s f) (subst (λ (i : ℕ). sound s i (seen guards s f) ≡ true) e h.0)
            (subst (λ (i : ℕ). right s i (seen guards s f) ≡ true) e h.1) q),
        all_map
            (λ x a e b. held_map s (onto guards s n f) u (named guards x.frame)
            (λ m. owner_back s.owner (thread_of f) u (seen guards s f) m (no_take s (thread_of f) u (seen guards s f) h.1 q)) (a e b))
            (keyed guards (onto guards s n f) (suc n) l) ih,
      )

  -- The same for all threads at once.
  all_threads : (Q : ℕ → Keyed Frame → Type 0) (l : List (Keyed Frame)) → ((u : ℕ) → All (λ x. thread_of x.frame ≡ u → Q u x) l)
      → All (λ x. Q (thread_of x.frame) x) l
  all_threads Q [] h = tt
  all_threads Q (x ∷ l) h = ((h (thread_of x.frame)).0 refl, all_threads Q l (λ u. (h u).1))

  held_all : (N : ℕ) (s : Run) (n : ℕ) (l : List Frame) → Good guards s n l → N ≤ n
      → All (λ x. x.key < N → Held s (thread_of x.frame) (named guards x.frame)) (keyed guards s n l)
  held_all N s n l h p = all_threads (λ u x. x.key < N → Held s u (named guards x.frame)) (keyed guards s n l) (λ u. held_keys u N s n l h p)

  -- The keys of a thread that is not after commit are at least its unit's commit.
  own_keys : (t K : ℕ) (s : Run) (n : ℕ) (l : List Frame) → s.committed t ≡ 0 → commit_place guards t s n l ≡ K
      → All (λ x. thread_of x.frame ≡ t → K ≤ x.key) (keyed guards s n l)
  own_keys t K s n [] c p = tt
  own_keys t K s n (f ∷ l) c p =
      (λ e. omega (arith, key_before guards t s n f l e c, p), go (turn guards t K s n f l c p) (own_keys t K (onto guards s n f) (suc n) l))
    where
      go : Turn guards t K s n f l
          → ((onto guards s n f).committed t ≡ 0 → commit_place guards t (onto guards s n f) (suc n) l ≡ K
          → All (λ x. thread_of x.frame ≡ t → K ≤ x.key) (keyed guards (onto guards s n f) (suc n) l))
          → All (λ x. thread_of x.frame ≡ t → K ≤ x.key) (keyed guards (onto guards s n f) (suc n) l)
      go (here e q r) ih = late_keys guards t K (onto guards s n f) (suc n) l (omega arith) (fresh_next guards K s n t f (omega arith) (inl c))
      go (on e b c' d q) ih = ih c' q
      go (other e c' q) ih = ih c' q

  -- While a thread that is not after commit holds a lock, no other thread's frame that uses the lock has a key below its commit.
  lock_keys : (t m K : ℕ) (s : Run) (n : ℕ) (l : List Frame) → Good guards s n l → s.committed t ≡ 0 → s.owner m ≡ suc t
      → commit_place guards t s n l ≡ K
      → All (λ x. (thread_of x.frame ≡ t → ⊥) → Uses m (named guards x.frame) → K ≤ x.key) (keyed guards s n l)
  lock_keys t m K s n [] h c o p = tt
  lock_keys t m K s n (f ∷ l) h c o p = go (turn guards t K s n f l c p) (lock_keys t m K (onto guards s n f) (suc n) l h.2)
    where
      go : Turn guards t K s n f l
          → ((onto guards s n f).committed t ≡ 0 → (onto guards s n f).owner m ≡ suc t → commit_place guards t (onto guards s n f) (suc n) l ≡ K
          → All (λ x. (thread_of x.frame ≡ t → ⊥) → Uses m (named guards x.frame) → K ≤ x.key) (keyed guards (onto guards s n f) (suc n) l))
          → All (λ x. (thread_of x.frame ≡ t → ⊥) → Uses m (named guards x.frame) → K ≤ x.key) (keyed guards s n (f ∷ l))
      go (here e q r) ih =
          all_map
          (λ x a ne u. by_test (leb K x.key) (leb-true K x.key)
          (λ b. absurd (omega (arith, uses_held s (thread_of x.frame) m (named guards x.frame) u (a (leb-false K x.key b))))))
          (keyed guards s n (f ∷ l)) (held_all K s n (f ∷ l) h (omega arith))
      go (on e b c' d q) ih = (λ ne. absurd (ne e), ih c' (owner_stays s t (thread_of f) m (seen guards s f) h.0 o (λ r. b)) q)
      go (other e c' q) ih = (
        λ ne u. absurd (uses_fine s t (thread_of f) m (seen guards s f) h.0 h.1 (level_uses m (level_in s (thread_of f) f.action) f.action u) o e),
        ih c' (owner_stays s t (thread_of f) m (seen guards s f) h.0 o (λ r. absurd (e r))) q,
      )

  -- A frame against the later ones of its own thread.
  pub same_thread : (s : Run) (n : ℕ) (f : Frame) (l : List Frame) → Past s n
      → All (λ y. thread_of y.frame ≡ thread_of f → key_of guards s n f l ≤ y.key) (keyed guards (onto guards s n f) (suc n) l)
  same_thread s n f l h = by_test (eqb (s.committed (thread_of f)) 0)
      (λ b. (own_keys (thread_of f) (key_of guards s n f l) s n (f ∷ l) (eqb-true _ _ b)
      (sym (key_before guards (thread_of f) s n f l refl (eqb-true _ _ b)))).1)
      (λ b. (late_keys guards (thread_of f) (key_of guards s n f l) s n (f ∷ l)
      (omega (arith, h (thread_of f), key_after guards s n f l (eqb-false _ _ b)))
      (inr (omega (arith, eqb-false, key_after guards s n f l (eqb-false _ _ b))))).1)

  -- A frame whose key is not after it, against the later ones of other threads.
  early_key : (K : ℕ) (s : Run) (n : ℕ) (f : Frame) (l : List Frame) → Good guards s n (f ∷ l) → K ≤ n
      → All (λ y. (thread_of y.frame ≡ thread_of f → ⊥) → Same (named guards f) (named guards y.frame) → K ≤ y.key)
      (keyed guards (onto guards s n f) (suc n) l)
  early_key K s n f l h p =
      all_map
      (λ y a ne q. by_test (leb K y.key) (leb-true K y.key)
      (λ b. absurd (same_held s (thread_of f) (thread_of y.frame) (seen guards s f) (named guards y.frame) h.0 h.1
      (level_same (named guards y.frame) (level_in s (thread_of f) f.action) f.action q)
      (a (leb-false K y.key b)) ne)))
      (keyed guards (onto guards s n f) (suc n) l) (held_all K s n (f ∷ l) h p).1

  -- A frame whose key is after it, against the later ones of other threads.
  late_key : (K : ℕ) (s : Run) (n t : ℕ) (k : Operation) (s' : Run) (l : List Frame) → right s t k ≡ true
      → owners s.owner t k ≡ s'.owner
      → committing k ≡ false → Good guards s' (suc n) l → s'.committed t ≡ 0 → commit_place guards t s' (suc n) l ≡ K
      → All (λ y. (thread_of y.frame ≡ t → ⊥) → Same k (named guards y.frame) → K ≤ y.key) (keyed guards s' (suc n) l)
  late_key K s n t (Acquire m) s' l e o b h c p =
      lock_keys t m.0 K s' (suc n) l h c (sym (ap (λ (w : ℕ → ℕ). w m.0) o) ∙ put_same s.owner m.0 (suc t) m.0 refl) p
  late_key K s n t (Release m) s' l e o b h c p = absurd (true≢false b)
  late_key K s n t (Protected m) s' l e o b h c p =
      lock_keys t m.0 K s' (suc n) l h c (sym (ap (λ (w : ℕ → ℕ). w m.0) o) ∙ eqb-true _ _ e) p
  late_key K s n t Unprotected s' l e o b h c p = absurd (true≢false b)
  late_key K s n t (Inferred v) s' l e o b h c p = absurd (false≢true e)
  late_key K s n t Begin s' l e o b h c p = all_intro (λ y ne q. absurd q) (keyed guards s' (suc n) l)
  late_key K s n t End s' l e o b h c p = all_intro (λ y ne q. absurd q) (keyed guards s' (suc n) l)

  -- A frame against the later ones of other threads.
  other_thread : (s : Run) (n : ℕ) (f : Frame) (l : List Frame) → Good guards s n (f ∷ l) → Past s n
      → All (λ y. (thread_of y.frame ≡ thread_of f → ⊥) → Same (named guards f) (named guards y.frame) → key_of guards s n f l ≤ y.key)
      (keyed guards (onto guards s n f) (suc n) l)
  other_thread s n f l h r = by_test (eqb (s.committed (thread_of f)) 0)
      (λ b. go (turn guards (thread_of f) (key_of guards s n f l) s n f l (eqb-true _ _ b)
      (sym (key_before guards (thread_of f) s n f l refl (eqb-true _ _ b)))))
      (λ b. early_key (key_of guards s n f l) s n f l h (omega (arith, r (thread_of f), key_after guards s n f l (eqb-false _ _ b))))
    where
      go : Turn guards (thread_of f) (key_of guards s n f l) s n f l
          → All (λ y. (thread_of y.frame ≡ thread_of f → ⊥) → Same (named guards f) (named guards y.frame) → key_of guards s n f l ≤ y.key)
          (keyed guards (onto guards s n f) (suc n) l)
      go (here e q d) = early_key (key_of guards s n f l) s n f l h (omega (arith, q))
      go (on e b c d q) =
          all_map (λ y a ne r. a ne (level_same (named guards y.frame) (level_in s (thread_of f) f.action) f.action r))
          (keyed guards (onto guards s n f) (suc n) l)
          (late_key (key_of guards s n f l) s n (thread_of f) (seen guards s f) (onto guards s n f) l h.1 refl b h.2 c q)
      go (other e c q) = absurd (e refl)

  -- A frame with a lock or a variable in common with another relies on the same as the other.
  uses_lock : (m : ℕ) (a : Action) → OfLock m a → Uses m (operation_of guards Outer a)
  uses_lock m (action.Acquire l) e = e
  uses_lock m (action.Release l) e = e
  uses_lock m (action.Read v) e = absurd e
  uses_lock m (action.Write v) e = absurd e
  uses_lock m action.Begin e = absurd e
  uses_lock m action.End e = absurd e

  same_lock : (m : ℕ) (a b : Action) → OfLock m a → OfLock m b → Same (operation_of guards Outer a) (operation_of guards Outer b)
  same_lock m (action.Acquire l) b e q = subst (λ (k : ℕ). Uses k (operation_of guards Outer b)) e (uses_lock m b q)
  same_lock m (action.Release l) b e q = subst (λ (k : ℕ). Uses k (operation_of guards Outer b)) e (uses_lock m b q)
  same_lock m (action.Read v) b e q = absurd e
  same_lock m (action.Write v) b e q = absurd e
  same_lock m action.Begin b e q = absurd e
  same_lock m action.End b e q = absurd e

  abbrev access_at : ℕ → Variable → Operation
  access_at x v = guarded_access (guard_of (get_or guards x 0)) v

  of_variable : (x : ℕ) (a : Action) → OfVariable x a → (v : Variable) × (operation_of guards Outer a ≡ access_at x v)
  of_variable x (action.Acquire l) e = absurd e
  of_variable x (action.Release l) e = absurd e
  of_variable x (action.Read v) e = (v, ap (λ (y : ℕ). access_at y v) (sym e))
  of_variable x (action.Write v) e = (v, ap (λ (y : ℕ). access_at y v) (sym e))
  of_variable x action.Begin e = absurd e
  of_variable x action.End e = absurd e

  same_variable : (x : ℕ) (a b : Action) → OfVariable x a → OfVariable x b → Same (operation_of guards Outer a) (operation_of guards Outer b)
  same_variable x a b p q =
      let v : (v : Variable) × (operation_of guards Outer a ≡ access_at x v) = of_variable x a p in
      let w : (v : Variable) × (operation_of guards Outer b ≡ access_at x v) = of_variable x b q in
      subst (λ (k : Operation). Same k (operation_of guards Outer b)) (sym v.1)
      (subst (λ (k : Operation). Same (access_at x v.0) k) (sym w.1) (same_access (guard_of (get_or guards x 0)) v.0 w.0))

  same_common : (a b : Action) → Common a b → Same (operation_of guards Outer a) (operation_of guards Outer b)
  same_common a b (lock m p q) = same_lock m a b p q
  same_common a b (variable x p q) = same_variable x a b p q

  right_way : (x y : Keyed Frame) → (thread_of y.frame ≡ thread_of x.frame → x.key ≤ y.key)
      → ((thread_of y.frame ≡ thread_of x.frame → ⊥) → Same (named guards x.frame) (named guards y.frame) → x.key ≤ y.key)
      → Right independent x y
  right_way x y a b =
      by_test (independent x.frame y.frame) inl
      (λ e. inr
      (by_test (eqb (thread_of y.frame) (thread_of x.frame)) (λ t. a (eqb-true _ _ t))
      (λ t. b (eqb-false _ _ t)
      (same_common x.frame.action y.frame.action (dependent x.frame y.frame e (λ z. eqb-false _ _ t (sym z)))))))

  -- Keys do not fall from a frame to a later dependent one.
  pub ordered : (s : Run) (n : ℕ) (l : List Frame) → Good guards s n l → Past s n → Ordered independent (keyed guards s n l)
  ordered s n [] h p = tt
  ordered s n (f ∷ l) h p = (
    all_map₂ (right_way (record { key = key_of guards s n f l; frame = f })) (keyed guards (onto guards s n f) (suc n) l)
        (same_thread s n f l p) (other_thread s n f l h p),
    ordered (onto guards s n f) (suc n) l h.2 (past_next guards s n f p),
  )
