-- Sorting by exchanges, over any elements and any test of which are independent. In this order: stable insertion by key, laws that hold of
-- all elements of a list, the sort by exchanges, and the same order listed key by key.
use mathlib.Core.Path.{◌≡◌, refl, sym, ap}
use mathlib.Core.Logic.{◌⊎◌, inl, inr}
use mathlib.Core.Bool.{Bool, true, false, cond}
use mathlib.Core.List.{List, [], ◌∷◌, ◌++◌, map}
use Prim.Native.Nat.{ℕ, zero, suc, ◌+◌, ◌≤◌, ◌<◌}
use native.Mathlib.Omega.{arith}
use lib.Dec.{leb, eqb}
use borrow.Author.Tests.{leb-false, le-leb, lt-leb, eqb-true, eqb-false, ne_eqb}
use Rattle.exchange.specs.Exchange.{Exchanges, done, step, here}
use Rattle.exchange.proofs.Exchange.{transitive, first}
use Rattle.reduction.proofs.Run.{Keyed}

module _ {A : Type 0} where
  abbrev pub frames : List (Keyed A) → List A
  frames l = map (λ x. x.frame) l

  abbrev pub keys : List (Keyed A) → List ℕ
  keys l = map (λ x. x.key) l

  -- An element passes only smaller keys.
  abbrev pub insert : Keyed A → List (Keyed A) → List (Keyed A)
  insert x [] = x ∷ []
  insert x (y ∷ l) = cond (leb x.key y.key) (x ∷ (y ∷ l)) (y ∷ insert x l)

  abbrev pub sort : List (Keyed A) → List (Keyed A)
  sort [] = []
  sort (x ∷ l) = insert x (sort l)

  abbrev pub All : (Keyed A → Type 0) → List (Keyed A) → Type 0
  All P [] = Unit {0}
  All P (x ∷ l) = P x × All P l

  pub all_map : {P Q : Keyed A → Type 0} → ((x : Keyed A) → P x → Q x) → (l : List (Keyed A)) → All P l → All Q l
  all_map h [] a = tt
  all_map h (x ∷ l) a = (h x a.0, all_map h l a.1)

  pub all_intro : {P : Keyed A → Type 0} → ((x : Keyed A) → P x) → (l : List (Keyed A)) → All P l
  all_intro h [] = tt
  all_intro h (x ∷ l) = (h x, all_intro h l)

  pub all_map₂ : {P Q R : Keyed A → Type 0} → ((x : Keyed A) → P x → Q x → R x) → (l : List (Keyed A)) → All P l → All Q l → All R l
  all_map₂ h [] a b = tt
  all_map₂ h (x ∷ l) a b = (h x a.0 b.0, all_map₂ h l a.1 b.1)

  module _ (ind : A → A → Bool) where
    -- What may stay in this order: the two are independent, or their keys do not fall.
    abbrev pub Right : Keyed A → Keyed A → Type 0
    Right x y = (ind x.frame y.frame ≡ true) ⊎ (x.key ≤ y.key)

    abbrev pub Above : Keyed A → List (Keyed A) → Type 0
    Above x l = All (Right x) l

    abbrev pub Ordered : List (Keyed A) → Type 0
    Ordered [] = Unit {0}
    Ordered (x ∷ l) = Above x l × Ordered l

    above_insert : (x y : Keyed A) (l : List (Keyed A)) → Right x y → Above x l → Above x (insert y l)
    above_insert x y [] h a = (h, tt)
    above_insert x y (z ∷ l) h a = go (leb y.key z.key) (above_insert x y l h a.1)
      where
        go : (b : Bool) → Above x (insert y l) → Above x (cond b (y ∷ (z ∷ l)) (z ∷ insert y l))
        go true ih = (h, a)
        go false ih = (a.0, ih)

    above_sort : (x : Keyed A) (l : List (Keyed A)) → Above x l → Above x (sort l)
    above_sort x [] a = tt
    above_sort x (y ∷ l) a = above_insert x y (sort l) a.0 (above_sort x l a.1)

    insert_exchanges : (x : Keyed A) (l : List (Keyed A)) → Above x l → Exchanges ind (x.frame ∷ frames l) (frames (insert x l))
    insert_exchanges x [] a = done
    insert_exchanges x (y ∷ l) a = go (leb x.key y.key) refl a.0 (insert_exchanges x l a.1)
      where
        go : (b : Bool) → leb x.key y.key ≡ b → Right x y
            → Exchanges ind (x.frame ∷ frames l) (frames (insert x l))
            → Exchanges ind (x.frame ∷ (y.frame ∷ frames l)) (frames (cond b (x ∷ (y ∷ l)) (y ∷ insert x l)))
        go true e r ih = done
        go false e (inl i) ih = step (here i) (first ind ih)
        go false e (inr k) ih = absurd (omega (arith, leb-false))

    -- Where keys do not fall from an element to a later dependent one, exchanges lead to the stable sort.
    pub sort_exchanges : (l : List (Keyed A)) → Ordered l → Exchanges ind (frames l) (frames (sort l))
    sort_exchanges [] o = done
    sort_exchanges (x ∷ l) o = transitive ind (first ind (sort_exchanges l o.1)) (insert_exchanges x (sort l) (above_sort x l o.0))

  -- The elements with the key c, in order; and those of the n keys from c on, key by key.
  abbrev pub bucket : ℕ → List (Keyed A) → List (Keyed A)
  bucket c [] = []
  bucket c (x ∷ l) = cond (eqb x.key c) (x ∷ bucket c l) (bucket c l)

  abbrev pub buckets : ℕ → ℕ → List (Keyed A) → List (Keyed A)
  buckets zero c l = []
  buckets (suc n) c l = bucket c l ++ buckets n (suc c) l

  -- Every key is at least c.
  abbrev AtLeast : ℕ → List (Keyed A) → Type 0
  AtLeast c l = All (λ x. c ≤ x.key) l

  -- Every key is at least c and less than e.
  abbrev pub Within : ℕ → ℕ → List (Keyed A) → Type 0
  Within c e l = All (λ x. (c ≤ x.key) × (x.key < e)) l

  weaken : (b c : ℕ) (l : List (Keyed A)) → b ≤ c → AtLeast c l → AtLeast b l
  weaken b c l h a = all_map (λ x k. omega arith) l a

  at_least_append : (c : ℕ) (l r : List (Keyed A)) → AtLeast c l → AtLeast c r → AtLeast c (l ++ r)
  at_least_append c [] r a b = b
  at_least_append c (x ∷ l) r a b = (a.0, at_least_append c l r a.1 b)

  at_least_bucket : (c : ℕ) (l : List (Keyed A)) → AtLeast c (bucket c l)
  at_least_bucket c [] = tt
  at_least_bucket c (x ∷ l) = go (eqb x.key c) refl (at_least_bucket c l)
    where
      go : (b : Bool) → eqb x.key c ≡ b → AtLeast c (bucket c l) → AtLeast c (cond b (x ∷ bucket c l) (bucket c l))
      go true e ih = (omega (arith, eqb-true), ih)
      go false e ih = ih

  at_least_buckets : (n c : ℕ) (l : List (Keyed A)) → AtLeast c (buckets n c l)
  at_least_buckets zero c l = tt
  at_least_buckets (suc n) c l =
      at_least_append c (bucket c l) (buckets n (suc c) l) (at_least_bucket c l)
      (weaken c (suc c) (buckets n (suc c) l) (omega arith) (at_least_buckets n (suc c) l))

  insert_first : (x : Keyed A) (l : List (Keyed A)) → AtLeast x.key l → insert x l ≡ x ∷ l
  insert_first x [] a = refl
  insert_first x (y ∷ l) a = rw (le-leb x.key y.key a.0)

  insert_past : (x : Keyed A) (c : ℕ) (l r : List (Keyed A)) → c < x.key → insert x (bucket c l ++ r) ≡ bucket c l ++ insert x r
  insert_past x c [] r h = refl
  insert_past x c (y ∷ l) r h = go (eqb y.key c) refl (insert_past x c l r h)
    where
      go : (b : Bool) → eqb y.key c ≡ b → insert x (bucket c l ++ r) ≡ bucket c l ++ insert x r
          → insert x (cond b (y ∷ bucket c l) (bucket c l) ++ r) ≡ cond b (y ∷ bucket c l) (bucket c l) ++ insert x r
      go true e ih = rw (lt-leb x.key y.key (omega (arith, eqb-true))) (ap (λ (k : List (Keyed A)). y ∷ k) ih)
      go false e ih = ih

  bucket_none : (x : Keyed A) (n c : ℕ) (l : List (Keyed A)) → x.key < c → buckets n c (x ∷ l) ≡ buckets n c l
  bucket_none x zero c l h = refl
  bucket_none x (suc n) c l h = rw (ne_eqb x.key c (omega arith), bucket_none x n (suc c) l (omega arith))

  insert_bucket : (x : Keyed A) (n c : ℕ) (l : List (Keyed A)) → c ≤ x.key → x.key < c + n
      → insert x (buckets n c l) ≡ buckets n c (x ∷ l)
  insert_bucket x zero c l h k = absurd (omega arith)
  insert_bucket x (suc n) c l h k =
      go (eqb x.key c) refl (λ (q : suc c ≤ x.key). insert_bucket x n (suc c) l q (omega arith))
    where
      go : (b : Bool) → eqb x.key c ≡ b → (suc c ≤ x.key → insert x (buckets n (suc c) l) ≡ buckets n (suc c) (x ∷ l))
          → insert x (buckets (suc n) c l) ≡ cond b (x ∷ bucket c l) (bucket c l) ++ buckets n (suc c) (x ∷ l)
      go true e ih =
          rw (
            insert_first x (buckets (suc n) c l)
                (weaken x.key c (buckets (suc n) c l) (omega (arith, eqb-true)) (at_least_buckets (suc n) c l)),
            bucket_none x n (suc c) l (omega (arith, eqb-true)),
          )
      go false e ih = rw (insert_past x c l (buckets n (suc c) l) (omega (arith, eqb-false)), ih (omega (arith, eqb-false)))

  buckets_nil : (n c : ℕ) → buckets n c [] ≡ []
  buckets_nil zero c = refl
  buckets_nil (suc n) c = buckets_nil n (suc c)

  -- The stable sort lists the elements key by key.
  pub sort_buckets : (n : ℕ) (l : List (Keyed A)) → Within 0 n l → sort l ≡ buckets n 0 l
  sort_buckets n [] w = sym (buckets_nil n 0)
  sort_buckets n (x ∷ l) w = rw (sort_buckets n l w.1) (insert_bucket x n 0 l (omega arith) (omega arith))
