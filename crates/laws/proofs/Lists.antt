-- Laws of lists: entries stored, and buffers that are filled from their front.
use Prim.Native.Nat.{ℕ, zero, suc, ◌+◌, ◌≤◌, ◌<◌}
use mathlib.Core.Path.{◌≡◌, refl, sym, ◌∙◌}
use mathlib.Core.Bool.{Bool, true, false, cond}
use mathlib.Core.List.{List, [], ◌∷◌, ◌++◌}
use native.Mathlib.Omega.{arith}
use native.Mathlib.Numerals.{add-one}
use borrow.Author.Tests.{eqb-true, eqb-false, ltb-true, ltb-false}
use lib.Dec.{eqb, ltb}
use lib.ListN.{length, get_or, set, take, drop, replicate, drop_of_length-le}
use Rattle.laws.proofs.Logic.{never, eqb_sym, by_test}
use lib.Seq.{drop-cons, drop-set-lt, get_or-set_same, get_or-set_other, lt-length-set, set_at, append_snoc, take-suc, length-take-le, take-take, set_comm}

-- an entry after a store to the list
pub get_or_set : (l : List ℕ) (i v u : ℕ) → i < length l → get_or (set l i v) u 0 ≡ cond (eqb u i) v (get_or l u 0)
get_or_set l i v u h = go (eqb u i) refl
  where
    go : (b : Bool) → eqb u i ≡ b → get_or (set l i v) u 0 ≡ cond (eqb u i) v (get_or l u 0)
    go true e = rw (e, eqb-true u i e) (get_or-set_same l i v 0 h)
    go false e = rw e (get_or-set_other l i u v 0 (eqb-false u i e))

-- the same by the test the other way round
pub get_or_stored : (l : List ℕ) (i v u : ℕ) → i < length l → get_or (set l i v) u 0 ≡ cond (eqb i u) v (get_or l u 0)
get_or_stored l i v u h = get_or_set l i v u h ∙ rw (eqb_sym u i)

-- a list of one value has it everywhere, where it is the default too
pub get_or_filled : (n i d : ℕ) → get_or (replicate n d) i d ≡ d
get_or_filled zero i d = refl
get_or_filled (suc n) zero d = refl
get_or_filled (suc n) (suc i) d = get_or_filled n i d

-- what stands from a stored entry on
pub drop_stored : (l : List ℕ) (i x : ℕ) → i < length l → drop i (set l i x) ≡ x ∷ drop (suc i) l
drop_stored l i x h =
    drop-cons (set l i x) i 0 (lt-length-set l i x h) ∙ rw (get_or-set_same l i x 0 h, drop-set-lt (suc i) l i x (omega arith))

-- one more entry written after the i at the front
pub front_next : (p s : List ℕ) (i x : ℕ) → length p ≡ i → i < length s → set (p ++ drop i s) i x ≡ p ++ (x ∷ []) ++ drop (i + 1) s
front_next p s i x n h =
    rw (drop-cons s i 0 h, set_at p (get_or s i 0) (drop (suc i) s) x i n, add-one i) (sym (append_snoc p x (drop (suc i) s)))

-- one more entry copied: the list o has the first i entries of l, and then those of s
pub copied_next : (l s o : List ℕ) (i : ℕ) → i < length l → i < length s
    → o ≡ take i l ++ drop i s → set o i (get_or l i 0) ≡ take (i + 1) l ++ drop (i + 1) s
copied_next l s o i h k e =
    rw (e, front_next (take i l) s i (get_or l i 0) (length-take-le i l (omega arith)) k, add-one i, take-suc l i 0 h)

-- an entry set_bounded
pub set_bounded : (l : List ℕ) (t x u m : ℕ) → x ≤ m → get_or l u 0 ≤ m → get_or (set l t x) u 0 ≤ m
set_bounded [] t x u m h a = a
set_bounded (y ∷ l) zero x zero m h a = h
set_bounded (y ∷ l) zero x (suc u) m h a = a
set_bounded (y ∷ l) (suc t) x zero m h a = a
set_bounded (y ∷ l) (suc t) x (suc u) m h a = set_bounded l t x u m h a

-- two entries changed, in either order
pub set_twice : (l : List ℕ) (m k : ℕ) (to to' : ℕ → ℕ) → (k ≡ m → ⊥)
    → set (set l m (to (get_or l m 0))) k (to' (get_or (set l m (to (get_or l m 0))) k 0))
    ≡ set (set l k (to' (get_or l k 0))) m (to (get_or (set l k (to' (get_or l k 0))) m 0))
set_twice l m k to to' a =
    rw (get_or-set_other l m k (to (get_or l m 0)) 0 a, get_or-set_other l k m (to' (get_or l k 0)) 0 (λ e. a (sym e)))
    (set_comm l m k (to (get_or l m 0)) (to' (get_or l k 0)) (λ e. a (sym e)))

-- within a list the default is of no account
pub same_default : {A : Type 0} (l : List A) (i : ℕ) (a b : A) → i < length l → get_or l i a ≡ get_or l i b
same_default [] i a b h = absurd (omega arith)
same_default (x ∷ l) zero a b h = refl
same_default (x ∷ l) (suc i) a b h = same_default l i a b (omega arith)

-- a part that stands in a front of a list
pub part : (at m n : ℕ) (l : List ℕ) → at + m ≤ n → take m (drop at (take n l)) ≡ take m (drop at l)
part zero m n l h = take-take m n l (omega arith)
part (suc at) m zero l h = absurd (omega arith)
part (suc at) m (suc n) [] h = refl
part (suc at) m (suc n) (x ∷ l) h = part at m n l (omega arith)

-- what a list has from a place on
pub rest_of : (all : List ℕ) (i w : ℕ) (ws : List ℕ) → drop i all ≡ w ∷ ws → (i < length all) × (get_or all i 0 ≡ w) × (drop (suc i) all ≡ ws)
rest_of all i w ws e = by_test (ltb i (length all))
    (λ q. let z : get_or all i 0 ∷ drop (suc i) all ≡ w ∷ ws = sym (drop-cons all i 0 (ltb-true i (length all) q)) ∙ e in (ltb-true i (length all) q, cc, cc))
    (λ q. let z : [] ≡ w ∷ ws = sym (drop_of_length-le all (ltb-false i (length all) q)) ∙ e in never (cc))

pub nothing_left : (all : List ℕ) (i : ℕ) → drop i all ≡ [] → length all ≤ i
nothing_left all i e = by_test (ltb i (length all))
    (λ q. let z : get_or all i 0 ∷ drop (suc i) all ≡ [] = sym (drop-cons all i 0 (ltb-true i (length all) q)) ∙ e in never (cc))
    (λ q. ltb-false i (length all) q)
