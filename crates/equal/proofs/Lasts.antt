-- Laws of the last places: they start at none, and a frame that is matched raises them for what clashes with it and for no other (`raised`).
use Prim.Native.Nat.{ℕ, suc, ◌≤◌, ◌<◌, max}
use mathlib.Core.Path.{◌≡◌, refl, subst}
use mathlib.Core.Logic.{◌↔◌}
use mathlib.Core.Bool.{Bool, true, false, cond, false≢true}
use mathlib.Core.List.{List}
use native.Mathlib.Omega.{arith}
use borrow.Author.Tests.{eqb-true}
use lib.Dec.{eqb}
use lib.ListN.{length, get_or, set, length-set}
use Rattle.frame.specs.Limits.{lock_count, variable_count}
use Rattle.laws.proofs.Lists.{get_or_filled, get_or_stored}
use Rattle.frame.specs.Frame.{ObjectInRange}
use Rattle.frame.specs.declared.Lock.{Lock}
use Rattle.frame.specs.declared.Action.{Action}
use Rattle.frame.specs.declared.Action.TheVariants.{Acquire, Release, Read, Write, Begin, End}
use Rattle.exchange.specs.Independent.{clash}
use Rattle.matching.specs.declared.Lasts.{Lasts}
use Rattle.matching.specs.Places.{lasts_of, no_lasts, last_at, with_last}

pub none_last : (a : Action) → last_at a no_lasts ≡ 0
unfolding no_lasts
none_last (Acquire m) = get_or_filled lock_count m.0 0
none_last (Release m) = get_or_filled lock_count m.0 0
none_last (Read x) = get_or_filled variable_count x.0 0
none_last (Write x) = get_or_filled variable_count x.0 0
none_last Begin = refl
none_last End = refl

-- The lists have their lengths, and a write is an access.
pub record Kept (c : Lasts) : Type 0 where
  pub locks : length c.locks ≡ lock_count
  pub writes : length c.writes ≡ variable_count
  pub accesses : length c.accesses ≡ variable_count
  pub written : (x : ℕ) → get_or c.writes x 0 ≤ get_or c.accesses x 0

pub kept_start : Kept no_lasts
unfolding no_lasts
kept_start = record { locks = refl; writes = refl; accesses = refl; written = λ x. omega arith }

-- The least number that is not below x and above p.
abbrev Least : ℕ → ℕ → ℕ → Type 0
Least x p v = (j : ℕ) → v ≤ j ↔ ((x ≤ j) × (p < j))

least_after : (x p : ℕ) → x ≤ p → Least x p (suc p)
least_after x p h j = (λ z. (omega arith, z), λ z. z.1)

least_max : (x p : ℕ) → Least x p (max x (suc p))
least_max x p j = (λ z. (omega arith, omega arith), λ z. omega (arith, z.0, z.1))

unraised : (x p j : ℕ) → x ≤ j ↔ ((x ≤ j) × (false ≡ true → p < j))
unraised x p j = (λ z. (z, λ y. absurd (false≢true y)), λ z. z.0)

-- One number of a list is raised, and no other.
stored_raised : (l : List ℕ) (m k p v : ℕ) → m < length l → Least (get_or l m 0) p v → (j : ℕ)
    → get_or (set l m v) k 0 ≤ j ↔ ((get_or l k 0 ≤ j) × (eqb m k ≡ true → p < j))
stored_raised l m k p v h t j = rw (get_or_stored l m v k h) (go (eqb m k) refl)
  where
    go : (b : Bool) → eqb m k ≡ b → cond b v (get_or l k 0) ≤ j ↔ ((get_or l k 0 ≤ j) × (b ≡ true → p < j))
    go true e =
        subst (λ i. v ≤ j ↔ ((get_or l i 0 ≤ j) × (true ≡ true → p < j))) (eqb-true m k e)
        (λ z. (((t j).0 z).0, λ y. ((t j).0 z).1), λ z. (t j).1 (z.0, z.1 refl))
    go false e = unraised (get_or l k 0) p j

-- A frame with the action a is matched at place p.
module _ (p : ℕ) (c : Lasts) (s : Kept c) where
  lock_raised : (m k : Lock) → m.0 < lock_count → get_or c.locks m.0 0 ≤ p → (j : ℕ)
      → get_or (set c.locks m.0 (suc p)) k.0 0 ≤ j ↔ ((get_or c.locks k.0 0 ≤ j) × (eqb m.0 k.0 ≡ true → p < j))
  lock_raised m k h o = stored_raised c.locks m.0 k.0 p (suc p) (omega (arith, s.locks)) (least_after _ p o)

  pub raised : (a b : Action) → ObjectInRange a → last_at a c ≤ p → (j : ℕ)
      → last_at b (with_last a (suc p) c) ≤ j ↔ ((last_at b c ≤ j) × (clash a b ≡ true → p < j))
  raised (Acquire m) (Acquire k) h o = lock_raised m k h o
  raised (Acquire m) (Release k) h o = lock_raised m k h o
  raised (Acquire m) (Read y) h o = unraised _ p
  raised (Acquire m) (Write y) h o = unraised _ p
  raised (Acquire m) Begin h o = unraised _ p
  raised (Acquire m) End h o = unraised _ p
  raised (Release m) (Acquire k) h o = lock_raised m k h o
  raised (Release m) (Release k) h o = lock_raised m k h o
  raised (Release m) (Read y) h o = unraised _ p
  raised (Release m) (Write y) h o = unraised _ p
  raised (Release m) Begin h o = unraised _ p
  raised (Release m) End h o = unraised _ p
  raised (Read x) (Acquire k) h o = unraised _ p
  raised (Read x) (Release k) h o = unraised _ p
  raised (Read x) (Read y) h o = unraised _ p
  raised (Read x) (Write y) h o = stored_raised c.accesses x.0 y.0 p _ (omega (arith, s.accesses)) (least_max _ p)
  raised (Read x) Begin h o = unraised _ p
  raised (Read x) End h o = unraised _ p
  raised (Write x) (Acquire k) h o = unraised _ p
  raised (Write x) (Release k) h o = unraised _ p
  raised (Write x) (Read y) h o =
      stored_raised c.writes x.0 y.0 p (suc p) (omega (arith, s.writes)) (least_after _ p (omega (arith, s.written x.0)))
  raised (Write x) (Write y) h o = stored_raised c.accesses x.0 y.0 p (suc p) (omega (arith, s.accesses)) (least_after _ p o)
  raised (Write x) Begin h o = unraised _ p
  raised (Write x) End h o = unraised _ p
  raised Begin b h o = unraised _ p
  raised End b h o = unraised _ p

  lock_kept : (m : Lock) → Kept (lasts_of (set c.locks m.0 (suc p)) c.writes c.accesses)
  lock_kept m = record { locks = simp length-set s.locks; writes = s.writes; accesses = s.accesses; written = s.written }

  pub kept_on : (a : Action) → ObjectInRange a → Kept (with_last a (suc p) c)
  kept_on (Acquire m) h = lock_kept m
  kept_on (Release m) h = lock_kept m
  kept_on (Read x) h = record {
    locks = s.locks;
    writes = s.writes;
    accesses = simp length-set s.accesses;
    written = λ y. rw (get_or_stored c.accesses x.0 (max (get_or c.accesses x.0 0) (suc p)) y (omega (arith, s.accesses))) (go y (eqb x.0 y) refl);
  }
    where
      go : (y : ℕ) (b : Bool) → eqb x.0 y ≡ b → get_or c.writes y 0 ≤ cond b (max (get_or c.accesses x.0 0) (suc p)) (get_or c.accesses y 0)
      go y true e =
          subst (λ i. get_or c.writes i 0 ≤ max (get_or c.accesses x.0 0) (suc p)) (eqb-true x.0 y e)
          (omega (arith, s.written x.0))
      go y false e = s.written y
  kept_on (Write x) h = record {
    locks = s.locks;
    writes = simp length-set s.writes;
    accesses = simp length-set s.accesses;
    written = λ y. rw (get_or_stored c.writes x.0 (suc p) y (omega (arith, s.writes)), get_or_stored c.accesses x.0 (suc p) y (omega (arith, s.accesses))) (go y (eqb x.0 y));
  }
    where
      go : (y : ℕ) (b : Bool) → cond b (suc p) (get_or c.writes y 0) ≤ cond b (suc p) (get_or c.accesses y 0)
      go y true = omega arith
      go y false = s.written y
  kept_on Begin h = s
  kept_on End h = s
