-- What the reduction uses of independence: two frames of different threads that are not independent name the same lock or the same variable.
-- Nothing else in this crate opens the definition.
use Prim.Native.Nat.{ℕ}
use mathlib.Core.Path.{◌≡◌, refl}
use mathlib.Core.Bool.{Bool, true, false, not, ◌&&◌, false≢true, true≢false}
use lib.Dec.{eqb}
use borrow.Author.Tests.{eqb-true}
use Rattle.frame.specs.declared.Action.{Action}
use Rattle.frame.specs.declared.Action.TheVariants.{Acquire, Release, Read, Write, Begin, End}
use Rattle.frame.specs.declared.Frame.{Frame}
use Rattle.exchange.specs.Independent.{clash, independent}
use Rattle.reduction.proofs.Run.{thread_of}

-- The action acquires or releases the lock m.
abbrev pub OfLock : ℕ → Action → Type 0
OfLock m (Acquire l) = m ≡ l.0
OfLock m (Release l) = m ≡ l.0
OfLock m (Read v) = ⊥
OfLock m (Write v) = ⊥
OfLock m Begin = ⊥
OfLock m End = ⊥

-- The action reads or writes the variable x.
abbrev pub OfVariable : ℕ → Action → Type 0
OfVariable x (Acquire l) = ⊥
OfVariable x (Release l) = ⊥
OfVariable x (Read v) = x ≡ v.0
OfVariable x (Write v) = x ≡ v.0
OfVariable x Begin = ⊥
OfVariable x End = ⊥

pub data Common (a b : Action) : Type 0 where
  lock : (m : ℕ) → OfLock m a → OfLock m b → Common a b
  variable : (x : ℕ) → OfVariable x a → OfVariable x b → Common a b

clashing : (a b : Action) → clash a b ≡ true → Common a b
clashing (Acquire l) (Acquire k) e = lock l.0 refl (eqb-true _ _ e)
clashing (Acquire l) (Release k) e = lock l.0 refl (eqb-true _ _ e)
clashing (Acquire l) (Read w) e = absurd (false≢true e)
clashing (Acquire l) (Write w) e = absurd (false≢true e)
clashing (Acquire l) Begin e = absurd (false≢true e)
clashing (Acquire l) End e = absurd (false≢true e)
clashing (Release l) (Acquire k) e = lock l.0 refl (eqb-true _ _ e)
clashing (Release l) (Release k) e = lock l.0 refl (eqb-true _ _ e)
clashing (Release l) (Read w) e = absurd (false≢true e)
clashing (Release l) (Write w) e = absurd (false≢true e)
clashing (Release l) Begin e = absurd (false≢true e)
clashing (Release l) End e = absurd (false≢true e)
clashing (Read v) (Acquire k) e = absurd (false≢true e)
clashing (Read v) (Release k) e = absurd (false≢true e)
clashing (Read v) (Read w) e = absurd (false≢true e)
clashing (Read v) (Write w) e = variable v.0 refl (eqb-true _ _ e)
clashing (Read v) Begin e = absurd (false≢true e)
clashing (Read v) End e = absurd (false≢true e)
clashing (Write v) (Acquire k) e = absurd (false≢true e)
clashing (Write v) (Release k) e = absurd (false≢true e)
clashing (Write v) (Read w) e = variable v.0 refl (eqb-true _ _ e)
clashing (Write v) (Write w) e = variable v.0 refl (eqb-true _ _ e)
clashing (Write v) Begin e = absurd (false≢true e)
clashing (Write v) End e = absurd (false≢true e)
clashing Begin b e = absurd (false≢true e)
clashing End b e = absurd (false≢true e)

-- Two frames of different threads that are not independent have a lock or a variable in common.
pub dependent : (f g : Frame) → independent f g ≡ false → (thread_of f ≡ thread_of g → ⊥) → Common f.action g.action
dependent f g e ne = go (eqb (thread_of f) (thread_of g)) (clash f.action g.action) refl refl e
  where
    go : (v w : Bool) → eqb (thread_of f) (thread_of g) ≡ v → clash f.action g.action ≡ w → (not v && not w) ≡ false
        → Common f.action g.action
    go true w p q r = absurd (ne (eqb-true _ _ p))
    go false true p q r = clashing f.action g.action q
    go false false p q r = absurd (true≢false r)
