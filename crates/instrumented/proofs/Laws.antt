-- Laws of the rules for one operation: the set of one lock, and what a thread does after commit and else.
use Rattle.std.specs.Prelude.{Ok}
use Prim.Native.Nat.{ℕ, ◌*◌, ◌^◌, ◌%◌, ◌<◌}
use mathlib.Core.Path.{◌≡◌, refl, sym, ap, ◌∙◌}
use mathlib.Core.Logic.{◌⊎◌, inl, inr, ⊎_elim}
use mathlib.Core.Bool.{Bool, true, false, cond, true≢false}
use native.Mathlib.Omega.{arith}
use native.Mathlib.Nat.{one-mul}
use lib.Dec.{eqb}
use lib.Pow.{shl_exact}
use Rattle.frame.specs.Limits.{lock_count}
use Rattle.frame.specs.declared.Thread.{Thread}
use Rattle.frame.specs.declared.Lock.{Lock}
use Rattle.reply.specs.declared.Kind.TheVariants as kind
use Rattle.instrumented.specs.Rules.{Phase, outside, before, Judging, judged, violation, phase_of, acquire_in, unprotected_in}

-- the set of one lock, as the machine shifts it
pub shl_one : (n : ℕ) → n < lock_count → (1 * 2 ^ n) % 2 ^ 64 ≡ 2 ^ n
shl_one n h = shl_exact 1 n 64 (omega arith) (omega arith) ∙ one-mul (2 ^ n)

-- whether a thread is after commit, from depth and commit
abbrev pub after_commit : ℕ → ℕ → Bool
after_commit d c = cond (eqb d 0) false (cond (eqb c 0) false true)

module _ (i : ℕ) (t : Thread) (d b c : ℕ) (j : Judging) where
  module _ (a : after_commit d c ≡ true) where
    after_is : (p : Bool) → eqb d 0 ≡ p → (q : Bool) → eqb c 0 ≡ q → (eqb d 0 ≡ false) × (eqb c 0 ≡ false)
    after_is true e q f = absurd (true≢false (sym a ∙ rw e))
    after_is false e true f = absurd (true≢false (sym a ∙ rw (e, f)))
    after_is false e false f = (e, f)

    pub acquire_after : (l : Lock) → acquire_in (phase_of d b c) i t l j ≡ judged (violation kind.AcquireAfterCommit i t (phase_of d b c) (2 ^ l.0)) j
    acquire_after l = let e = after_is (eqb d 0) refl (eqb c 0) refl in rw (e.0, e.1)

    pub unprotected_after : (n : Judging) → unprotected_in (phase_of d b c) i t n j ≡ judged (violation kind.UnprotectedAfterCommit i t (phase_of d b c) 0) j
    unprotected_after n = let e = after_is (eqb d 0) refl (eqb c 0) refl in rw (e.0, e.1)

  module _ (a : after_commit d c ≡ false) where
    else_is : (p : Bool) → eqb d 0 ≡ p → (q : Bool) → eqb c 0 ≡ q → (phase_of d b c ≡ outside) ⊎ (phase_of d b c ≡ before b)
    else_is true e q f = inl (rw e)
    else_is false e true f = inr (rw (e, f))
    else_is false e false f = absurd (true≢false (rw (e, f) at a))

    pub acquire_else : (l : Lock) → acquire_in (phase_of d b c) i t l j ≡ judged (Ok tt) j
    acquire_else l = ⊎_elim (λ e. ap (λ (p : Phase). acquire_in p i t l j) e) (λ e. ap (λ (p : Phase). acquire_in p i t l j) e) (else_is (eqb d 0) refl (eqb c 0) refl)

    pub unprotected_else : (n : Judging) → unprotected_in (phase_of d b c) i t n j ≡ judged (Ok tt) n
    unprotected_else n = ⊎_elim (λ e. ap (λ (p : Phase). unprotected_in p i t n j) e) (λ e. ap (λ (p : Phase). unprotected_in p i t n j) e) (else_is (eqb d 0) refl (eqb c 0) refl)
