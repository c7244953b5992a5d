-- Laws of the step of one frame.
use Rattle.std.specs.Prelude.{Ok, Err, Some, None}
use Prim.Native.Nat.{ℕ, ◌-◌, ◌^◌, ◌<◌}
use mathlib.Core.Path.{◌≡◌, refl, sym, ap, ◌∙◌}
use mathlib.Core.Bool.{Bool, true, false, cond}
use lib.Dec.{eqb, ltb}
use borrow.Author.Tests.{ltb-true}
use mathlib.Core.List.{List}
use lib.ListN.{get_or, set}
use lib.Bits.{bit_and}
use Rattle.frame.specs.Limits.{variable_count, lock_count}
use Rattle.laws.proofs.Logic.{never, either}
use Rattle.frame.specs.declared.Thread.{Thread}
use Rattle.reply.specs.declared.Kind.{Kind}
use Rattle.frame.specs.declared.Lock.{Lock}
use Rattle.reply.specs.declared.Kind.TheVariants as kind
use Rattle.reply.specs.Reply.{Verdict}
use Rattle.reply.specs.declared.Violation.{Violation}
use Rattle.frame.specs.declared.Variable.{Variable}
use Rattle.guards.specs.Guards.{guard_of, unprotected_code}
use Rattle.instrumented.specs.Held.{Holdable, held}
use Rattle.instrumented.specs.Rules.{Phase, outside, before, after, Judging, judging_of, Judged, judged, violation, phase_of, phase_at, contains, committed, with_commit, acquire_in, unprotected_in, judge_operation}
use Rattle.operation.specs.Operation.{guarded_access}
use Rattle.operation.specs.declared.Operation.{Operation}
use Rattle.operation.specs.declared.Operation.TheVariants.{Acquire, Release, Protected, Unprotected, Inferred, Begin, End}

-- the marks of a violation, from depth, begin and commit
pub marks : (k : Kind) (i : ℕ) (t : Thread) (d b c l : ℕ)
    → Err (record { kind = k; frame = i; thread = t; begin = cond (eqb d 0) None (Some b); commit = cond (eqb d 0) None (cond (eqb c 0) None (Some (c - 1))); locks = l })
    ≡ violation k i t (phase_of d b c) l
marks k i t d b c l = go (eqb d 0) refl (eqb c 0) refl
  where
    go : (p : Bool) → eqb d 0 ≡ p → (q : Bool) → eqb c 0 ≡ q
        → Err (record { kind = k; frame = i; thread = t; begin = cond (eqb d 0) None (Some b); commit = cond (eqb d 0) None (cond (eqb c 0) None (Some (c - 1))); locks = l })
        ≡ violation k i t (phase_of d b c) l
    go true e q f = rw e
    go false e true f = rw (e, f)
    go false e false f = rw (e, f)

-- a frame that goes wrong leaves the state as it was
abbrev Keeps : Judging → Judged → Type 0
Keeps j x = (v : Violation) (k : Judging) → x ≡ judged (Err v) k → k ≡ j

keeps_go : (j n : Judging) → Keeps j (judged (Ok tt) n)
keeps_go j n v k e =
    let f : ◌≡◌ {A = Verdict} (Ok tt) (Err v) = ap (λ (x : Judged). x.verdict) e in
    never (cc)

keeps_wrong : (j : Judging) (w : Verdict) → Keeps j (judged w j)
keeps_wrong j w v k e = sym (ap (λ (x : Judged). x.judging) e)

keeps_acquire : (p : Phase) (i : ℕ) (t : Thread) (l : Lock) (j : Judging) → Keeps j (acquire_in p i t l j)
keeps_acquire outside i t l j = keeps_go j j
keeps_acquire (before b) i t l j = keeps_go j j
keeps_acquire (after b c) i t l j = keeps_wrong j (violation kind.AcquireAfterCommit i t (after b c) (2 ^ l.0))

keeps_unprotected : (p : Phase) (i : ℕ) (t : Thread) (n j : Judging) → Keeps j (unprotected_in p i t n j)
keeps_unprotected outside i t n j = keeps_go j n
keeps_unprotected (before b) i t n j = keeps_go j n
keeps_unprotected (after b c) i t n j = keeps_wrong j (violation kind.UnprotectedAfterCommit i t (after b c) 0)

pub wrong_keeps : (i : ℕ) (t : Thread) (d h : ℕ) (o : Operation) (j : Judging) → Keeps j (judge_operation i t d h o j)
unfolding judge_operation
wrong_keeps i t d h (Acquire l) j = keeps_acquire (phase_at d t j) i t l j
wrong_keeps i t d h (Release l) j = keeps_go j (with_commit t (committed d (get_or j.commits t.0 0) i) j)
wrong_keeps i t d h (Protected m) j =
    either (Keeps j) (contains h m) (keeps_go j j) (keeps_wrong j (violation kind.GuardNotHeld i t (phase_at d t j) (2 ^ m.0)))
wrong_keeps i t d h Unprotected j = keeps_unprotected (phase_at d t j) i t (with_commit t (committed d (get_or j.commits t.0 0) i) j) j
wrong_keeps i t d h (Inferred v) j =
    either (Keeps j) (eqb (bit_and (get_or j.sets v.0 0) h) 0) (keeps_wrong j (violation kind.SetEmptied i t (phase_at d t j) (get_or j.sets v.0 0)))
    (keeps_go j (judging_of j.begins j.commits (set j.sets v.0 (bit_and (get_or j.sets v.0 0) h))))
wrong_keeps i t d h Begin j =
    either (Keeps j) (eqb d 0) (keeps_go j (judging_of (set j.begins t.0 i) (set j.commits t.0 0) j.sets)) (keeps_go j j)
wrong_keeps i t d h End j = keeps_go j j

-- so its begin and commit may be read off the state after it
pub wrong_at_lem : (i : ℕ) (t : Thread) (d h : ℕ) (o : Operation) (j k : Judging) (x : Kind) (locks : ℕ) → judge_operation i t d h o j ≡ judged (violation x i t (phase_at d t j) locks) k
    → judge_operation i t d h o j ≡ judged (violation x i t (phase_at d t k) locks) k
wrong_at_lem i t d h o j k x locks e = e ∙ ap (λ (n : Judging). judged (violation x i t (phase_at d t n) locks) k) (sym (wrong_keeps i t d h o j _ k e))

-- an access holds and frees nothing, whatever its guard
pub access_fits : (c : ℕ) (v : Variable) (h : ℕ) → v.0 < variable_count → Holdable (guarded_access (guard_of c) v) h
access_fits c v h small = go (ltb c lock_count) refl (eqb c unprotected_code) refl
  where
    go : (p : Bool) → ltb c lock_count ≡ p → (q : Bool) → eqb c unprotected_code ≡ q → Holdable (guarded_access (guard_of c) v) h
    go true e q f = rw e (ltb-true c lock_count e)
    go false e true f = rw (e, f) tt
    go false e false f = rw (e, f) small

pub access_holds : (c : ℕ) (v : Variable) (t : ℕ) (hs : List ℕ) → held t (guarded_access (guard_of c) v) hs ≡ hs
access_holds c v t hs = go (ltb c lock_count) refl (eqb c unprotected_code) refl
  where
    go : (p : Bool) → ltb c lock_count ≡ p → (q : Bool) → eqb c unprotected_code ≡ q → held t (guarded_access (guard_of c) v) hs ≡ hs
    go true e q f = rw e
    go false e true f = rw (e, f)
    go false e false f = rw (e, f)
