use mathlib.Core.Path.{◌≡◌, refl, sym, subst}
use lib.ListN.{length}
use native.Mathlib.Omega.{arith}
use borrow.Author.Rules.{rules}
use Rattle.quick.specs.Quick.{PassedTo}
use Rattle.quick.proofs.Turn.{passed_more}
use Rattle.quick.proofs.passed.Goals as goal

pub loop-i-init : goal.loop-i-init
loop-i-init c = record { within = omega arith; same = refl }

pub loop-i-preserved : goal.loop-i-preserved
loop-i-preserved c =
    let e = rw c.if-not-passes.false at c.passes.ensures in
    passed_more (search rules) c.loop-i.invariant e.1

pub returns-then-not-passes : goal.returns-then-not-passes
returns-then-not-passes c = subst (PassedTo _ _ _) (sym (rw c.if-not-passes.true at c.passes.ensures)) c.loop-i.invariant

pub returns : goal.returns
returns c =
    let z : c.loop-i.i ≡ length c.args.words.now = omega arith in
    rw (← z) c.loop-i.invariant
