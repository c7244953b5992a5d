use Prim.Native.Nat.{◌-◌}
use mathlib.Core.Path.{◌≡◌, ◌∙◌}
use native.Mathlib.Omega.{arith}
use borrow.Author.Tests.{eq-eqb, ne_eqb}
use Rattle.frame.specs.Limits.{most_frames}
use Rattle.guards.proofs.Laws.{guards_done, guards_over, guards_turn, told}
use Rattle.guards.proofs.read_guards.Goals as goal

pub returns-then-list-i : goal.returns-then-list-i
returns-then-list-i c =
    let l = c.loop-i in
    let t = told (l.invariant ∙ guards_done c.args.list.now l.i l.table (most_frames - l.i) c.if-list-i.true) in
    record { reply = t.0; table = t.1 }

pub returns-in-Err : goal.returns-in-Err
returns-in-Err c =
    let l = c.loop-i in
    let e = guards_turn c.args.list.now l.i l.table l.invariant c.loop-i-test.true c.if-list-i.false c.read_line.ensures c.guard_line.ensures in
    let t = told (e ∙ rw c.in-Err.is) in
    record { reply = rw c.at.ensures t.0; table = t.1 }

pub returns-then-table-v-ne-UNPROTECTED : goal.returns-then-table-v-ne-UNPROTECTED
returns-then-table-v-ne-UNPROTECTED c =
    let l = c.loop-i in
    let e = guards_turn c.args.list.now l.i l.table l.invariant c.loop-i-test.true c.if-list-i.false c.read_line.ensures c.guard_line.ensures in
    let t = told (e ∙ rw (c.in-Ok.is, ne_eqb _ _ (rw c.from-v.ensures at c.if-table-v-ne-UNPROTECTED.true))) in
    record { reply = rw c.at-then-table-v-ne-UNPROTECTED.ensures t.0; table = t.1 }

pub loop-i-preserved : goal.loop-i-preserved
loop-i-preserved c =
    let l = c.loop-i in
    let e = guards_turn c.args.list.now l.i l.table l.invariant c.loop-i-test.true c.if-list-i.false c.read_line.ensures c.guard_line.ensures in
    rw c.from-v.ensures (e ∙ rw (c.in-Ok.is, eq-eqb _ _ (rw c.from-v.ensures at c.if-table-v-ne-UNPROTECTED.false)))

pub returns-then-list-le-MOST_BYTES : goal.returns-then-list-le-MOST_BYTES
returns-then-list-le-MOST_BYTES c =
    let l = c.loop-i in
    let e : l.i ≡ most_frames = omega arith in
    let t = told (l.invariant ∙ guards_done c.args.list.now l.i l.table (most_frames - l.i) (omega arith) ∙ rw e) in
    record { reply = t.0; table = t.1 }

pub returns-else-list-le-MOST_BYTES : goal.returns-else-list-le-MOST_BYTES
returns-else-list-le-MOST_BYTES c =
    let l = c.loop-i in
    let e : l.i ≡ most_frames = omega arith in
    let t = told (rw e at l.invariant ∙ guards_over c.args.list.now most_frames l.table (omega arith)) in
    record { reply = rw c.at-else-list-le-MOST_BYTES.ensures t.0; table = t.1 }
