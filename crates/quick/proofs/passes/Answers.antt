-- Each test that fails leaves all as it was; where none does, `turn` says what the word does.
use Prim.Native.Nat.{◌%◌}
use mathlib.Core.Path.{sym, ◌∙◌}
use native.Mathlib.Omega.{arith}
use borrow.Author.Tests.{eqb-true, not-false}
use lib.ListN.{get_or}
use Rattle.frame.specs.Limits.{lock_count}
use Rattle.frame.proofs.Laws.{apart}
use Rattle.quick.specs.Quick.{picked}
use Rattle.quick.proofs.Turn.{at_most_one, enough, turn}
use Rattle.quick.proofs.passes.Goals as goal

pub overflow_add-own : goal.overflow_add-own
overflow_add-own c = omega (arith, (apart _ _ _ _ (sym c.split_word.ensures ∙ c.in-Some.is)).thread)

pub bounds-state-t : goal.bounds-state-t
bounds-state-t c = omega (arith, (apart _ _ _ _ (sym c.split_word.ensures ∙ c.in-Some.is)).thread)

pub overflow_sub-taken : goal.overflow_sub-taken
overflow_sub-taken c = omega (arith, at_most_one c.in-Some.parts.operation 1 c.pick-taken.result c.pick-taken.ensures)

pub overflow_sub-begun : goal.overflow_sub-begun
overflow_sub-begun c = omega (arith, at_most_one c.in-Some.parts.operation 5 c.pick-begun.result c.pick-begun.ensures)

pub overflow_sub-n : goal.overflow_sub-n
overflow_sub-n c =
    let p = c.in-Some.parts in
    let owner = get_or c.args.state.now.owners (c.from-l.result % lock_count) 0 in
    let count = get_or c.args.state.now.counts (c.from-l.result % lock_count) 0 in
    let z = eqb-true (picked owner 0 1 0) (picked count 0 1 0) (not-false _ (sym c.differ.ensures ∙ c.if-differ.false)) in
    let w = rw c.held_end.ensures at c.if-held_end-count.false in
    omega (arith, enough p.operation p.thread.0 owner count c.pick.result z w c.pick.ensures, c.pick-taken.ensures)

pub bounds-state-t-2 : goal.bounds-state-t-2
bounds-state-t-2 c = omega (arith, (apart _ _ _ _ (sym c.split_word.ensures ∙ c.in-Some.is)).thread)

pub returns : goal.returns
returns c =
    let s = c.args.state.now in
    let p = c.in-Some.parts in
    let q = apart _ _ _ _ (sym c.split_word.ensures ∙ c.in-Some.is) in
    let owner = get_or s.owners (c.from-l.result % lock_count) 0 in
    let count = get_or s.counts (c.from-l.result % lock_count) 0 in
    let z = eqb-true (picked owner 0 1 0) (picked count 0 1 0) (not-false _ (sym c.differ.ensures ∙ c.if-differ.false)) in
    rw (q.whole, c.owner_after.ensures, c.pick.ensures, c.pick-taken.ensures, c.pick-ended.ensures, c.pick-begun.ensures, c.from-l.ensures, c.from-t.ensures)
    (turn s.owners s.counts s.depths p.thread.0 p.object q.thread p.operation q.low q.high
    (rw c.object_end.ensures at c.if-object_end-parts.false)
    (rw c.from-l.ensures at z)
    (rw (c.held_end.ensures, c.from-l.ensures) at c.if-held_end-count.false)
    (rw (c.pick-taken.ensures, c.from-l.ensures) at c.if-taken-count.false)
    (rw (c.pick-begun.ensures, c.from-t.ensures) at c.if-begun-depth.false)
    (rw (c.pick-ended.ensures, c.pick-begun.ensures, c.from-t.ensures) at c.if-depth-begun.false))
