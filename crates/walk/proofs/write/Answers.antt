use Prim.Native.Nat.{ℕ, ◌+◌, ◌<◌, ◌≤◌, ◌^◌}
use mathlib.Core.Path.{sym, ◌∙◌}
use native.Mathlib.Omega.{arith}
use lib.ListN.{length, length-drop}
use Rattle.std.proofs.lemmas.List.{take_rest}
use Rattle.frame.proofs.Laws.{decoded_in_range}
use Rattle.walk.proofs.Parts.{behind_each, laid_whole}
use Rattle.walk.proofs.Walks.{walk_begins, walk_ends, unit_within, walk_next, walk_skips}
use Rattle.walk.proofs.write.Goals as goal
use Rattle.walk.proofs.write.Goals.{in-Some, in_default}

pub loop-place-init : goal.loop-place-init
loop-place-init g c = (rw c.new-units.ensures (walk_begins _), omega (arith, g.met.E.Entry.start_low 0))

pub visit-requires-clause-in_range : goal.visit-requires-clause-in_range
visit-requires-clause-in_range g c = decoded_in_range _ _ c.frame-frame.ensures

pub write_unit-requires : goal.write_unit-requires
write_unit-requires g c =
    let l = c.loop-place in
    let start = g.E.Entry.Start l.order in
    let low = unit_within l.invariant.0 c.loop-place-test.true c.frame-frame.ensures (sym c.in-Some.is ∙ c.visit.ensures.start) in
    λ o p a b.
    let fits = c.requires (start + o) p (omega (arith, a, low, g.met.E.Entry.start_low l.order, c.start-from.ensures)) b in
    rw (c.start-from.ensures, take_rest l.table start, length-drop start l.table, l.auto.table) (g.met.E.Entry.part_fits l.order o p (length c.args.table.now) fits)

pub overflow_add-order : goal.overflow_add-order
overflow_add-order g c =
    let l = c.loop-place in
    let low = unit_within l.invariant.0 c.loop-place-test.true c.frame-frame.ensures (sym c.in-Some.is ∙ c.visit.ensures.start) in
    let few = behind_each (λ (k : ℕ). k < 2 ^ 64) (omega arith)
    (λ o. g.met.E.Entry.behind_fits o l.place (length c.args.table.now) c.well_formed.1.1.0.0)
    (c.start-from.result + c.write_unit.result)
    (λ o h. c.requires o l.place (omega (arith, h, low, c.write_unit.ensures.behind, g.met.E.Entry.start_low l.order, c.start-from.ensures)) c.loop-place-test.true) in
    omega (arith, few)

pub loop-place-preserved : goal.loop-place-preserved
loop-place-preserved g c =
    let l = c.loop-place in
    let d = c.frame-frame.ensures in
    elim c.match-visit.branch [
      | in-Some w ↦
          let s = sym w.in-Some.is ∙ c.visit.ensures.start in
          let low = unit_within l.invariant.0 c.loop-place-test.true d s in
          let u = w.write_unit.ensures in
          let e = w.start-from.ensures in
          let from = g.met.E.Entry.start_low l.order in
          let whole = laid_whole g.E.Entry.put (g.E.Entry.Start l.order) (g.met.E.Entry.part_put l.order) (g.met.E.Entry.part_left l.order) c.args.sound.words.now l.order _ l.table from
          (rw e at u.contents) in
          let within = behind_each (λ (k : ℕ). g.E.Entry.Start k ≤ length c.args.table.now) (omega (arith, g.met.E.Entry.start_low 0))
          (λ o. g.met.E.Entry.start_fits o l.place (length c.args.table.now))
          (w.start-from.result + w.write_unit.result)
          (λ o h. c.requires o l.place (omega (arith, h, low, u.behind, e, from)) c.loop-place-test.true) in
          let next = walk_next l.invariant.0 c.loop-place-test.true d s c.visit.ensures.units (omega (arith, u.behind, e, from)) (rw e whole) in
          (rw (w.table-is, w.order-is) next, rw (c.match-visit.auto.table, l.auto.table, w.order-is) within)
      | in_default w ↦
          let next = walk_skips l.invariant.0 c.loop-place-test.true d (sym w.in_default.is ∙ c.visit.ensures.start) c.visit.ensures.units in
          (rw (w.table-is, w.order-is) next, rw (w.table-is, w.order-is) l.invariant.1)
    ]

pub returns : goal.returns
returns g c = walk_ends c.loop-place.invariant.0 c.loop-place-test.false
