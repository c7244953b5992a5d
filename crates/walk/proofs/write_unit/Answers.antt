use mathlib.Core.Path.{sym, subst, ◌∙◌}
use native.Mathlib.Omega.{arith}
use lib.ListN.{length}
use Rattle.walk.proofs.Units.{unit_begins, unit_ends, passes_over, shallow, in_unit, puts, puts_last}
use Rattle.walk.proofs.write_unit.Goals as goal
use Rattle.walk.proofs.write_unit.Goals.{then-word-from+else-depth-eq0, else-word-from}

pub loop-place-init : goal.loop-place-init
loop-place-init g c = unit_begins _ _ _ _

pub put-requires : goal.put-requires
put-requires g c =
    let l = c.loop-place in
    let own = c.if-word-from.true ∙ c.from.ensures in
    subst (g.E.Entry.Fits l.at l.place) (sym l.auto.table) (c.requires l.at l.place (in_unit l.invariant c.args.sound.is_sound c.loop-place-test.true own) c.loop-place-test.true)

pub overflow_add-at : goal.overflow_add-at
overflow_add-at g c =
    let l = c.loop-place in
    let own = c.if-word-from.true ∙ c.from.ensures in
    let fits = c.requires l.at l.place (in_unit l.invariant c.args.sound.is_sound c.loop-place-test.true own) c.loop-place-test.true in
    omega (arith, g.met.E.Entry.behind_fits l.at l.place (length c.args.table.now) c.well_formed.1.1.1.0.0 fits)

pub depth_by-depth-requires : goal.depth_by-depth-requires
depth_by-depth-requires g c = omega (arith, shallow c.loop-place.invariant c.args.sound.is_sound c.loop-place-test.true)

pub returns-then-depth-eq0 : goal.returns-then-depth-eq0
returns-then-depth-eq0 g c =
    let own = c.if-word-from.true ∙ c.from.ensures in
    let w = puts_last c.loop-place.invariant c.args.sound.is_sound c.loop-place-test.true own c.depth_by-depth.ensures c.put.ensures c.if-depth-eq0.true in
    record {
      behind = w.place;
      contents = w.written;
    }

pub loop-place-preserved : goal.loop-place-preserved
loop-place-preserved g c =
    let l = c.loop-place in
    elim c.if-word-from.branch [
      | then-word-from+else-depth-eq0 w ↦
          let own = w.if-word-from.true ∙ c.from.ensures in
          rw (w.table-is, w.at-is, w.depth-is) (puts l.invariant c.args.sound.is_sound c.loop-place-test.true own w.depth_by-depth.ensures w.put.ensures w.if-depth-eq0.false)
      | else-word-from w ↦
          rw (w.table-is, w.at-is, w.depth-is) (passes_over l.invariant c.args.sound.is_sound c.loop-place-test.true (λ e. w.if-word-from.false (e ∙ sym c.from.ensures)))
    ]

pub returns : goal.returns
returns g c =
    let w = unit_ends c.loop-place.invariant c.loop-place-test.false in
    record {
      behind = w.place;
      contents = w.written;
    }
