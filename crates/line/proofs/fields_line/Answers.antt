-- The six fields are written one behind the other, and LF is left behind them.
use mathlib.Core.Path.{refl, ◌∙◌}
use native.Mathlib.Omega.{arith}
use Rattle.line.specs.Line.{kind_width, place_width, thread_width, locks_width, commit_at, locks_at, begin_at, line_end, fields_line}
use Rattle.line.proofs.Laws.{front_room, front_first, front_next}
use Rattle.line.proofs.fields_line.Goals as goal

pub slice_bounds-line-end-3 : goal.slice_bounds-line-end-3
slice_bounds-line-end-3 c =
    let f1 = front_first kind_width c.put.ensures c.from.ensures in
    let f2 = front_next place_width f1 (omega arith) c.put-2.ensures c.from-2.ensures in
    front_room begin_at f2 (omega arith) (omega arith)

pub slice_bounds-line-end-4 : goal.slice_bounds-line-end-4
slice_bounds-line-end-4 c =
    let f1 = front_first kind_width c.put.ensures c.from.ensures in
    let f2 = front_next place_width f1 (omega arith) c.put-2.ensures c.from-2.ensures in
    let f3 = front_next thread_width f2 (omega arith) c.put-3.ensures c.from-3.ensures in
    front_room commit_at f3 (omega arith) (omega arith)

pub slice_bounds-line-end-5 : goal.slice_bounds-line-end-5
slice_bounds-line-end-5 c =
    let f1 = front_first kind_width c.put.ensures c.from.ensures in
    let f2 = front_next place_width f1 (omega arith) c.put-2.ensures c.from-2.ensures in
    let f3 = front_next thread_width f2 (omega arith) c.put-3.ensures c.from-3.ensures in
    let f4 = front_next place_width f3 (omega arith) c.put-4.ensures (c.from-4.ensures ∙ c.mark_field.ensures) in
    front_room locks_at f4 (omega arith) (omega arith)

pub slice_bounds-line-end-6 : goal.slice_bounds-line-end-6
slice_bounds-line-end-6 c =
    let f1 = front_first kind_width c.put.ensures c.from.ensures in
    let f2 = front_next place_width f1 (omega arith) c.put-2.ensures c.from-2.ensures in
    let f3 = front_next thread_width f2 (omega arith) c.put-3.ensures c.from-3.ensures in
    let f4 = front_next place_width f3 (omega arith) c.put-4.ensures (c.from-4.ensures ∙ c.mark_field.ensures) in
    let f5 = front_next place_width f4 (omega arith) c.put-5.ensures (c.from-5.ensures ∙ c.mark_field-2.ensures) in
    front_room line_end f5 (omega arith) (omega arith)

pub returns : goal.returns
unfolding fields_line
returns c =
    let f1 = front_first kind_width c.put.ensures c.from.ensures in
    let f2 = front_next place_width f1 (omega arith) c.put-2.ensures c.from-2.ensures in
    let f3 = front_next thread_width f2 (omega arith) c.put-3.ensures c.from-3.ensures in
    let f4 = front_next place_width f3 (omega arith) c.put-4.ensures (c.from-4.ensures ∙ c.mark_field.ensures) in
    let f5 = front_next place_width f4 (omega arith) c.put-5.ensures (c.from-5.ensures ∙ c.mark_field-2.ensures) in
    let f6 = front_next locks_width f5 (omega arith) c.put-6.ensures refl in
    f6.is
