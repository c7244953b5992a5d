-- The tests of `line_fields` in their order, and then the six numbers.
use mathlib.Core.Path.{sym, ◌∙◌}
use Rattle.line.specs.Line.{kind_width, place_width, thread_width, locks_width, frame_at, thread_at, begin_at, commit_at, locks_at}
use Rattle.fields.specs.Fields.{line_fields}
use Rattle.fields.proofs.Values.{six_numbers}
use Rattle.std.proofs.Common.{rules, tests, arith}
use Rattle.digits.proofs.Numbers.{some_others, part_digits}
use Rattle.fields.proofs.read_fields.Goals as goal

pub returns-then-line-ne-LINE : goal.returns-then-line-ne-LINE
unfolding line_fields
returns-then-line-ne-LINE c = search (rules, tests, some_others)

pub join-requires-clause-values : goal.join-requires-clause-values
join-requires-clause-values c = part_digits _ (c.digit_list.ensures.digits (omega arith)) 0 kind_width

pub join-requires-2-clause-values : goal.join-requires-2-clause-values
join-requires-2-clause-values c = part_digits _ (c.digit_list.ensures.digits (omega arith)) frame_at place_width

pub join-requires-3-clause-values : goal.join-requires-3-clause-values
join-requires-3-clause-values c = part_digits _ (c.digit_list.ensures.digits (omega arith)) thread_at thread_width

pub join-requires-4-clause-values : goal.join-requires-4-clause-values
join-requires-4-clause-values c = part_digits _ (c.digit_list.ensures.digits (omega arith)) begin_at place_width

pub join-requires-5-clause-values : goal.join-requires-5-clause-values
join-requires-5-clause-values c = part_digits _ (c.digit_list.ensures.digits (omega arith)) commit_at place_width

pub join-requires-6-clause-values : goal.join-requires-6-clause-values
join-requires-6-clause-values c = part_digits _ (c.digit_list.ensures.digits (omega arith)) locks_at locks_width

pub returns-then-is_kind : goal.returns-then-is_kind
returns-then-is_kind c =
    let six = six_numbers c.args.line.now c.digit_list.new.out c.if-line-ne-LINE.false c.digit_list.ensures.count c.digit_list.ensures.contents (omega arith) c.if-line-ne10.false in
    sym (six ∙ rw (← c.join.ensures.number, ← c.join-2.ensures.number, ← c.join-3.ensures.number, ← c.join-4.ensures.number, ← c.join-5.ensures.number, ← c.join-6.ensures.number, ← c.is_kind.ensures, c.if-is_kind.true, c.field_mark.ensures, c.field_mark-2.ensures))

pub returns-else-is_kind : goal.returns-else-is_kind
returns-else-is_kind c =
    let six = six_numbers c.args.line.now c.digit_list.new.out c.if-line-ne-LINE.false c.digit_list.ensures.count c.digit_list.ensures.contents (omega arith) c.if-line-ne10.false in
    sym (six ∙ rw (← c.join.ensures.number, ← c.join-2.ensures.number, ← c.join-3.ensures.number, ← c.join-4.ensures.number, ← c.join-5.ensures.number, ← c.join-6.ensures.number, ← c.is_kind.ensures, c.if-is_kind.false))
