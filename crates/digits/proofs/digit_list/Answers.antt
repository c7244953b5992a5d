use mathlib.Core.Path.{refl}
use mathlib.Core.List.{append-nil}
use lib.ListN.{take, drop_of_length-le}
use native.Mathlib.Omega.{arith}
use Rattle.digits.specs.Digits.{values_of, others}
use Rattle.digits.proofs.Numbers.{digit_most, value_more, count_more, no_others}
use Rattle.digits.proofs.digit_list.Goals as goal

pub loop-k-init : goal.loop-k-init
unfolding values_of others
loop-k-init c = record { bounded = omega arith; count = refl; contents = refl }

pub overflow_add-count : goal.overflow_add-count
overflow_add-count c = omega (arith, digit_most _ c.digit_of-d.result c.digit_of-d.ensures)

pub loop-k-preserved : goal.loop-k-preserved
loop-k-preserved c =
    let l = c.loop-k in
    let s = c.args.s.now in
    let d = digit_most _ c.digit_of-d.result c.digit_of-d.ensures in
    record {
      bounded = omega arith;
      count = count_more s l.k c.digit_of-d.result l.count (omega arith) c.digit_of-d.ensures l.invariant.count;
      contents = value_more s c.args.out.now l.out l.k c.digit_of-d.result (omega arith) (omega arith) c.digit_of-d.ensures l.invariant.contents;
    }

pub returns-clause-digits : goal.returns-clause-digits
returns-clause-digits c =
    let l = c.loop-k in
    let r = drop_of_length-le c.args.out.now {i = l.k} (omega arith) in
    λ none. rw (l.invariant.contents, r, append-nil) (no_others (take l.k c.args.s.now) (omega (arith, none, l.invariant.count))).1
