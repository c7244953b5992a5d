use mathlib.Core.Path.{◌≡◌, ◌∙◌}
use native.Mathlib.Omega.{arith}
use lib.ListN.{drop_of_length-le}
use Rattle.digits.proofs.Sums.{sum_from, eight, sum_more, bound_more, value_fits, power_below}
use Rattle.digits.proofs.eight_digits.Goals as goal

pub overflow_mul-v : goal.overflow_mul-v
overflow_mul-v c = omega (arith, power_below c.loop-b.b-index (omega arith))

pub overflow_add-v : goal.overflow_add-v
overflow_add-v c = omega (arith, power_below c.loop-b.b-index (omega arith), value_fits _ _ c.digit_value.ensures)

pub loop-b-preserved : goal.loop-b-preserved
loop-b-preserved c =
    let l = c.loop-b in
    record {
      bounded = bound_more l.v l.b-index c.digit_value.result l.invariant.bounded (value_fits _ _ c.digit_value.ensures);
      sum = l.invariant.sum ∙ sum_more c.args.s.now l.v l.b-index c.digit_value.result c.loop-b-test.true c.digit_value.ensures;
    }

pub returns : goal.returns
unfolding sum_from
returns c =
    let l = c.loop-b in
    let e : sum_from 0 c.args.s.now ≡ l.v = l.invariant.sum ∙ rw (drop_of_length-le c.args.s.now {i = l.b-index} c.loop-b-test.false) in
    eight c.args.s.now c.requires ∙ rw e
