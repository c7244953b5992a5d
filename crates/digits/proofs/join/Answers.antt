use mathlib.Core.Path.{◌≡◌, sym, ◌∙◌}
use native.Mathlib.Omega.{arith}
use lib.ListN.{drop_of_length-le, length}
use Rattle.digits.specs.Digits.{DigitValues, joined}
use Rattle.digits.proofs.Numbers.{joined_more, wider, sixteen}
use Rattle.digits.proofs.join.Goals as goal

pub overflow_mul-v : goal.overflow_mul-v
overflow_mul-v c = omega (arith, sixteen c.loop-x.x-index (omega arith))

pub overflow_add-v : goal.overflow_add-v
unfolding DigitValues
overflow_add-v c = omega (arith, sixteen c.loop-x.x-index (omega arith), c.from.ensures, c.requires.values c.loop-x.x-index)

pub loop-x-preserved : goal.loop-x-preserved
unfolding DigitValues
loop-x-preserved c =
    let l = c.loop-x in
    let d = c.args.d.now in
    record {
      held = wider l.v l.x-index c.from.result l.invariant.held (rw c.from.ensures (c.requires.values l.x-index));
      number = l.invariant.number ∙ joined_more d l.v l.x-index c.loop-x-test.true ∙ rw c.from.ensures;
    }

pub returns : goal.returns
unfolding joined
returns c =
    let l = c.loop-x in
    let e : l.x-index ≡ length c.args.d.now = omega arith in
    record {
      number = sym (l.invariant.number ∙ rw (drop_of_length-le c.args.d.now {i = l.x-index} c.loop-x-test.false));
      within = rw e at l.invariant.held;
    }
