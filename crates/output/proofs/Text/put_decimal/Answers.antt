use Prim.Native.Nat.{◌+◌, ◌-◌}
use mathlib.Core.Path.{◌≡◌, sym, ◌∙◌}
use mathlib.Core.List.{[]}
use native.Mathlib.Omega.{arith}
use borrow.Author.Tests.{eq-eqb, ne_eqb}
use lib.ListN.{take, drop, length-set, length-drop}
use lib.Seq.{take_all}
use Rattle.output.specs.Output.{decimal_digits, decimal}
use Rattle.output.proofs.Laws.{digit_stored, digits_none, digits_full}
use Rattle.output.proofs.Text.put_decimal.Goals as goal
use Rattle.output.proofs.Text.put_decimal.Goals.{then-loop-rest-test+else-start-gt0, else-loop-rest-test}

pub returns-then-number-eq0 : goal.returns-then-number-eq0
unfolding decimal
returns-then-number-eq0 c = rw (eq-eqb _ _ c.if-number-eq0.true) c.put_byte.ensures

pub loop-rest-preserved : goal.loop-rest-preserved
loop-rest-preserved c =
    let l = c.loop-rest in
    let e : l.start - 1 + 1 ≡ l.start = omega arith in (
      omega arith,
      simp length-set l.invariant.1,
      sym (rw e at (digit_stored l.digits (l.start - 1) l.rest (omega arith) (omega arith))) ∙ l.invariant.2,
    )

pub returns : goal.returns
unfolding decimal
returns c =
    let l = c.loop-rest in
    let n = c.args.number in
    let z : decimal_digits l.start l.rest ≡ [] = elim c.loop-rest-test.branch [ then-loop-rest-test+else-start-gt0 w ↦ digits_full l.start l.rest (omega (arith, w.if-start-gt0.false)) | else-loop-rest-test w ↦ digits_none l.start l.rest w.loop-rest-test.false ] in
    let d : drop l.start l.digits ≡ decimal_digits 20 n = rw z at l.invariant.2 in
    let e : take (20 - l.start) (drop l.start l.digits) ≡ decimal_digits 20 n = take_all (20 - l.start) (drop l.start l.digits) (omega (arith, length-drop l.start l.digits, l.invariant)) ∙ d in
    rw (ne_eqb n 0 c.if-number-eq0.false) (rw e at c.put_text.ensures)
