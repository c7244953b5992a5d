use Prim.Native.Nat.{◌-◌}
use mathlib.Core.Path.{◌≡◌, ap, ◌∙◌}
use native.Mathlib.Omega.{arith}
use lib.ListN.{drop}
use Rattle.textlines.specs.Lines.{nth_line}
use Rattle.textlines.proofs.Lines.{within, next_line, first_line}
use Rattle.textlines.proofs.nth_line.Goals as goal

pub loop-line-preserved : goal.loop-line-preserved
loop-line-preserved c =
    let l = c.loop-line in
    let t = c.args.text.now in
    rw c.line_end-start.ensures (within t l.start l.invariant.0, next_line t l.start c.args.n l._line (omega arith) ∙ l.invariant.1)

pub slice_bounds-result-end : goal.slice_bounds-result-end
slice_bounds-result-end c =
    let l = c.loop-line in
    rw c.line_end.ensures (within c.args.text.now l.start l.invariant.0)

pub returns : goal.returns
returns c =
    let l = c.loop-line in
    let t = c.args.text.now in
    let k : 0 ≡ c.args.n - l._line = omega arith in
    first_line t l.start _ c.line_end.ensures ∙ (ap (λ j. nth_line j (drop l.start t)) k ∙ l.invariant.1)
