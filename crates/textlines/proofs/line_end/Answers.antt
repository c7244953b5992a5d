-- Where the first LF is, or that there is none.
use mathlib.Core.Path.{◌∙◌}
use native.Mathlib.Omega.{arith}
use lib.ListN.{drop, length-drop}
use lib.Seq.{take_all}
use lib.Dec.{eqb}
use Rattle.std.proofs.Common.{rules, tests}
use Rattle.std.proofs.lemmas.Iterator.{YieldsList-from_slice}
use Rattle.std.proofs.lemmas.Iterator.Search.{position_from_yields_List}
use Rattle.textlines.proofs.Lines.{line_ends}
use Rattle.textlines.proofs.line_end.Goals as goal

pub returns-in-Some : goal.returns-in-Some
returns-in-Some c =
    let t = drop c.args.start c.args.text.now in
    let p = position_from_yields_List (λ b. eqb b 10) _ _ _ c.position.ensures.ran (YieldsList-from_slice t (c.iter.ensures.rest ∙ take_all _ t (omega (arith, length-drop c.args.start c.args.text.now)))) (λ x r q k. search (rules, tests)) in
    let h = rw c.in-Some.is at (line_ends t _ p) in
    omega (arith, h)

pub returns-in-None : goal.returns-in-None
returns-in-None c =
    let t = drop c.args.start c.args.text.now in
    let p = position_from_yields_List (λ b. eqb b 10) _ _ _ c.position.ensures.ran (YieldsList-from_slice t (c.iter.ensures.rest ∙ take_all _ t (omega (arith, length-drop c.args.start c.args.text.now)))) (λ x r q k. search (rules, tests)) in
    let h = rw c.in-None.is at (line_ends t _ p) in
    omega (arith, h, length-drop c.args.start c.args.text.now)
