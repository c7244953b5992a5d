-- The digits that stand first among the first eight bytes.
use Rattle.std.proofs.Common.{rules, tests, take, ◌∙◌}
use Rattle.std.proofs.lemmas.Iterator.{YieldsList-from_slice, YieldsList-from_take}
use Rattle.std.proofs.lemmas.Iterator.Search.{YieldsList-from_take_while}
use Rattle.std.proofs.lemmas.Iterator.Consumers.{YieldsList-at, count_from_yields_List}
use Rattle.std.proofs.lemmas.List.Folds.{length-prefix_len}
use Rattle.fault.specs.Fault.{is_digit}
use Rattle.fault.proofs.Laws.{leading_prefix}
use Rattle.fault.proofs.leading_digits.Goals as goal

pub returns : goal.returns
returns c =
    let t = c.args.line.now in
    count_from_yields_List c.take_while.result _ c.count.ensures.ran
    (YieldsList-from_take_while _ is_digit (YieldsList-at c.take_while.ensures.source (YieldsList-from_take 8 (YieldsList-at c.take.ensures.source (YieldsList-from_slice t cc)) c.take.ensures.count)) c.take_while.ensures.closure c.take_while.ensures.done (λ x r q k. search (rules, tests)))
    ∙ length-prefix_len is_digit (take 8 t)
    ∙ leading_prefix 8 t
