-- The line of the name, without its LF.
use mathlib.Core.Path.{sym, ◌∙◌}
use native.Mathlib.Omega.{arith}
use borrow.Author.Rules.{rules}
use Rattle.std.specs.Prelude.{Some}
use Rattle.output.specs.Output.{bytes, written}
use Rattle.output.proofs.Laws.{put_over}
use Rattle.textlines.proofs.Tables.{joined}
use Rattle.names.specs.Names.{name_at}
use Rattle.names.proofs.Lines.{name_line, name_length, name_part}
use Rattle.names.proofs.put_name.Goals as goal

pub returns-in_default : goal.returns-in_default
unfolding name_at written
returns-in_default c = record { length = rw c.in_default.is; contents = rw c.in_default.is }

pub slice_bounds-name-count : goal.slice_bounds-name-count
unfolding bytes joined
slice_bounds-name-count c =
    let p = c.in-Some.place in
    omega (arith, name_length (name_at (Some p)) _ (c.nth_line-line.ensures ∙ name_line p (rw c.in-Some.is at c.requires)))

pub returns-clause-length : goal.returns-clause-length
unfolding bytes joined
returns-clause-length c =
    let p = c.in-Some.place in
    rw (c.in-Some.is, name_part (name_at (Some p)) _ (c.nth_line-line.ensures ∙ name_line p (rw c.in-Some.is at c.requires)))

pub returns-clause-contents : goal.returns-clause-contents
unfolding bytes joined
returns-clause-contents c =
    let p = c.in-Some.place in
    let name = name_part (name_at (Some p)) _ (c.nth_line-line.ensures ∙ name_line p (rw c.in-Some.is at c.requires)) in
    let x = put_over c.over-text.ensures c.put_text.ensures in
    rw (c.in-Some.is, sym name, sym x.contents) (search rules)
