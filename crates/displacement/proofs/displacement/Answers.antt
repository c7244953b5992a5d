use mathlib.Core.Path.{◌∙◌, sym, subst}
use mir.Syntax.{w32}
use mir.Val.{SFits}
use mir.Facts.{to_z-of_z}
use Rattle.displacement.proofs.Numbers.{displacement_fits, difference_read}
use Rattle.displacement.proofs.displacement.Goals as goal

pub overflow_sub-result : goal.overflow_sub-result
overflow_sub-result c =
    let a = c.args in
    subst (SFits w32) (sym (difference_read a.order a.place c.requires.0 c.requires.1)) (displacement_fits a.order a.place c.requires.0 c.requires.1)

pub returns : goal.returns
returns c = let a = c.args in to_z-of_z (overflow_sub-result c) ∙ difference_read a.order a.place c.requires.0 c.requires.1
