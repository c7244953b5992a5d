use mathlib.Core.Path.{refl}
use Rattle.matching.specs.Places.{no_lasts}
use Rattle.matching.proofs.Lasts.new.Goals as goal

pub returns : goal.returns
unfolding no_lasts
returns c = refl
