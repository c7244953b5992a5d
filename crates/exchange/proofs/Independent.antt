-- Laws of independent frames: clashes and independence are symmetric.
use mathlib.Core.Path.{◌≡◌, refl, ◌∙◌}
use mathlib.Core.Bool.{true, not, ◌&&◌, and_comm}
use Rattle.laws.proofs.Logic.{eqb_sym}
use Rattle.frame.specs.declared.Action.{Action}
use Rattle.frame.specs.declared.Frame.{Frame}
use Rattle.exchange.specs.Independent.{Named, lock, variable, neither, named, same_named, is_read, clash, independent}

same_named_sym : (n p : Named) → same_named n p ≡ same_named p n
same_named_sym (lock m) (lock k) = eqb_sym m.0 k.0
same_named_sym (lock m) (variable y) = refl
same_named_sym (lock m) neither = refl
same_named_sym (variable x) (lock k) = refl
same_named_sym (variable x) (variable y) = eqb_sym x.0 y.0
same_named_sym (variable x) neither = refl
same_named_sym neither (lock k) = refl
same_named_sym neither (variable y) = refl
same_named_sym neither neither = refl

pub clash_sym : (a b : Action) → clash a b ≡ clash b a
clash_sym a b = λ i. not (and_comm (is_read a) (is_read b) i) && same_named_sym (named a) (named b) i

pub independent_sym : (f g : Frame) → independent f g ≡ true → independent g f ≡ true
independent_sym f g e = (λ i. not (eqb_sym g.thread.0 f.thread.0 i) && not (clash_sym g.action f.action i)) ∙ e
