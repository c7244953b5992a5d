-- The table is the list of all digits, which antt computes.
use Rattle.std.proofs.Common.{ℕ, List, ◌≡◌, ◌∙◌, ap, map, get_or, refl, arith}
use Rattle.std.specs.List.{range_with_len}
use Rattle.std.proofs.lemmas.List.FromFn.{get_or-map-range_with_len}
use Rattle.digits.specs.Digits.{byte_of}
use Rattle.digits.specs.declared.TheConstants.{DIGITS}
use Rattle.digits.proofs.digit_byte.Goals as goal

pub returns : goal.returns
unfolding byte_of
returns c =
    let e : DIGITS ≡ map byte_of (range_with_len 0 16) = refl in
    ap (λ (t : List ℕ). get_or t c.args.v 0) e ∙ get_or-map-range_with_len byte_of 0 16 c.args.v c.args.v 0 c.requires (omega arith)
