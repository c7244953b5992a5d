-- The table is the list of all values, which antt computes.
use Rattle.std.proofs.Common.{ℕ, List, ◌≡◌, ◌∙◌, ap, map, get_or, refl, arith, rules}
use Rattle.std.specs.List.{range_with_len}
use Rattle.std.proofs.lemmas.List.FromFn.{get_or-map-range_with_len}
use Rattle.digits.specs.Digits.{value_of, digit_of}
use Rattle.digits.specs.declared.TheConstants.{VALUES}
use Rattle.digits.proofs.digit_value.Goals as goal

pub returns : goal.returns
unfolding value_of digit_of
returns c =
    let e : VALUES ≡ map value_of (range_with_len 0 256) = refl in
    ap (λ (t : List ℕ). get_or t c.args.b 0) e ∙ get_or-map-range_with_len value_of 0 256 c.args.b c.args.b 0 (search rules) (omega arith)
