-- What a result was whose refusal `map_err` has said to be of a side.
use Rattle.std.specs.Prelude.{Result, Ok, Err}
use Rattle.std.specs.Result.{MatchResult, IsErrAnd}
use mathlib.Core.Path.{◌≡◌, refl, sym, ap, ◌∙◌}
use Rattle.laws.proofs.Logic.{never}
use Rattle.frame.specs.declared.Refused.{Refused}
use Rattle.equal.specs.Equal.{refusal_of}
use Rattle.equal.specs.declared.Side.{Side}
use Rattle.equal.specs.declared.RefusedSide.{RefusedSide}

-- `given` is what the closure gives.
module _ {A : Type 0} (given : Refused → RefusedSide → Type 0) where
  pub was_ok : (r : Result A Refused) {q : Result A RefusedSide} {x : A}
      → MatchResult r (λ y. q ≡ Ok y) (λ e. IsErrAnd q (given e)) → q ≡ Ok x → r ≡ Ok x
  was_ok (Ok y) {q = q} {x = x} h w = let z : ◌≡◌ {A = Result A RefusedSide} (Ok y) (Ok x) = sym h ∙ w in let v : y ≡ x = cc in ap Ok v
  was_ok (Err e) {q = Ok y} h w = absurd h
  was_ok (Err e) {q = Err d} {x = x} h w = let z : ◌≡◌ {A = Result A RefusedSide} (Err d) (Ok x) = w in never (cc)

  pub was_err : (s : Side) (r : Result A Refused) {q : Result A RefusedSide} {d : RefusedSide}
      → MatchResult r (λ y. q ≡ Ok y) (λ e. IsErrAnd q (given e)) → ((e : Refused) (g : RefusedSide) → given e g → g ≡ refusal_of s e) → q ≡ Err d
      → (e : Refused) × (r ≡ Err e) × (d ≡ refusal_of s e)
  was_err s (Ok y) {q = q} {d = d} h g w = let z : ◌≡◌ {A = Result A RefusedSide} (Ok y) (Err d) = sym h ∙ w in never (cc)
  was_err s (Err e) {q = Ok y} h g w = absurd h
  was_err s (Err e) {q = Err b} {d = d} h g w =
      let z : ◌≡◌ {A = Result A RefusedSide} (Err b) (Err d) = w in
      let v : b ≡ d = cc in
      (e, refl, sym v ∙ g e b h)
