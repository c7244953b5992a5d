-- What the comparison of two recordings answers, and the claim that it is equality up to exchanges.
-- Quotes are from docs/FORMAT.md.
use Rattle.std.specs.Prelude.{ℕ, ◌≡◌, ◌↔◌, Bool, List, eqb, length, Result, Ok, Err, true, false}
use Rattle.soundness.specs.Soundness.{check_reply}
use Rattle.exchange.specs.Exchange.{Exchanges, independent_words}
use Rattle.exchange.specs.Pull.{pull_all}
use Rattle.frame.specs.declared.Refused.{Refused}
use Rattle.equal.specs.declared.Side.{Side}
use Rattle.equal.specs.declared.Side.TheVariants.{Left, Right}
use Rattle.equal.specs.declared.RefusedSide.{RefusedSide}

-- The check's reply to a recording that has no refusal.
abbrev pub sound : Result Unit Refused
sound = Ok tt

-- "Equality is yes or no, yes exactly then; recordings of different length are not equal." Each word of the left in turn can be pulled out of
-- the right past words that are independent of it, and nothing is left of the right.
abbrev pub equal_words : List ℕ → List ℕ → Bool
equal_words l r = pull_all eqb independent_words l r

abbrev pub refusal_of : Side → Refused → RefusedSide
refusal_of s x = record { side = s; refused = x }

-- "In the comparison of two recordings the left is checked whole before the right, and the refusal says which side."
abbrev pub after_checks : Result Unit Refused → Result Unit Refused → Bool → Result Bool RefusedSide
after_checks (Err x) q b = Err (refusal_of Left x)
after_checks (Ok u) (Err x) b = Err (refusal_of Right x)
after_checks (Ok u) (Ok v) b = Ok b

abbrev pub equal_reply : List ℕ → List ℕ → Result Bool RefusedSide
equal_reply l r = after_checks (check_reply l) (check_reply r) (equal_words l r)

-- "Two recordings are equal exactly if some number of exchanges, 0 included, each made on what the one before left, turns the left into
-- the right." The words themselves are exchanged.
abbrev pub EqualIsExchanges : Type 0
EqualIsExchanges =
    (l r : List ℕ)
    → check_reply l ≡ sound → check_reply r ≡ sound → (equal_reply l r ≡ Ok true ↔ Exchanges independent_words l r)

-- "Equality is yes or no": of two recordings that pass the check there is no refusal.
abbrev pub EqualIsYesOrNo : Type 0
EqualIsYesOrNo =
    (l r : List ℕ)
    → check_reply l ≡ sound → check_reply r ≡ sound → equal_reply l r ≡ Ok (equal_words l r)

-- "recordings of different length are not equal"
abbrev pub LengthsDiffer : Type 0
LengthsDiffer =
    (l r : List ℕ) → check_reply l ≡ sound → check_reply r ≡ sound → (length l ≡ length r → ⊥) → equal_reply l r ≡ Ok false
