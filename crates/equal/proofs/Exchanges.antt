-- Equality is yes or no, and yes exactly if exchanges turn the left recording's words into the right's. In this order: what pulling words
-- out decides; the claims; and what they say of the lengths.
use Rattle.std.specs.Prelude.{Result, Ok, Err}
use Prim.Native.Nat.{ℕ}
use mathlib.Core.Path.{◌≡◌, refl, sym, ◌∙◌}
use mathlib.Core.Bool.{Bool, true, false, false≢true}
use mathlib.Core.List.{List}
use borrow.Author.Tests.{eqb-true, eq-eqb}
use lib.Dec.{eqb}
use Rattle.laws.proofs.Logic.{by_test}
use Rattle.frame.specs.Frame.{decode_word}
use Rattle.soundness.specs.Soundness.{check_reply}
use Rattle.exchange.proofs.Exchange.{exchanges_length}
use Rattle.exchange.proofs.Frames.{apart, sound_all_decode, words_apart, apart_words}
use Rattle.exchange.proofs.Pull.{pull_exchanges, exchanges_pull}
use Rattle.exchange.specs.Exchange.{Exchanges, independent_in, independent_words}
use Rattle.equal.specs.Equal.{sound, equal_words, equal_reply, EqualIsExchanges, EqualIsYesOrNo, LengthsDiffer}
use Rattle.equal.specs.declared.RefusedSide.{RefusedSide}
use Rattle.frame.specs.declared.Refusal.{Refusal}
use Rattle.frame.specs.declared.Frame.{Frame}

never_itself : (w : ℕ) → independent_words w w ≡ true → ⊥
never_itself w = go (decode_word w)
  where
    go : (d : Result Frame Refusal) → independent_in d d ≡ true → ⊥
    go (Ok f) e = false≢true (rw (eq-eqb f.thread.0 f.thread.0 refl) at e)
    go (Err r) e = false≢true e

pub equal_exchanges : (l r : List ℕ) → equal_words l r ≡ true → Exchanges independent_words l r
equal_exchanges l r e = pull_exchanges independent_words eqb eqb-true (λ w. eq-eqb w w refl) never_itself l r e

pub exchanges_equal : (l r : List ℕ) → Exchanges independent_words l r → equal_words l r ≡ true
exchanges_equal l r x = exchanges_pull independent_words eqb eqb-true (λ w. eq-eqb w w refl) never_itself l r x

-- whether sound recordings are equal, by exchanges of words whose frames are independent
pub yes : (l r : List ℕ) → check_reply l ≡ sound → Exchanges apart l r → equal_words l r ≡ true
yes l r p x = exchanges_equal l r (apart_words (sound_all_decode l p) x)

pub no : (l r : List ℕ) → (Exchanges apart l r → ⊥) → equal_words l r ≡ false
no l r n = by_test (equal_words l r) (λ e. absurd (n (words_apart (equal_exchanges l r e)))) (λ e. e)

-- the answer to sound recordings
answered : (l r : List ℕ) → check_reply l ≡ sound → check_reply r ≡ sound → equal_reply l r ≡ Ok (equal_words l r)
answered l r p q = rw (p, q)

-- "Equality is yes or no"
pub equal_is_yes_or_no : EqualIsYesOrNo
equal_is_yes_or_no = answered

-- "yes exactly then"
pub equal_is_exchanges : EqualIsExchanges
equal_is_exchanges l r p q = (
  λ e. equal_exchanges l r (is_yes (equal_words l r) (sym (answered l r p q) ∙ e)),
  λ x. answered l r p q ∙ rw (exchanges_equal l r x),
)
  where
    is_yes : (b : Bool) → ◌≡◌ {A = Result Bool RefusedSide} (Ok b) (Ok true) → b ≡ true
    is_yes b e = cc

-- "recordings of different length are not equal"
pub lengths_differ : LengthsDiffer
lengths_differ l r p q n = answered l r p q ∙ rw (no l r (λ x. n (exchanges_length apart x)))
