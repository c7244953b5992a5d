-- Lists that some number of exchanges of independent neighbours turn one into the other, and which words of a recording are independent.
-- Quotes are from docs/FORMAT.md.
use Rattle.std.specs.Prelude.{ℕ, ◌≡◌, Bool, true, false, List, ◌∷◌, map, Result, Ok, Err}
use Rattle.frame.specs.Frame.{decode_word}
use Rattle.frame.specs.declared.Action.TheVariants.{Begin}
use Rattle.frame.specs.declared.Frame.{Frame}
use Rattle.exchange.specs.Independent.{independent}
use Rattle.frame.specs.declared.Refusal.{Refusal}

-- Over any elements, and any test of which are independent.
module _ {A : Type 0} (independent : A → A → Bool) where
  -- "An exchange swaps two independent frames at neighbouring places."
  pub data Exchange : List A → List A → Type 0 where
    here : {f g : A} {l : List A} → independent f g ≡ true → Exchange (f ∷ (g ∷ l)) (g ∷ (f ∷ l))
    later : {f : A} {l r : List A} → Exchange l r → Exchange (f ∷ l) (f ∷ r)

  -- "Two recordings are equal exactly if some number of exchanges, 0 included, each made on what the one before left, turns the left into
  -- the right."
  pub data Exchanges : List A → List A → Type 0 where
    done : {l : List A} → Exchanges l l
    step : {l m r : List A} → Exchange l m → Exchanges m r → Exchanges l r

-- Two words of a recording are independent if both are frames, and these are. A word that is no frame is exchanged with none.
abbrev pub independent_in : Result Frame Refusal → Result Frame Refusal → Bool
independent_in (Ok f) (Ok g) = independent f g
independent_in (Ok f) (Err r) = false
independent_in (Err r) d = false

abbrev pub independent_words : ℕ → ℕ → Bool
independent_words w v = independent_in (decode_word w) (decode_word v)

-- The frame of a word, for laws of words that decode; what does not is taken for a frame that touches nothing. No claim speaks of it.
abbrev pub frame_in : Result Frame Refusal → Frame
frame_in (Ok f) = f
frame_in (Err r) = record { thread = record { 0 = 0 }; action = Begin }

abbrev pub frame_of : ℕ → Frame
frame_of w = frame_in (decode_word w)

abbrev pub frames_of : List ℕ → List Frame
frames_of ws = map frame_of ws
