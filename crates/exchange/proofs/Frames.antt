-- The words of a sound recording decode, so its frames stand for them: each is in its ranges, and its word is the recording's. Exchanges of
-- words are exchanges of frames.
use Rattle.std.specs.Prelude.{Result, Ok, Err}
use Rattle.std.specs.List.{AllByRecursion}
use Rattle.std.proofs.lemmas.List.Elements.{All-get_or, All-from_recursion}
use Prim.Native.Nat.{ℕ, ◌+◌, ◌<◌}
use mathlib.Core.Path.{◌≡◌, refl, sym, ◌∙◌, subst}
use mathlib.Core.Bool.{Bool, true, false≢true}
use mathlib.Core.List.{List, [], ◌∷◌, map}
use lib.ListN.{length, get_or}
use Rattle.frame.proofs.Laws.{decoded_in_range, encode_decode, decode_encode}
use Rattle.frame.specs.Frame.{decode_word, encode_frame, InRange}
use Rattle.frame.specs.declared.Frame.{Frame}
use Rattle.soundness.proofs.Laws.{check_short, sound_fits, sound_first}
use Rattle.soundness.specs.Soundness.{check_from, check_reply, start}
use Rattle.soundness.specs.declared.State.{State}
use Rattle.exchange.specs.Independent.{independent}
use Rattle.exchange.specs.Exchange.{Exchange, here, later, Exchanges, done, step, independent_in, independent_words, frame_in, frame_of, frames_of}
use Rattle.frame.specs.declared.Refusal.{Refusal}

-- The word decodes, as its frame.
abbrev pub Decodes : ℕ → Type 0
Decodes w = decode_word w ≡ Ok (frame_of w)

decodes_as : (w : ℕ) (f : Frame) → decode_word w ≡ Ok f → Decodes w
decodes_as w f e = rw e

pub frame_in_range : (w : ℕ) → Decodes w → InRange (frame_of w)
frame_in_range w d = decoded_in_range w (frame_of w) d

pub frame_word : (w : ℕ) → Decodes w → encode_frame (frame_of w) ≡ w
frame_word w d = encode_decode w (frame_of w) d

abbrev pub AllDecode : List ℕ → Type 0
AllDecode ws = AllByRecursion Decodes ws

all_decode : (i : ℕ) (s : State) (ws : List ℕ) → (check_from i s ws).reply ≡ (Ok tt) → AllDecode ws
unfolding check_from
all_decode i s [] e = tt
all_decode i s (w ∷ ws) e =
    let q = sound_first i s w ws e in
    (decodes_as w q.frame q.is, all_decode (i + 1) q.next ws q.rest)

pub sound_all_decode : (ws : List ℕ) → check_reply ws ≡ (Ok tt) → AllDecode ws
sound_all_decode ws e = all_decode 0 start ws (sym (check_short ws (sound_fits ws e)) ∙ e)

pub sound_decodes : (ws : List ℕ) → check_reply ws ≡ (Ok tt) → (i : ℕ) → i < length ws → Decodes (get_or ws i 0)
sound_decodes ws e i h = All-get_or Decodes ws i 0 h (All-from_recursion Decodes ws (sound_all_decode ws e))

-- Two words whose frames are independent.
abbrev pub apart : ℕ → ℕ → Bool
apart w v = independent (frame_of w) (frame_of v)

-- words are independent where their frames are, and the other way round where both decode
in_apart : (d e : Result Frame Refusal) → independent_in d e ≡ true → independent (frame_in d) (frame_in e) ≡ true
in_apart (Ok f) (Ok g) h = h
in_apart (Ok f) (Err r) h = absurd (false≢true h)
in_apart (Err r) e h = absurd (false≢true h)

apart_in : (w v : ℕ) → Decodes w → Decodes v → apart w v ≡ true → independent_words w v ≡ true
apart_in w v d e h = rw (d, e) h

exchange_apart : {l r : List ℕ} → Exchange independent_words l r → Exchange apart l r
exchange_apart (here {f = w} {g = v} i) = here (in_apart (decode_word w) (decode_word v) i)
exchange_apart (later e) = later (exchange_apart e)

pub words_apart : {l r : List ℕ} → Exchanges independent_words l r → Exchanges apart l r
words_apart done = done
words_apart (step e x) = step (exchange_apart e) (words_apart x)

apart_exchange : {l r : List ℕ} → AllDecode l → Exchange apart l r → Exchange independent_words l r × AllDecode r
apart_exchange d (here {f = w} {g = v} i) = (here (apart_in w v d.0 d.1.0 i), (d.1.0, (d.0, d.1.1)))
apart_exchange d (later e) = let q = apart_exchange d.1 e in (later q.0, (d.0, q.1))

pub apart_words : {l r : List ℕ} → AllDecode l → Exchanges apart l r → Exchanges independent_words l r
apart_words d done = done
apart_words d (step e x) = let q = apart_exchange d e in step q.0 (apart_words q.1 x)

all_in_range : (ws : List ℕ) → AllDecode ws → AllByRecursion InRange (frames_of ws)
all_in_range [] d = tt
all_in_range (w ∷ ws) d = (frame_in_range w d.0, all_in_range ws d.1)

frames_back : (ws : List ℕ) → AllDecode ws → map encode_frame (frames_of ws) ≡ ws
frames_back [] d = refl
frames_back (w ∷ ws) d = λ i. frame_word w d.0 i ∷ frames_back ws d.1 i

exchange_words : {l r : List Frame} → AllByRecursion InRange l → Exchange independent l r → Exchange apart (map encode_frame l) (map encode_frame r) × AllByRecursion InRange r
exchange_words p (here {f = f} {g = g} i) =
    let h : apart (encode_frame f) (encode_frame g) ≡ true = rw (decode_encode f p.0, decode_encode g p.1.0) i in
    (here h, (p.1.0, (p.0, p.1.1)))
exchange_words p (later e) = let q = exchange_words p.1 e in (later q.0, (p.0, q.1))

exchanges_words : {l r : List Frame} → AllByRecursion InRange l → Exchanges independent l r → Exchanges apart (map encode_frame l) (map encode_frame r)
exchanges_words p done = done
exchanges_words p (step e x) = let q = exchange_words p e in step q.0 (exchanges_words q.1 x)

-- and where the words decode, the other way round
pub frames_words : (l r : List ℕ) → AllDecode l → AllDecode r → Exchanges independent (frames_of l) (frames_of r) → Exchanges apart l r
frames_words l r p q x =
    subst (λ z. Exchanges apart z r) (frames_back l p) (subst (λ z. Exchanges apart (map encode_frame (frames_of l)) z) (frames_back r q) (exchanges_words (all_in_range l p) x))
