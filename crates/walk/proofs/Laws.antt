-- What a walk leaves in a table of words is the order of the words, and in a table of displacements what `moved` has.
use Rattle.std.specs.Prelude.{Result, Ok, Err, Option, Some, None}
use Prim.Native.Nat.{ℕ, ◌+◌, ◌≤◌}
use mathlib.Core.Path.{◌≡◌, refl, sym, ap, ◌∙◌}
use mathlib.Core.Bool.{Bool, true, false, cond}
use mathlib.Core.List.{List, [], ◌∷◌, ◌++◌, map, map-append, append_assoc}
use native.Mathlib.Omega.{arith}
use lib.Dec.{eqb}
use lib.IntN.{ℤ}
use lib.ListN.{length, get_or, take, drop, set, length-map, length-append}
use lib.Seq.{length-take-le}
use Rattle.std.proofs.lemmas.List.{drop-map}
use Rattle.laws.proofs.Written.{Written, written_none, written_one, written_out, written_whole, room}
use Rattle.frame.specs.Frame.{decode_word}
use Rattle.frame.specs.declared.Frame.{Frame}
use Rattle.frame.specs.declared.Refusal.{Refusal}
use Rattle.frame.specs.declared.Thread.{Thread}
use Rattle.commit.specs.Commit.{start_units, visited, unit_start}
use Rattle.commit.specs.declared.Units.{Units}
use Rattle.serial.specs.Walk.{Own, mine, other, on_own, own_frame, unit_from, unit_of, unit_in, on_frame, walk_from, walk_of, walk_words}
use Rattle.displacement.specs.Displacement.{places, displacement, moved}
use Rattle.displacement.proofs.Places.{places_made}
use Rattle.walk.specs.Laid.{put_word, put_move, laid}

-- A walk over what a function makes of the elements.
module _ {A B : Type 0} (g : A → B) where
  map_unit : (t : Thread) (d : ℕ) (ws : List ℕ) (xs : List A) → map g (unit_from t d ws xs) ≡ unit_from t d ws (map g xs)
  unfolding unit_from
  map_unit t d [] xs = refl
  map_unit t d (w ∷ ws) [] = refl
  map_unit t d (w ∷ ws) (x ∷ xs) = go (own_frame (decode_word w) t d) (λ e. map_unit t e ws xs)
    where
      last : (e : ℕ) (z : Bool) → map g (unit_from t e ws xs) ≡ unit_from t e ws (map g xs)
          → map g (x ∷ cond z [] (unit_from t e ws xs)) ≡ g x ∷ cond z [] (unit_from t e ws (map g xs))
      last e true ih = refl
      last e false ih = ap (λ (l : List B). g x ∷ l) ih

      go : (o : Own) → ((e : ℕ) → map g (unit_from t e ws xs) ≡ unit_from t e ws (map g xs))
          → map g (on_own o x d (λ e. unit_from t e ws xs)) ≡ on_own o (g x) d (λ e. unit_from t e ws (map g xs))
      go other ih = ih d
      go (mine e) ih = last e (eqb e 0) (ih e)

  map_unit_in : (m : Option ℕ) (all : List ℕ) (xs : List A) (t : Thread) → map g (unit_in m all xs t) ≡ unit_in m all (map g xs) t
  unfolding unit_of
  map_unit_in (Some b) all xs t = map_unit t 0 (drop b all) (drop b xs) ∙ ap (unit_from t 0 (drop b all)) (sym (drop-map g b xs))
  map_unit_in None all xs t = refl

  map_walk : (guards all : List ℕ) (xs : List A) (i : ℕ) (x : Units) (ws : List ℕ) → map g (walk_from guards all xs i x ws) ≡ walk_from guards all (map g xs) i x ws
  unfolding walk_from
  map_walk guards all xs i x [] = refl
  map_walk guards all xs i x (w ∷ ws) = go (decode_word w) (λ f. map_walk guards all xs (i + 1) (visited guards i f x) ws)
    where
      go : (r : Result Frame Refusal)
          → ((f : Frame) → map g (walk_from guards all xs (i + 1) (visited guards i f x) ws) ≡ walk_from guards all (map g xs) (i + 1) (visited guards i f x) ws)
          → map g (on_frame r λ f. unit_in (unit_start guards i f x) all xs f.thread ++ walk_from guards all xs (i + 1) (visited guards i f x) ws)
          ≡ on_frame r λ f. unit_in (unit_start guards i f x) all (map g xs) f.thread ++ walk_from guards all (map g xs) (i + 1) (visited guards i f x) ws
      go (Err r) ih = refl
      go (Ok f) ih =
          map-append g (unit_in (unit_start guards i f x) all xs f.thread) (walk_from guards all xs (i + 1) (visited guards i f x) ws)
          ∙ rw (map_unit_in (unit_start guards i f x) all xs f.thread, ih f)

abbrev word_at : List ℕ → ℕ → ℕ
word_at ws p = get_or ws p 0

-- the words at the places are the words
walk_made : (guards ws : List ℕ) → map (word_at ws) (walk_of guards ws (places ws)) ≡ walk_words guards ws
walk_made guards ws =
    map_walk (word_at ws) guards ws (places ws) 0 start_units ws
    ∙ ap (λ (xs : List ℕ). walk_from guards ws xs 0 start_units ws) (places_made ws ws refl)

words_put : (ws : List ℕ) {out₀ whole : List ℕ} (ps : List ℕ) {out : List ℕ} {n : ℕ} → Written out₀ out n whole (map (word_at ws) ps) → length whole ≤ length out₀
    → Written out₀ (laid put_word ws n ps out) (n + length ps) whole []
unfolding laid
words_put ws [] {out = out} {n = n} w h = let e : n ≡ n + 0 = omega arith in rw (← e) w
words_put ws (p ∷ ps) {out = out} {n = n} w h =
    let e : n + 1 + length ps ≡ n + length (p ∷ ps) = omega arith in
    rw (← e) (words_put ws ps (written_one w (omega (arith, room w h))) h)

-- Frames whose places are given, put into a table of words from place k on: their words, behind what stands before place k.
pub laid_words_at : (ws : List ℕ) (k : ℕ) (ps : List ℕ) (out : List ℕ) → k + length ps ≤ length out
    → laid put_word ws k ps out ≡ take k out ++ (map (word_at ws) ps ++ drop (k + length ps) out)
laid_words_at ws k ps out h =
    let first : Written out out k (take k out ++ map (word_at ws) ps) (map (word_at ws) ps) = record { long = refl; within = omega arith; front = refl; behind = refl } in
    written_out (words_put ws ps first
    (omega (arith, length-append (take k out) (map (word_at ws) ps), length-take-le k out (omega arith), length-map ps (word_at ws))))
    ∙ append_assoc (take k out) (map (word_at ws) ps) (drop (k + length ps) out)

-- The unit of thread t that starts at a place, or at a mark (where there is none, no unit does): as long over the places as over the words, and
-- put into a table of words from place k on, its words.
module _ (ws : List ℕ) (t : Thread) where
  start_made : (m : Option ℕ) → map (word_at ws) (unit_in m ws (places ws) t) ≡ unit_in m ws ws t
  start_made m = map_unit_in (word_at ws) m ws (places ws) t ∙ ap (λ (xs : List ℕ). unit_in m ws xs t) (places_made ws ws refl)

  pub start_length : (m : Option ℕ) → length (unit_in m ws (places ws) t) ≡ length (unit_in m ws ws t)
  start_length m = sym (length-map (unit_in m ws (places ws) t) (word_at ws)) ∙ ap length (start_made m)

  pub laid_start_words : (m : Option ℕ) (k : ℕ) (out : List ℕ) → k + length (unit_in m ws ws t) ≤ length out
      → laid put_word ws k (unit_in m ws (places ws) t) out ≡ take k out ++ (unit_in m ws ws t ++ drop (k + length (unit_in m ws ws t)) out)
  laid_start_words m k out h =
      laid_words_at ws k (unit_in m ws (places ws) t) out (omega (arith, h, start_length m)) ∙ rw (start_made m, start_length m)

  pub unit_length : (b : ℕ) → length (unit_of ws (places ws) b t) ≡ length (unit_of ws ws b t)
  unit_length b = start_length (Some b)

  pub laid_unit_words : (b k : ℕ) (out : List ℕ) → k + length (unit_of ws ws b t) ≤ length out
      → laid put_word ws k (unit_of ws (places ws) b t) out ≡ take k out ++ (unit_of ws ws b t ++ drop (k + length (unit_of ws ws b t)) out)
  laid_unit_words b = laid_start_words (Some b)

pub walk_length : (guards ws : List ℕ) → length (walk_of guards ws (places ws)) ≡ length (walk_words guards ws)
walk_length guards ws = sym (length-map (walk_of guards ws (places ws)) (word_at ws)) ∙ ap length (walk_made guards ws)

-- a table of words
pub laid_words : (guards ws out : List ℕ) → length (walk_words guards ws) ≤ length out
    → laid put_word ws 0 (walk_of guards ws (places ws)) out ≡ walk_words guards ws ++ drop (length (walk_words guards ws)) out
laid_words guards ws out h = written_whole (words_put ws (walk_of guards ws (places ws))
    (rw (walk_made guards ws) (written_none out (walk_words guards ws))) h)

-- a table of displacements
pub laid_moves : (ws : List ℕ) (k : ℕ) (ps : List ℕ) (out : List ℤ) → laid put_move ws k ps out ≡ moved k ps out
unfolding laid moved
laid_moves ws k [] out = refl
laid_moves ws k (p ∷ ps) out = laid_moves ws (k + 1) ps (set out p (displacement k p))
