-- A unit frame by frame: what a word shows of its frame, and the laws of a turn over a unit.
use Rattle.std.specs.Prelude.{Ok}
use Prim.Native.Nat.{ℕ, ◌+◌, ◌/◌, ◌%◌, ◌<◌, ◌≤◌}
use mathlib.Core.Path.{◌≡◌, refl, ap}
use mathlib.Core.Bool.{cond}
use mathlib.Core.List.{List, [], ◌∷◌}
use native.Mathlib.Omega.{arith}
use native.Mathlib.Numerals.{add-one}
use borrow.Author.Tests.{eq-eqb, ne_eqb}
use lib.Dec.{eqb}
use lib.ListN.{length, get_or, drop, drop_of_length-le}
use lib.Seq.{drop-cons}
use Rattle.laws.proofs.Logic.{either}
use Rattle.frame.specs.Frame.{action_of, decode_word}
use Rattle.frame.specs.declared.Thread.{Thread}
use Rattle.frame.proofs.Laws.{shown, Operation, acquire, release, read, write, begin, end, operation}
use Rattle.soundness.specs.Soundness.{nest, check_reply}
use Rattle.exchange.specs.Exchange.{frame_of}
use Rattle.exchange.proofs.Frames.{Decodes, sound_decodes}
use Rattle.serial.specs.Walk.{mine, other, own_frame, depth_by, unit_from}

-- the depth by an operation is that by its action, and one deeper at most
nest_by : {op : ℕ} → Operation op → (o d : ℕ) → nest d (action_of op o) ≡ depth_by op d
nest_by acquire o d = refl
nest_by release o d = refl
nest_by read o d = refl
nest_by write o d = refl
nest_by begin o d = refl
nest_by end o d = refl

pub by_low : (op d : ℕ) → depth_by op d ≤ d + 1
by_low op d = either (λ (x : ℕ). x ≤ d + 1) (eqb op 5) (omega arith) (either (λ (x : ℕ). x ≤ d + 1) (eqb op 6) (omega arith) (omega arith))

-- the operation and the thread of a word that decodes are those of its frame
own_word : (w : ℕ) → Decodes w → (t : Thread) (d : ℕ)
    → own_frame (decode_word w) t d ≡ cond (eqb (w / 65536 % 256) t.0) (mine (depth_by (w / 16777216) d)) other
own_word w e t d =
    let s = shown (w / 16777216) (w / 65536 % 256) (w % 65536) (frame_of w) e in
    let p = nest_by (operation (w / 16777216) s.low s.high) (w % 65536) d in
    rw (e, s.frame) (ap (λ (x : ℕ). cond (eqb (w / 65536 % 256) t.0) (mine x) other) p)

-- A turn of the loop over a unit, over any element type: the frame at place i, of which the element is x, is of another thread or of this one.
module _ {A : Type 0} (ws : List ℕ) (xs : List A) {x : A} (i : ℕ) (s : check_reply ws ≡ (Ok tt)) (h : i < length ws) (g : drop i xs ≡ x ∷ drop (i + 1) xs)
    (t : Thread) (d : ℕ) where
  seen : own_frame (decode_word (get_or ws i 0)) t d ≡ cond (eqb (get_or ws i 0 / 65536 % 256) t.0) (mine (depth_by (get_or ws i 0 / 16777216) d)) other
  seen = own_word (get_or ws i 0) (sound_decodes ws s i h) t d

  pub other_turn : (get_or ws i 0 / 65536 % 256 ≡ t.0 → ⊥) → unit_from t d (drop i ws) (drop i xs) ≡ unit_from t d (drop (i + 1) ws) (drop (i + 1) xs)
  unfolding unit_from
  other_turn e = rw (drop-cons ws i 0 h, g, seen, ne_eqb _ _ e, add-one i)

  pub own_turn : get_or ws i 0 / 65536 % 256 ≡ t.0 → unit_from t d (drop i ws) (drop i xs)
      ≡ x ∷ cond (eqb (depth_by (get_or ws i 0 / 16777216) d) 0) [] (unit_from t (depth_by (get_or ws i 0 / 16777216) d) (drop (i + 1) ws) (drop (i + 1) xs))
  unfolding unit_from
  own_turn e = rw (drop-cons ws i 0 h, g, seen, eq-eqb _ _ e, add-one i)

-- the end of the recording
pub unit_over : {A : Type 0} (ws : List ℕ) (xs : List A) (t : Thread) (d i : ℕ) → length ws ≤ i → unit_from t d (drop i ws) (drop i xs) ≡ []
unfolding unit_from
unit_over ws xs t d i h = rw (drop_of_length-le ws h)
