-- Where the loop of `find` stands, and the ways that its turn can go.
use Rattle.std.specs.Prelude.{Ok}
use Prim.Native.Nat.{ℕ, ◌+◌, ◌≤◌, ◌<◌, ◌/◌, ◌%◌}
use mathlib.Core.Path.{◌≡◌, refl, sym, ap, ◌∙◌, subst}
use mathlib.Core.Bool.{Bool, true, false}
use mathlib.Core.List.{List}
use native.Mathlib.Omega.{arith}
use borrow.Author.Tests.{eqb-true, eqb-false}
use lib.Dec.{eqb}
use lib.ListN.{length}
use Rattle.frame.proofs.Laws.{shown}
use Rattle.frame.specs.Frame.{decode_word}
use Rattle.soundness.specs.Soundness.{check_reply}
use Rattle.exchange.proofs.Frames.{sound_decodes}
use Rattle.exchange.specs.Exchange.{frame_of}
use Rattle.matching.specs.Places.{thread_of, word_at, FoundIn}

-- the thread is the word's second byte
thread_byte : (w : ℕ) → decode_word w ≡ Ok (frame_of w) → thread_of w ≡ w / 65536 % 256
thread_byte w e = ap (λ f. f.thread.0) (shown (w / 16777216) (w / 65536 % 256) (w % 65536) (frame_of w) e).frame

pub record Passing (ws : List ℕ) (t from i : ℕ) : Type 0 where
  pub onward : from ≤ i
  pub within : i ≤ length ws
  pub passed : (k : ℕ) → from ≤ k → k < i → thread_of (word_at ws k) ≡ t → ⊥

module _ {ws : List ℕ} {t from i : ℕ} (s : check_reply ws ≡ (Ok tt)) (p : Passing ws t from i) where
  pub passing_more : i < length ws → (word_at ws i / 65536 % 256 ≡ t → ⊥) → Passing ws t from (i + 1)
  passing_more h n = record { onward = omega (arith, p.onward); within = omega arith; passed = λ k a b. go k a b (eqb k i) refl }
    where
      go : (k : ℕ) → from ≤ k → k < i + 1 → (b : Bool) → eqb k i ≡ b → thread_of (word_at ws k) ≡ t → ⊥
      go k a b true q e = n (sym (thread_byte (word_at ws i) (sound_decodes ws s i h)) ∙ subst (λ j. thread_of (word_at ws j) ≡ t) (eqb-true k i q) e)
      go k a b false q e = p.passed k a (omega (arith, eqb-false k i q)) e

  pub passed_mine : i < length ws → word_at ws i / 65536 % 256 ≡ t → FoundIn ws t from i
  passed_mine h e = record { onward = p.onward; within = p.within; passed = p.passed; mine = λ _. thread_byte (word_at ws i) (sound_decodes ws s i h) ∙ e }

  pub passed_all : length ws ≤ i → FoundIn ws t from (length ws)
  passed_all h = record {
    onward = omega (arith, p.onward, p.within);
    within = omega arith;
    passed = λ k a b. p.passed k a (omega arith);
    mine = λ g. absurd (omega arith);
  }
