-- Laws of written text: nothing, one byte, one text behind another, and a text that there is room for.
use Prim.Native.Nat.{ℕ, zero, suc, ◌+◌, ◌/◌, ◌%◌, ◌<◌, ◌≤◌}
use mathlib.Core.Path.{◌≡◌, refl, sym, ap, ◌∙◌}
use mathlib.Core.List.{List, [], ◌∷◌, ◌++◌}
use native.Mathlib.Omega.{arith}
use native.Mathlib.Numerals.{add-one}
use lib.ListN.{length, set, take, drop, length-set}
use lib.Seq.{append_snoc, sets, sets-eq}
use borrow.Author.Tests.{lt-ltb, le-ltb, ne_eqb}
use Rattle.laws.proofs.Lists.{drop_stored}
use Rattle.std.specs.Borrow.{MutBor}
use Rattle.output.specs.declared.Text.{Text}
use Rattle.output.specs.Output.{after, behind, written, Over, MovedTo, Appended, decimal_digits}

pub after_room : (n at : ℕ) → at < n → after n at ≡ at + 1
unfolding after
after_room n at h = rw (lt-ltb at n h) (sym (add-one at))

pub after_full : (n at : ℕ) → n ≤ at → after n at ≡ at
unfolding after
after_full n at h = rw (le-ltb at n h)

pub length_written : (b : List ℕ) (at : ℕ) (t : List ℕ) → length (written b at t) ≡ length b
unfolding written
length_written b at [] = refl
length_written b at (c ∷ t) = length_written (set b at c) (after (length b) at) t ∙ length-set b at c

pub appended_none : (text : Text) → Appended text text []
unfolding behind written
appended_none text = record { same_buffer = refl; place = refl; contents = refl }

behind_more : (n at : ℕ) (s t : List ℕ) → behind n at (s ++ t) ≡ behind n (behind n at s) t
unfolding behind
behind_more n at [] t = refl
behind_more n at (c ∷ s) t = behind_more n (after n at) s t

written_more : (b : List ℕ) (at : ℕ) (s t : List ℕ) → written b at (s ++ t) ≡ written (written b at s) (behind (length b) at s) t
unfolding behind written
written_more b at [] t = refl
written_more b at (c ∷ s) t =
    written_more (set b at c) (after (length b) at) s t
    ∙ ap (λ (n : ℕ). written (written (set b at c) (after (length b) at) s) (behind n (after (length b) at) s) t) (length-set b at c)

-- one text behind another
pub appended_more : {a b c : Text} {s t : List ℕ} → Appended a b s → Appended b c t → Appended a c (s ++ t)
appended_more {a} {b} {c} {s} {t} x y =
    let n = length a.buffer.now in record {
      same_buffer = y.same_buffer ∙ x.same_buffer;
      place = y.place ∙ rw (x.contents, x.place, length_written a.buffer.now a.at s) (sym (behind_more n a.at s t));
      contents = y.contents ∙ rw (x.contents, x.place) (sym (written_more a.buffer.now a.at s t));
    }

-- what stands in a lent buffer that a text is written to from its start
pub record Put (b : List ℕ) (t : List ℕ) (b' : List ℕ) (n : ℕ) : Type 0 where
  pub place : n ≡ behind (length b) 0 t
  pub contents : b' ≡ written b 0 t

pub put_over : {b : MutBor (List ℕ)} {empty text : Text} {t : List ℕ} → Over b empty → Appended empty text t → Put b.now t text.buffer.now text.at
put_over o x = record { place = x.place ∙ rw (o.contents, o.place) refl; contents = x.contents ∙ rw (o.contents, o.place) refl }

-- what stands in a lent buffer that a text is written to from place n on
pub put_moved : {b : MutBor (List ℕ)} {empty moved text : Text} {n : ℕ} {t : List ℕ} → Over b empty → MovedTo empty moved n → Appended moved text t
    → text.buffer.now ≡ written b.now n t
put_moved o m x = x.contents ∙ rw (m.contents, o.contents, m.place) refl

-- one more digit stored in front of those stored before
pub digit_stored : (d : List ℕ) (j v : ℕ) → j < length d → 0 < v
    → decimal_digits (j + 1) v ++ drop (j + 1) d ≡ decimal_digits j (v / 10) ++ drop j (set d j (v % 10 + 48))
unfolding decimal_digits
digit_stored d j v h p =
    let x = v % 10 + 48 in
    rw (drop_stored d j x h, add-one j, ne_eqb v 0 (λ (z : v ≡ 0). absurd (omega arith))) (append_snoc (decimal_digits j (v / 10)) x (drop (suc j) d))

-- no digits are left of 0
pub digits_none : (k v : ℕ) → v ≤ 0 → decimal_digits k v ≡ []
unfolding decimal_digits
digits_none zero v h = refl
digits_none (suc k) v h = let e : v ≡ 0 = omega arith in rw e

-- no place is left for digits
pub digits_full : (k v : ℕ) → k ≡ 0 → decimal_digits k v ≡ []
unfolding decimal_digits
digits_full k v e = rw e

-- where there is room for a text, the place is behind its last byte
pub behind_room : (n at : ℕ) (t : List ℕ) → at + length t ≤ n → behind n at t ≡ at + length t
unfolding behind
behind_room n at [] h = omega arith
behind_room n at (c ∷ t) h = rw (after_room n at (omega arith)) (behind_room n (at + 1) t (omega arith) ∙ omega arith)

written_sets : (b : List ℕ) (at : ℕ) (t : List ℕ) → at + length t ≤ length b → written b at t ≡ sets b at t
unfolding written
written_sets b at [] h = refl
written_sets b at (c ∷ t) h =
    rw (after_room (length b) at (omega arith), add-one at) (written_sets (set b at c) (suc at) t (omega (arith, length-set b at c)))

-- and the text stands there whole, between what stood before and behind
pub written_room : (b : List ℕ) (at : ℕ) (t : List ℕ) → at + length t ≤ length b → written b at t ≡ take at b ++ t ++ drop (at + length t) b
written_room b at t h = written_sets b at t h ∙ sets-eq t b at h

-- a text that is no longer than the buffer, written from its start
pub put_fits : (b t : List ℕ) → length t ≤ length b → (behind (length b) 0 t ≡ length t) × (written b 0 t ≡ t ++ drop (length t) b)
put_fits b t h =
    let z : 0 + length t ≡ length t = omega arith in
    (behind_room (length b) 0 t (omega arith) ∙ z, rw z at (written_room b 0 t (omega arith)))
