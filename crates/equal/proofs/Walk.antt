-- Laws of the walk, one for each way that a turn of its loop can go.
use Rattle.std.specs.Prelude.{Ok, true, false}
use Prim.Native.Nat.{ℕ, suc, ◌+◌, ◌≤◌, ◌<◌}
use mathlib.Core.Path.{◌≡◌, refl, sym, ap, subst}
use mathlib.Core.Logic.{◌↔◌}
use mathlib.Core.Bool.{Bool, cond}
use mathlib.Core.List.{List, ◌∷◌}
use native.Mathlib.Omega.{arith}
use native.Mathlib.Numerals.{add-one}
use lib.Dec.{eqb}
use lib.ListN.{length, get_or, set, drop, replicate, length-set, drop_of_length-le}
use lib.Seq.{drop-cons}
use Rattle.frame.specs.Limits.{thread_count}
use Rattle.laws.proofs.Logic.{either}
use Rattle.laws.proofs.Lists.{get_or_filled, get_or_stored}
use Rattle.frame.proofs.Laws.{decoded_in_range}
use Rattle.frame.specs.Frame.{decode_word, InRange}
use Rattle.frame.specs.declared.Frame.{Frame}
use Rattle.exchange.proofs.Frames.{apart}
use Rattle.exchange.proofs.Match.{Raised, rest, Well, Fits, rest_all, well_start, well_fits, well_on, well_back, well_end, fits_length}
use Rattle.exchange.specs.Independent.{clash}
use Rattle.exchange.specs.Exchange.{Exchanges, frame_in, frame_of}
use Rattle.soundness.specs.Soundness.{check_reply}
use Rattle.equal.specs.Equal.{sound, equal_words}
use Rattle.matching.specs.declared.Lasts.{Lasts}
use Rattle.matching.specs.Places.{thread_of, word_at, FoundIn, no_lasts, last_at, with_last}
use Rattle.equal.proofs.Exchanges.{yes, no}
use Rattle.equal.proofs.Lasts.{none_last, Kept, kept_start, raised, kept_on}

-- The arrays as functions of threads and of words.
abbrev next_in : List ℕ → ℕ → ℕ
next_in ns u = get_or ns u 0

abbrev last_in : Lasts → ℕ → ℕ
last_in c w = last_at (frame_of w).action c

abbrev clashing : ℕ → ℕ → Bool
clashing w v = clash (frame_of w).action (frame_of v).action

-- Where the loop of `same` stands: whether all goes well with what is left decides, and as much is left of the one as of the other.
pub record Walking (l r : List ℕ) (i : ℕ) (ns : List ℕ) (c : Lasts) : Type 0 where
  pub within : i ≤ length l
  pub same : Well thread_of clashing (word_at r) (length r) (next_in ns) (last_in c) (drop i l) ↔ Exchanges apart l r
  pub left : length (rest thread_of (word_at r) (next_in ns) (length r) 0) + i ≡ length l
  pub threads : length ns ≡ thread_count
  pub starts : (u : ℕ) → next_in ns u ≤ length r
  pub kept : Kept c

pub walk_start : (l r : List ℕ) → length l ≡ length r → Walking l r 0 (replicate thread_count 0) no_lasts
walk_start l r e = record {
  within = omega arith;
  same = well_start thread_of clashing r 0 _ _ (λ u. get_or_filled thread_count u 0) (λ w. none_last (frame_of w).action) l;
  left = rw (rest_all thread_of clashing r 0 (next_in (replicate thread_count 0)) (λ w. 0) (λ u. get_or_filled thread_count u 0) (λ w. refl)) (omega arith);
  threads = refl;
  starts = λ u. omega (arith, get_or_filled thread_count u 0);
  kept = kept_start;
}

pub walk_end : {l r : List ℕ} {i : ℕ} {ns : List ℕ} {c : Lasts} → check_reply l ≡ sound → Walking l r i ns c → length l ≤ i → equal_words l r ≡ true
walk_end {l} {r} {i} {ns} {c} p k h =
    yes l r p (k.same.0 (rw (drop_of_length-le l h) (well_end thread_of clashing (word_at r) (length r) (next_in ns) (last_in c) (omega (arith, k.left)))))

-- The turn at the frame f, whose next of its thread stands at p.
module _ {l r : List ℕ} {i : ℕ} {ns : List ℕ} {c : Lasts} (k : Walking l r i ns c) (h : i < length l) {f : Frame} (e : decode_word (word_at l i) ≡ Ok f)
    {p : ℕ} (found : FoundIn r f.thread.0 (next_in ns f.thread.0) p) where
  is : f ≡ frame_of (word_at l i)
  is = sym (ap frame_in e)

  here : FoundIn r (thread_of (word_at l i)) (next_in ns (thread_of (word_at l i))) p
  here = subst (λ g. FoundIn r g.thread.0 (next_in ns g.thread.0) p) is found

  opened : drop i l ≡ word_at l i ∷ drop (suc i) l
  opened = drop-cons l i 0 h

  abbrev Fit : Type 0
  Fit = Fits thread_of clashing (word_at r) (length r) (next_in ns) (last_in c) (word_at l i) p here

  fits : Exchanges apart l r → Fit
  fits x = well_fits thread_of clashing (word_at r) (length r) (next_in ns) (last_in c) (word_at l i) p here (drop (suc i) l) (rw opened at (k.same.1 x))

  pub missing : length r ≤ p → equal_words l r ≡ false
  missing q = no l r (λ x. omega (arith, (fits x).inside))

  pub words_differ : (word_at r p ≡ word_at l i → ⊥) → equal_words l r ≡ false
  words_differ q = no l r (λ x. q (sym (fits x).is))

  pub too_early : p + 1 ≤ last_at f.action c → equal_words l r ≡ false
  too_early q = no l r (λ x. omega (arith, (fits x).after, rw is at q))

  range : InRange (frame_of (word_at l i))
  range = subst InRange is (decoded_in_range (word_at l i) f e)

  moved : (u : ℕ) → next_in (set ns (thread_of (word_at l i)) (suc p)) u ≡ cond (eqb (thread_of (word_at l i)) u) (suc p) (next_in ns u)
  moved u = get_or_stored ns (thread_of (word_at l i)) (suc p) u (omega (arith, k.threads, range.thread))

  raising : last_in c (word_at l i) ≤ p → Raised clashing (last_in c) (last_in (with_last (frame_of (word_at l i)).action (suc p) c)) (word_at l i) p
  raising b g = raised p c k.kept (frame_of (word_at l i)).action (frame_of g).action range.object b

  turn : Fit → Walking l r (suc i) (set ns (thread_of (word_at l i)) (suc p)) (with_last (frame_of (word_at l i)).action (suc p) c)
  turn s = record {
    within = h;
    same = (
      λ g. k.same.0 (rw opened (well_back thread_of clashing (word_at r) (length r) (next_in ns) (last_in c) (word_at l i) p here _ _ moved (raising s.after) (drop (suc i) l) s g)),
      λ x. well_on thread_of clashing (word_at r) (length r) (next_in ns) (last_in c) (word_at l i) p here _ _ moved (raising s.after) (drop (suc i) l) (rw opened at (k.same.1 x)),
    );
    left = omega (arith, k.left, fits_length thread_of clashing (word_at r) (length r) (next_in ns) (last_in c) (word_at l i) p here s (next_in (set ns (thread_of (word_at l i)) (suc p))) moved);
    threads = simp length-set k.threads;
    starts = λ u. rw (moved u) (either (λ x. x ≤ length r) (eqb (thread_of (word_at l i)) u) s.inside (k.starts u));
    kept = kept_on p c k.kept (frame_of (word_at l i)).action range.object;
  }

  pub go_on : {c' : Lasts} → p < length r → word_at r p ≡ word_at l i → last_at f.action c < p + 1 → c' ≡ with_last f.action (p + 1) c
      → Walking l r (i + 1) (set ns f.thread.0 (p + 1)) c'
  go_on h q b u = rw (u, is, add-one i, add-one p) (turn (record { inside = h; is = sym q; after = omega (arith, rw is at b) }))
