-- A list is accepted exactly if it is `Listed`. Line order has no meaning: the lines of a rearranged list are those of the list, so it is
-- accepted, with the same table. The first bytes decide, as they do of a text.
use Rattle.std.specs.Prelude.{Some}
use Prim.Native.Nat.{ℕ, zero, suc, ◌+◌, ◌-◌, ◌*◌, ◌<◌}
use mathlib.Core.Path.{◌≡◌, refl, sym, ap, ◌∙◌, subst, fun_ext}
use mathlib.Core.Bool.{Bool, true, false, cond}
use mathlib.Core.List.{List}
use native.Mathlib.Omega.{arith}
use lib.ListN.{length, take, drop, length-drop}
use lib.Seq.{length-take-le, get_or-take, get_or-drop, take-take}
use lib.Dec.{ltb, leb}
use borrow.Author.Tests.{le-ltb, ltb-true, ltb-false}
use Rattle.frame.specs.Limits.{most_frames}
use Rattle.digits.specs.Digits.{line_of}
use Rattle.text.specs.Text.{word_in, word_at, most_bytes}
use Rattle.text.proofs.Front.{line_front, end_front}
use Rattle.guards.specs.Guards.{guard_variable, lines, guard_line, on_guard_line, guards_from, no_guards}
use Rattle.guards.specs.declared.GuardsRead.{GuardsRead}
use Rattle.guards.specs.Listed.{Listed, AcceptedIfListed, line_bytes, Rearranged, LineOrderHasNoMeaning, FirstBytesDecideLists}
use Rattle.guards.proofs.Laws.{guards_listed, guards_accepts, line_order}

-- "A guard list names each variable at most once"
pub accepted_if_listed : AcceptedIfListed
accepted_if_listed s n = (guards_listed s n, guards_accepts s n)

-- a line by its nine bytes
line_by : (s : List ℕ) (i n : ℕ) → length s ≡ 9 * n → i < n → line_of s (9 * i) ≡ line_of (line_bytes s i) 0
unfolding line_of
line_by s i n e h =
    let d : length (drop (9 * i) s) ≡ length s - 9 * i = length-drop (9 * i) s in
    let l : length (line_bytes s i) ≡ 9 = length-take-le 9 (drop (9 * i) s) (omega arith) in
    rw (
      le-ltb (length s - 9 * i) 9 (omega arith),
      le-ltb (length (line_bytes s i) - 0) 9 (omega arith),
      get_or-take 9 (drop (9 * i) s) 8 0 (omega arith),
      get_or-drop (9 * i) s 8 0,
      take-take 8 9 (drop (9 * i) s) (omega arith),
    )

-- the lines at two places with the same nine bytes
same_line : (s t : List ℕ) (i j n : ℕ) → length s ≡ 9 * n → length t ≡ 9 * n → i < n → j < n → line_bytes t j ≡ line_bytes s i
    → line_of t (9 * j) ≡ line_of s (9 * i)
same_line s t i j n e u h l b = line_by t j n u l ∙ ap (λ (x : List ℕ). line_of x 0) b ∙ sym (line_by s i n e h)

module _ (s t : List ℕ) (n : ℕ) (r : Rearranged s t n) where
  there : (i : ℕ) → i < n → line_of t (9 * r.to i) ≡ line_of s (9 * i)
  there i h = same_line s t i (r.to i) n r.size_s r.size_t h (r.to_within i h) (r.same i h)

  back : (j : ℕ) → j < n → line_of t (9 * j) ≡ line_of s (9 * r.from j)
  back j h = subst (λ (k : ℕ). line_of t (9 * k) ≡ line_of s (9 * r.from j)) (r.to_from j h) (there (r.from j) (r.from_within j h))

  word_there : (i : ℕ) → i < n → word_at t (r.to i) ≡ word_at s i
  unfolding word_at
  word_there i h = ap word_in (there i h)

  word_back : (j : ℕ) → j < n → word_at t j ≡ word_at s (r.from j)
  unfolding word_at
  word_back j h = ap word_in (back j h)

  listed : Listed s n → Listed t n
  listed a = record {
    size = r.size_t;
    line_at = λ j h. back j h ∙ a.line_at (r.from j) (r.from_within j h) ∙ ap Some (sym (word_back j h));
    variables = λ j h. rw (word_back j h) (a.variables (r.from j) (r.from_within j h));
    locks = λ j h. rw (word_back j h) (a.locks (r.from j) (r.from_within j h));
    distinct = λ i j l h e. apart (r.from i) (r.from j) (r.from_within i (omega arith)) (r.from_within j h)
        (λ q. omega (arith, sym (r.to_from i (omega arith)) ∙ ap r.to q ∙ r.to_from j h))
        (sym (ap guard_variable (word_back j h)) ∙ e ∙ ap guard_variable (word_back i (omega arith)));
  }
    where
      apart : (i j : ℕ) → i < n → j < n → (i ≡ j → ⊥) → guard_variable (word_at s j) ≡ guard_variable (word_at s i) → ⊥
      apart i j h l d e = go (ltb i j) refl
        where
          go : (b : Bool) → ltb i j ≡ b → ⊥
          go true q = a.distinct i j (ltb-true i j q) l e
          go false q = a.distinct j i (omega (arith, ltb-false i j q, d)) h (sym e)

-- "Line order in it has no meaning"
pub line_order_has_no_meaning : LineOrderHasNoMeaning
line_order_has_no_meaning s t n r e =
    let u = guards_accepts t n (listed s t n r (guards_listed s n e)) in
    (u, sym (line_order s t n n e u r.to (λ i h. (r.to_within i h, word_there s t n r i h)) r.from (λ j h. (r.from_within j h, sym (word_back s t n r j h)))))

-- the lines from line i on, of the first bytes
guards_front : (k : ℕ) (s : List ℕ) (n i : ℕ) (g : List ℕ) → 9 * (i + k) < n → guards_from k (take n s) i g ≡ guards_from k s i g
unfolding guards_from
guards_front zero s n i g h = rw (end_front s n (9 * i) (omega arith))
guards_front (suc k) s n i g h =
    rw (end_front s n (9 * i) (omega arith), line_front s n (9 * i) (omega arith))
    (ap (λ (more : List ℕ → GuardsRead). cond (leb (length s) (9 * i)) (lines i g) (on_guard_line (guard_line (line_of s (9 * i))) i g more))
    (fun_ext λ t. guards_front k s n (i + 1) t (omega arith)))

pub first_bytes_decide_lists : FirstBytesDecideLists
first_bytes_decide_lists s = guards_front most_frames s (most_bytes + 1) 0 no_guards (omega arith)
