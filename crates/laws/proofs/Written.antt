-- A buffer that is written from its front.
use Prim.Native.Nat.{ℕ, ◌+◌, ◌-◌, ◌<◌, ◌≤◌}
use mathlib.Core.Path.{◌≡◌, ◌∙◌, sym, ap, refl, subst}
use mathlib.Core.List.{List, [], ◌∷◌, ◌++◌, append_assoc, append-nil}
use native.Mathlib.Omega.{arith}
use native.Mathlib.Numerals.{add-one}
use lib.ListN.{length, take, drop, set, length-set, length-append, length-drop, take-append-drop, drop_of_length-le}
use lib.Seq.{take-suc-set, drop-set-lt, append_snoc, drop-drop, drop_at, take_at, take_all, length-take-le}

-- of the words whole, the first n stand at the front of out, the words rest are still to come, and behind n out is as it was
pub record Written (out₀ out : List ℕ) (n : ℕ) (whole rest : List ℕ) : Type 0 where
  pub long : length out ≡ length out₀
  pub within : n ≤ length out
  pub front : whole ≡ take n out ++ rest
  pub behind : drop n out ≡ drop n out₀

pub written_none : (out whole : List ℕ) → Written out out 0 whole whole
written_none out whole = record { long = refl; within = omega arith; front = refl; behind = refl }

module _ {out₀ out whole rest : List ℕ} {n : ℕ} where
  -- what is to come has room
  pub room : Written out₀ out n whole rest → length whole ≤ length out₀ → n + length rest ≤ length out
  room w h =
      omega (arith, w.long, ap length w.front, length-append (take n out) rest, length-take-le n out w.within)

module _ {out₀ out whole : List ℕ} {n : ℕ} where
  pub written_all : Written out₀ out n whole [] → n ≡ length whole
  written_all w = omega (arith, ap length w.front, length-append (take n out) [], length-take-le n out w.within)

  pub written_out : Written out₀ out n whole [] → out ≡ whole ++ drop n out₀
  written_out w = sym (take-append-drop n out) ∙ ap (λ (l : List ℕ). take n out ++ l) w.behind ∙ ap (λ (l : List ℕ). l ++ drop n out₀) (sym (w.front ∙ append-nil (take n out)))

-- one more word
pub written_one : {out₀ out whole rest : List ℕ} {n x : ℕ} → Written out₀ out n whole (x ∷ rest) → n < length out → Written out₀ (set out n x) (n + 1) whole rest
written_one {out₀} {out} {whole} {rest} {n} {x} w h = record {
  long = length-set out n x ∙ w.long;
  within = omega (arith, length-set out n x);
  front = w.front ∙ sym (append_snoc (take n out) x rest) ∙ rw (add-one, take-suc-set out n x h);
  behind = drop-set-lt (n + 1) out n x (omega arith) ∙ sym (drop-drop 1 n out) ∙ ap (drop 1) w.behind ∙ drop-drop 1 n out₀;
}

-- what was to come first is written behind n
module _ (xs rest : List ℕ) {out₀ out out' whole : List ℕ} {n m : ℕ} (w : Written out₀ out n whole (xs ++ rest)) (h : length whole ≤ length out₀) (em : m ≡ n + length xs)
    (eo : out' ≡ take n out ++ (xs ++ drop m out)) where
  fits : m ≤ length out
  fits = omega (arith, room w h, length-append xs rest)

  head_long : length (take n out ++ xs) ≡ m
  head_long = length-append (take n out) xs ∙ omega (arith, length-take-le n out w.within)

  behind_more : drop m out ≡ drop m out₀
  behind_more = rw em (sym (drop-drop (length xs) n out) ∙ ap (drop (length xs)) w.behind ∙ drop-drop (length xs) n out₀)

  at_laid : Written out₀ ((take n out ++ xs) ++ drop m out) m whole rest
  at_laid = record {
    long = length-append (take n out ++ xs) (drop m out) ∙ omega (arith, head_long, fits, length-drop m out, w.long);
    within = omega (arith, length-append (take n out ++ xs) (drop m out), head_long);
    front = w.front ∙ sym (append_assoc (take n out) xs rest) ∙ ap (λ (l : List ℕ). l ++ rest) (sym (take_at (take n out ++ xs) (drop m out) m head_long));
    behind = drop_at (take n out ++ xs) (drop m out) m head_long ∙ behind_more;
  }

  pub written_more : Written out₀ out' m whole rest
  written_more = subst (λ (l : List ℕ). Written out₀ l m whole rest) (sym (eo ∙ sym (append_assoc (take n out) xs (drop m out)))) at_laid

-- the part behind a place was lent, and xs stands at its front
module _ (xs out : List ℕ) (at : ℕ) where
  lent : take (length out - at) (drop at out) ≡ drop at out
  lent = take_all (length out - at) (drop at out) (omega (arith, length-drop at out))

  pub lent_fits : at + length xs ≤ length out → length xs ≤ length (take (length out - at) (drop at out))
  lent_fits h = rw lent (omega (arith, length-drop at out))

  pub lent_part : (m : ℕ) {ys : List ℕ} → ys ≡ xs ++ drop m (take (length out - at) (drop at out))
      → take at out ++ (ys ++ drop (length out - at) (drop at out)) ≡ take at out ++ (xs ++ drop (at + m) out)
  lent_part m {ys} e =
      ap (λ (l : List ℕ). take at out ++ (ys ++ l)) (drop_of_length-le (drop at out) {i = length out - at} (omega (arith, length-drop at out)))
      ∙ ap (λ (l : List ℕ). take at out ++ l)
      (append-nil ys ∙ e ∙ ap (λ (l : List ℕ). xs ++ drop m l) lent ∙ ap (λ (l : List ℕ). xs ++ l) (drop-drop m at out))

-- all is written
pub written_whole : {out₀ out whole : List ℕ} {n : ℕ} → Written out₀ out n whole [] → out ≡ whole ++ drop (length whole) out₀
written_whole {out₀} {out} {whole} w = written_out w ∙ ap (λ (n : ℕ). whole ++ drop n out₀) (written_all w)
