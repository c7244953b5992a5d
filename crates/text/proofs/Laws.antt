-- Laws of the definitions of specs/Text: scanning a text line by line, the words written, what an accepted text is like, and
-- where another is refused.
use Rattle.std.specs.Prelude.{Result, Ok, Err, Option, Some, None}
use Prim.Native.Nat.{ℕ, zero, suc, ◌+◌, ◌-◌, ◌*◌, ◌≤◌, ◌<◌}
use mathlib.Core.Path.{◌≡◌, refl, sym, ap, ◌∙◌}
use mathlib.Core.Bool.{Bool, true, false, cond}
use mathlib.Core.List.{List, [], ◌∷◌, ◌++◌}
use native.Mathlib.Omega.{arith}
use native.Mathlib.Numerals.{add-one}
use lib.ListN.{length, get_or, take, drop, set, length-append, take-append-drop, drop_of_length-le, get_or-append}
use lib.Seq.{drop-cons, drop-drop, take_at, get_or_at}
use lib.Dec.{leb, eqb}
use borrow.Author.Tests.{leb-true, eqb-true, eqb-false}
use Rattle.std.proofs.lemmas.Bool.Decides.{nat_tests}
use Rattle.laws.proofs.Logic.{never, either, from_here}
use Rattle.laws.proofs.Lists.{front_next}
use Rattle.frame.specs.Limits.{most_frames}
use Rattle.frame.specs.Refusal.{refused_at}
use Rattle.frame.specs.declared.Refusal.TheVariants as refusal
use Rattle.text.specs.Text.{word_at, numbered, line_at, if_line, scan_from, scanned, reached, words_to, room_reply, read_reply, read_words, linefeeds, LinesAreLinefeeds}
use Rattle.digits.specs.Digits.{value, digit_of, digits_value, line_of}
use Rattle.digits.proofs.Laws.{Shown, shown}
use Rattle.frame.specs.declared.Refused.{Refused}

-- what is answered where line i is q: it ends the text, is refused, or the answer comes from the lines behind it
abbrev pub answered : ℕ → Result (Option ℕ) Refused → Result ℕ Refused → Result ℕ Refused
answered i (Ok (Some w)) behind = behind
answered i (Ok None) behind = Ok i
answered i (Err r) behind = Err r

-- one line more
pub scan_line : (s : List ℕ) (i : ℕ) → i < most_frames
    → scan_from (most_frames - i) s i ≡ answered i (line_at s i) (scan_from (most_frames - (i + 1)) s (i + 1))
unfolding scan_from
scan_line s i h =
    let n : most_frames - i ≡ suc (most_frames - (i + 1)) = omega arith in
    rw n (go (leb (length s) (9 * i)) (line_of s (9 * i)) (scan_from (most_frames - (i + 1)) s (i + 1)))
  where
    go : (b : Bool) (l : Option ℕ) (behind : Result ℕ Refused) → cond b (Ok i) (if_line l behind (Err (refused_at refusal.Line i))) ≡ answered i (cond b (Ok None) (numbered i l)) behind
    go true (Some w) behind = refl
    go true None behind = refl
    go false (Some w) behind = refl
    go false None behind = refl

-- the word of a line
pub line_word : (s : List ℕ) (i w : ℕ) → line_at s i ≡ Ok (Some w) → w ≡ word_at s i
unfolding word_at
line_word s i w e = grind (arith, nat_tests)

-- behind the 4,096th line all lines are read
pub full_reached : (s : List ℕ) → reached (scan_from 0 s most_frames) ≡ most_frames
unfolding scan_from
full_reached s = either (λ r. reached r ≡ most_frames) (leb (length s) (9 * most_frames)) refl refl

pub length_words_to : (s : List ℕ) (n : ℕ) → length (words_to s n) ≡ n
unfolding words_to
length_words_to s zero = refl
length_words_to s (suc n) = simp (length-append, length_words_to s n, add-one)

pub get_or_words_to : (s : List ℕ) (n i d : ℕ) → i < n → get_or (words_to s n) i d ≡ word_at s i
unfolding words_to
get_or_words_to s zero i d h = absurd (omega arith)
get_or_words_to s (suc n) i d h = go (get_or_words_to s n i d) (eqb i n) refl
  where
    go : (i < n → get_or (words_to s n) i d ≡ word_at s i) → (t : Bool) → eqb i n ≡ t → get_or (words_to s n ++ (word_at s n ∷ [])) i d ≡ word_at s i
    go ih true q = rw (eqb-true i n q) (get_or_at (words_to s n) (word_at s n) [] d n (length_words_to s n))
    go ih false q =
        let l : i < n = omega (arith, eqb-false i n q) in
        get_or-append (words_to s n) (word_at s n ∷ []) d i (rw (length_words_to s n) l) ∙ ih l

-- one more word written
pub words_turn : (s ws : List ℕ) (i w : ℕ) → i < length ws → w ≡ word_at s i
    → set (words_to s i ++ drop i ws) i w ≡ words_to s (i + 1) ++ drop (i + 1) ws
unfolding words_to
words_turn s ws i w h e = rw (e, front_next (words_to s i) ws i (word_at s i) (length_words_to s i) h, add-one i)

linefeeds_append : (xs ys : List ℕ) → linefeeds (xs ++ ys) ≡ linefeeds xs + linefeeds ys
unfolding linefeeds
linefeeds_append [] ys = omega arith
linefeeds_append (b ∷ bs) ys = grind (arith, nat_tests, linefeeds_append bs ys)

-- an LF is no digit
linefeeds_digits : (v : ℕ) (xs : List ℕ) (r : ℕ) → digits_value v xs ≡ value r → linefeeds xs ≡ 0
unfolding linefeeds digits_value digit_of
linefeeds_digits v [] r e = refl
linefeeds_digits v (b ∷ bs) r e = grind (arith, nat_tests, linefeeds_digits (v * 16 + digit_of b) bs r)

-- a line has one LF
linefeeds_line : (s : List ℕ) (at w : ℕ) → Shown s at w → linefeeds (drop at s) ≡ linefeeds (drop (at + 9) s) + 1
unfolding linefeeds
linefeeds_line s at w h =
    let n : suc (at + 8) ≡ at + 9 = omega arith in
    let c : drop (at + 8) s ≡ 10 ∷ drop (at + 9) s = drop-cons s (at + 8) 0 (omega arith) ∙ rw (h.linefeed, n) in
    let a : take 8 (drop at s) ++ drop (at + 8) s ≡ drop at s = rw (← drop-drop 8 at s) (take-append-drop 8 (drop at s)) in
    let f : linefeeds (drop (at + 8) s) ≡ linefeeds (drop (at + 9) s) + 1 = rw c in
    rw (← a, linefeeds_append, linefeeds_digits 0 (take 8 (drop at s)) w h.digits) (omega arith)

-- A text accepted from line i on, where k lines may come: it ends before line n, and each line before it is one.
pub data Accepted (s : List ℕ) : ℕ → ℕ → ℕ → Type 0 where
  ends : {k i : ℕ} → length s ≤ 9 * i → Accepted s k i i
  goes : {k i n : ℕ} (w : ℕ) → line_of s (9 * i) ≡ Some w → Accepted s k (i + 1) n → Accepted s (suc k) i n

ended : (s : List ℕ) (k i n : ℕ) → length s ≤ 9 * i → ◌≡◌ {A = Result ℕ Refused} (Ok i) (Ok n) → Accepted s k i n
ended s k i n h e = let q : i ≡ n = cc in rw (← q) (ends h)

pub accepted : (k : ℕ) (s : List ℕ) (i n : ℕ) → scan_from k s i ≡ Ok n → Accepted s k i n
unfolding scan_from
accepted zero s i n e = go (leb (length s) (9 * i)) refl
  where
    go : (t : Bool) → leb (length s) (9 * i) ≡ t → Accepted s zero i n
    go true q = ended s zero i n (leb-true (length s) (9 * i) q) (rw q at e)
    go false q = let f : ◌≡◌ {A = Result ℕ Refused} (Err (refused_at refusal.TooLong most_frames)) (Ok n) = rw q at e in never (cc)
accepted (suc k) s i n e = go (accepted k s (i + 1) n) (leb (length s) (9 * i)) refl (line_of s (9 * i)) refl
  where
    go : (scan_from k s (i + 1) ≡ Ok n → Accepted s k (i + 1) n) → (t : Bool) → leb (length s) (9 * i) ≡ t → (l : Option ℕ) → line_of s (9 * i) ≡ l → Accepted s (suc k) i n
    go ih true q l p = ended s (suc k) i n (leb-true (length s) (9 * i) q) (rw q at e)
    go ih false q (Some w) p = goes w p (ih (rw (q, p) at e))
    go ih false q None p = let f : ◌≡◌ {A = Result ℕ Refused} (Err (refused_at refusal.Line i)) (Ok n) = rw (q, p) at e in never (cc)

-- an accepted text is as long as its lines
pub accepted_length : {s : List ℕ} {k i n : ℕ} → 9 * i ≤ length s → Accepted s k i n → 9 * n ≡ length s
accepted_length h (ends l) = omega arith
accepted_length {s} {i = i} h (goes w e r) = accepted_length (omega (arith, (shown s (9 * i) w e).long)) r

pub accepted_limit : {s : List ℕ} {k i n : ℕ} → Accepted s k i n → n ≤ i + k
accepted_limit (ends l) = omega arith
accepted_limit (goes w e r) = omega (arith, accepted_limit r)

pub accepted_linefeeds : {s : List ℕ} {k i n : ℕ} → Accepted s k i n → linefeeds (drop (9 * i) s) + i ≡ n
unfolding linefeeds
accepted_linefeeds {s} {i = i} (ends l) = rw (drop_of_length-le s l) (omega arith)
accepted_linefeeds {s} {i = i} (goes w e r) =
    let q : 9 * (i + 1) ≡ 9 * i + 9 = omega arith in
    let f = rw q at (accepted_linefeeds r) in
    omega (arith, linefeeds_line s (9 * i) w (shown s (9 * i) w e))

-- each of its lines has a word
pub accepted_line : {s : List ℕ} {k i n : ℕ} → Accepted s k i n → (j : ℕ) → i ≤ j → j < n → line_of s (9 * j) ≡ Some (word_at s j)
unfolding word_at
accepted_line {i = i} (ends l) j a b = absurd (omega arith)
accepted_line {s} {i = i} {n} (goes w e r) j a b = from_here (λ j. line_of s (9 * j) ≡ Some (word_at s j)) i n (rw e) (accepted_line r) j a b

-- What a text of n lines is like.
module _ (s : List ℕ) (n : ℕ) (e : scanned s ≡ Ok n) where
  pub scan_length : 9 * n ≡ length s
  scan_length = accepted_length (omega arith) (accepted most_frames s 0 n e)

  pub scan_limit : n ≤ most_frames
  scan_limit = omega (arith, accepted_limit (accepted most_frames s 0 n e))

  -- the number of lines is the number of LFs
  pub scan_linefeeds : linefeeds s ≡ n
  scan_linefeeds = omega (arith, accepted_linefeeds (accepted most_frames s 0 n e))

  -- each line before the n-th is one
  pub scan_lines : (j : ℕ) → j < n → line_of s (9 * j) ≡ Some (word_at s j)
  scan_lines j h = accepted_line (accepted most_frames s 0 n e) j (omega arith) h

-- What reading answers: n lines where the text has n lines and the buffer room for them.
room : (m n : ℕ) (q : Result ℕ Refused) → room_reply m q ≡ Ok n → (n ≤ m) × (q ≡ Ok n)
room m n (Ok k) e = (grind (arith, nat_tests), grind (arith, nat_tests))
room m n (Err r) e = absurd (cc)

module _ (s : List ℕ) (m n : ℕ) (e : read_reply s m ≡ Ok n) where
  pub read_room : n ≤ m
  read_room = (room m n (scanned s) e).0

  pub read_scanned : scanned s ≡ Ok n
  read_scanned = (room m n (scanned s) e).1

  pub read_limit : n ≤ most_frames
  read_limit = scan_limit s n read_scanned

  pub read_length : 9 * n ≡ length s
  read_length = scan_length s n read_scanned

  pub read_linefeeds : linefeeds s ≡ n
  read_linefeeds = scan_linefeeds s n read_scanned

  pub read_lines : (j : ℕ) → j < n → line_of s (9 * j) ≡ Some (word_at s j)
  read_lines = scan_lines s n read_scanned

-- the line reader's claim
pub lines_are_linefeeds : LinesAreLinefeeds
lines_are_linefeeds s ws n e =
    (read_linefeeds s (length ws) n e, read_length s (length ws) n e, read_limit s (length ws) n e, read_room s (length ws) n e, λ i h. read_lines s (length ws) n e i h ∙ ap Some (sym (word i h)))
  where
    word : (i : ℕ) → i < n → get_or (read_words s ws) i 0 ≡ word_at s i
    word i h = rw e (get_or-append (words_to s n) (drop n ws) 0 i (rw (length_words_to s n) h) ∙ get_or_words_to s n i 0 h)

-- What a buffer holds after n lines of a text were read into it.
pub record Read (s : List ℕ) (n : ℕ) (last : List ℕ) : Type 0 where
  pub fits : n ≤ length last
  pub words : take n last ≡ words_to s n

in_front : (s ws : List ℕ) (n : ℕ) (last : List ℕ) → last ≡ words_to s n ++ drop n ws → Read s n last
in_front s ws n last g = record {
  fits = rw g (simp (length-append, length_words_to s n) (omega arith));
  words = rw g (take_at (words_to s n) (drop n ws) n (length_words_to s n));
}

-- after `read_into` answered n lines
pub after_into : (s ws : List ℕ) (n : ℕ) (last : List ℕ) (r : Result ℕ Refused)
    → r ≡ Ok n → last ≡ words_to s (reached r) ++ drop (reached r) ws → Read s n last
after_into s ws n last r e f = in_front s ws n last (rw e at f)

-- a text is refused at a line, or at 4,096
scan_place : (k : ℕ) (s : List ℕ) (i : ℕ) → i + k ≤ most_frames → reached (scan_from k s i) ≤ most_frames
unfolding scan_from
scan_place zero s i h = either (λ r. reached r ≤ most_frames) (leb (length s) (9 * i)) (omega arith) (omega arith)
scan_place (suc k) s i h =
    either (λ r. reached r ≤ most_frames) (leb (length s) (9 * i)) (omega arith) (go (line_of s (9 * i)) (scan_place k s (i + 1) (omega arith)))
  where
    go : (l : Option ℕ) → reached (scan_from k s (i + 1)) ≤ most_frames → reached (if_line l (scan_from k s (i + 1)) (Err (refused_at refusal.Line i))) ≤ most_frames
    go (Some w) ih = ih
    go None ih = omega arith

pub reached_limit : (s : List ℕ) → reached (scanned s) ≤ most_frames
reached_limit s = scan_place most_frames s 0 (omega arith)

-- and not before the line that it is scanned from
pub reached_from : (s : List ℕ) (k i : ℕ) → i + k ≤ most_frames → i ≤ reached (scan_from k s i)
unfolding scan_from
reached_from s zero i h = either (λ r. i ≤ reached r) (leb (length s) (9 * i)) (omega arith) (omega arith)
reached_from s (suc k) i h =
    either (λ r. i ≤ reached r) (leb (length s) (9 * i)) (omega arith) (go (line_of s (9 * i)) (reached_from s k (i + 1) (omega arith)))
  where
    go : (l : Option ℕ) → i + 1 ≤ reached (scan_from k s (i + 1)) → i ≤ reached (if_line l (scan_from k s (i + 1)) (Err (refused_at refusal.Line i)))
    go (Some w) ih = omega arith
    go None ih = omega arith

-- but behind a line that is a word
pub reached_behind : (s : List ℕ) (i w : ℕ) → i < most_frames → scanned s ≡ scan_from (most_frames - i) s i → line_at s i ≡ Ok (Some w) → i < reached (scanned s)
reached_behind s i w h e l =
    let r = reached_from s (most_frames - (i + 1)) (i + 1) (omega arith) in
    rw (e, scan_line s i h, l) (omega (arith, r))
