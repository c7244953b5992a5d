-- The first bytes of a text decide: a line that stands whole in a front of the text is the same there, and so is reading line by line.
use Prim.Native.Nat.{ℕ, zero, suc, ◌+◌, ◌-◌, ◌*◌, ◌≤◌, ◌<◌}
use mathlib.Core.Path.{◌≡◌, refl, ap}
use mathlib.Core.Bool.{Bool, true, false}
use mathlib.Core.List.{List}
use native.Mathlib.Omega.{arith}
use lib.ListN.{length, take}
use lib.Seq.{length-take-le, take_all, get_or-take}
use lib.Dec.{ltb, leb}
use borrow.Author.Tests.{le-ltb, ltb-true, ltb-false, lt-leb}
use Rattle.laws.proofs.Lists.{part}
use Rattle.frame.specs.Limits.{most_frames}
use Rattle.digits.specs.Digits.{line_of}
use Rattle.text.specs.Text.{scan_from, most_bytes, FirstBytesDecide}

-- a line whose nine bytes are among the first n
pub line_front : (s : List ℕ) (n at : ℕ) → at + 9 ≤ n → line_of (take n s) at ≡ line_of s at
unfolding line_of
line_front s n at h = go (ltb n (length s)) refl
  where
    go : (b : Bool) → ltb n (length s) ≡ b → line_of (take n s) at ≡ line_of s at
    go false q = ap (λ (t : List ℕ). line_of t at) (take_all n s (ltb-false n (length s) q))
    go true q =
        let b : n < length s = ltb-true n (length s) q in
        let l : length (take n s) ≡ n = length-take-le n s (omega arith) in
        rw (
          le-ltb (length (take n s) - at) 9 (omega arith),
          le-ltb (length s - at) 9 (omega arith),
          get_or-take n s (at + 8) 0 (omega arith),
          part at 8 n s (omega arith),
        )

-- whether line i is the end
pub end_front : (s : List ℕ) (n m : ℕ) → m < n → leb (length (take n s)) m ≡ leb (length s) m
end_front s n m h = go (ltb n (length s)) refl
  where
    go : (b : Bool) → ltb n (length s) ≡ b → leb (length (take n s)) m ≡ leb (length s) m
    go false q = ap (λ (t : List ℕ). leb (length t) m) (take_all n s (ltb-false n (length s) q))
    go true q =
        let l : length (take n s) ≡ n = length-take-le n s (omega (arith, ltb-true n (length s) q)) in
        rw (l, lt-leb n m h, lt-leb (length s) m (omega (arith, ltb-true n (length s) q)))

-- the lines from line i on
scan_front : (k : ℕ) (s : List ℕ) (n i : ℕ) → 9 * (i + k) < n → scan_from k (take n s) i ≡ scan_from k s i
unfolding scan_from
scan_front zero s n i h = rw (end_front s n (9 * i) (omega arith))
scan_front (suc k) s n i h =
    rw (end_front s n (9 * i) (omega arith), line_front s n (9 * i) (omega arith), scan_front k s n (i + 1) (omega arith))

pub first_bytes_decide : FirstBytesDecide
first_bytes_decide s = scan_front most_frames s (most_bytes + 1) 0 (omega arith)
