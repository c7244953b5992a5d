-- Text written into a lent buffer, as far as there is room; numbers and sets of locks as text.
-- Quotes are from docs/FORMAT.md.
use Rattle.std.specs.Prelude.{ℕ, ◌≡◌, zero, suc, ◌+◌, ◌/◌, ◌%◌, cond, List, [], ◌∷◌, ◌++◌, length, set, ltb, eqb}
use Rattle.std.specs.Borrow.{MutBor}
use Prim.Native.Char.{code}
use Prim.Native.String.{String, [] as empty, ◌∷◌ as ◌then◌}
use Rattle.frame.specs.Limits.{lock_count, all_locks}
use Rattle.output.specs.declared.Text.{Text}

-- The bytes of a text of characters below 128.
unfoldable pub bytes : String → List ℕ
bytes empty = []
bytes (c then s) = code c ∷ bytes s

-- The place behind one byte in a buffer of n bytes: the next one, or the same where the buffer is full.
unfoldable pub after : ℕ → ℕ → ℕ
after n at = cond (ltb at n) (suc at) at

-- The place behind a text.
unfoldable pub behind : ℕ → ℕ → List ℕ → ℕ
behind n at [] = at
behind n at (c ∷ t) = behind n (after n at) t

-- The buffer with a text written from a place on, as far as there is room (`set` beyond the end changes nothing).
unfoldable pub written : List ℕ → ℕ → List ℕ → List ℕ
written b at [] = b
written b at (c ∷ t) = written (set b at c) (after (length b) at) t

-- A text in a lent buffer that nothing is written to yet. Whoever lends the buffer knows by its name what it holds afterwards.
pub record Over (buffer : MutBor (List ℕ)) (text : Text) : Type 0 where
  pub same_buffer : text.buffer.ghost_name ≡ buffer.ghost_name
  pub place : text.at ≡ 0
  pub contents : text.buffer.now ≡ buffer.now

-- A text before and after it is moved to place n, where its next byte goes. Nothing is written.
pub record MovedTo (before after : Text) (n : ℕ) : Type 0 where
  pub same_buffer : after.buffer.ghost_name ≡ before.buffer.ghost_name
  pub place : after.at ≡ n
  pub contents : after.buffer.now ≡ before.buffer.now

-- A text before and after t is written behind it.
pub record Appended (before after : Text) (t : List ℕ) : Type 0 where
  pub same_buffer : after.buffer.ghost_name ≡ before.buffer.ghost_name
  pub place : after.at ≡ behind (length before.buffer.now) before.at t
  pub contents : after.buffer.now ≡ written before.buffer.now before.at t

-- The last k decimal digits of n, without leading zeros.
unfoldable pub decimal_digits : ℕ → ℕ → List ℕ
decimal_digits zero n = []
decimal_digits (suc k) n = cond (eqb n 0) [] (decimal_digits k (n / 10) ++ ((n % 10 + 48) ∷ []))

-- A number below 10^20 in decimal.
unfoldable pub decimal : ℕ → List ℕ
decimal n = cond (eqb n 0) (48 ∷ []) (decimal_digits 20 n)

-- What stands for lock n, which is bit 0 of s: its number where it is in the set, and a comma where others follow.
unfoldable pub lock_text : ℕ → ℕ → List ℕ
lock_text n s = cond (eqb (s % 2) 0) [] (decimal n ++ cond (eqb (s / 2) 0) [] (bytes ", "))

-- The locks n to n + k - 1 that are in a set, in rising order; lock n is bit 0 of s.
unfoldable pub listed : ℕ → ℕ → ℕ → List ℕ
listed zero n s = []
listed (suc k) n s = lock_text n s ++ listed k (suc n) (s / 2)

-- A set of locks: "none", "all 64", or the numbers. "Lock n is bit n of a 64-bit set."
unfoldable pub locks_text : ℕ → List ℕ
locks_text s = cond (eqb s 0) (bytes "none") (cond (eqb s all_locks) (bytes "all 64") (listed lock_count 0 s))
