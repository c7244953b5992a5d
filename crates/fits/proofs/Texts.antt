-- How long numbers and sets of locks are as text.
use Prim.Native.Nat.{ℕ, zero, suc, ◌+◌, ◌*◌, ◌/◌, ◌%◌, ◌≤◌}
use Prim.Native.String.{String}
use mathlib.Core.Bool.{Bool, true, false, cond}
use mathlib.Core.List.{List, [], ◌++◌}
use native.Mathlib.Omega.{arith}
use lib.Dec.{eqb}
use lib.ListN.{length, length-append}
use Rattle.frame.specs.Limits.{lock_count, all_locks}
use Rattle.output.specs.Output.{bytes, decimal_digits, decimal, lock_text, listed, locks_text}

-- a text of at most n bytes
pub record Within (n : ℕ) (t : List ℕ) : Type 0 where
  pub fits : length t ≤ n

pub wider : {m n : ℕ} {t : List ℕ} → Within m t → m ≤ n → Within n t
wider p h = record { fits = omega arith }

pub plain : (t : String) → Within (length (bytes t)) (bytes t)
plain t = record { fits = omega arith }

none : {n : ℕ} → Within n []
none = record { fits = omega arith }

-- either of two texts, and one behind the other
either : {n : ℕ} {x y : List ℕ} (t : Bool) → Within n x → Within n y → Within n (cond t x y)
either true p q = p
either false p q = q

pub joined : {m n : ℕ} {x y : List ℕ} → Within m x → Within n y → Within (m + n) (x ++ y)
joined {x = x} {y} p q = record { fits = omega (arith, length-append x y, p.fits, q.fits) }

digits_within : (k n : ℕ) → Within k (decimal_digits k n)
unfolding decimal_digits
digits_within zero n = none
digits_within (suc k) n = either (eqb n 0) none (record { fits = simp length-append (omega (arith, (digits_within k (n / 10)).fits)) })

pub decimal_within : (n : ℕ) → Within 20 (decimal n)
unfolding decimal
decimal_within n = either (eqb n 0) (record { fits = omega arith }) (digits_within 20 n)

-- a lock: its number, a comma and a blank
lock_within : (n s : ℕ) → Within 22 (lock_text n s)
unfolding lock_text bytes
lock_within n s = either (eqb (s % 2) 0) none (joined (decimal_within n) (either (eqb (s / 2) 0) none (plain ", ")))

listed_within : (k n s : ℕ) → Within (22 * k) (listed k n s)
unfolding listed
listed_within zero n s = none
listed_within (suc k) n s =
    record { fits = simp length-append (omega (arith, (lock_within n s).fits, (listed_within k (suc n) (s / 2)).fits)) }

-- a set: at most 64 locks
pub locks_within : (s : ℕ) → Within 1408 (locks_text s)
unfolding locks_text bytes
locks_within s =
    either (eqb s 0) (wider (plain "none") (omega arith))
    (either (eqb s all_locks) (wider (plain "all 64") (omega arith)) (listed_within lock_count 0 s))
