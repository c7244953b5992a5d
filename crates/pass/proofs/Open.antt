-- The earliest open begin, thread by thread.
use Rattle.std.specs.Prelude.{Option, Some, None}
use Prim.Native.Nat.{ℕ, suc, ◌+◌}
use mathlib.Core.Path.{◌≡◌, refl}
use mathlib.Core.List.{List}
use borrow.Author.Tests.{eq-eqb, ne_eqb}
use lib.ListN.{get_or}
use Rattle.pass.specs.Pass.{earlier, open_begin, first_open_from}

pub open_turn : (n m k : ℕ) (least : Option ℕ) (depths begins : List ℕ) → n ≡ suc m
    → first_open_from n k least depths begins ≡ first_open_from m (k + 1) (earlier least (open_begin (get_or depths k 0) (get_or begins k 0))) depths begins
unfolding first_open_from
open_turn n m k least depths begins e = rw e

pub open_end : (n k : ℕ) (least : Option ℕ) (depths begins : List ℕ) → n ≡ 0 → first_open_from n k least depths begins ≡ least
unfolding first_open_from
open_end n k least depths begins e = rw e

-- a thread that has no block open changes nothing, and one that has comes with its begin
earlier_none : (m : Option ℕ) → earlier m None ≡ m
earlier_none (Some x) = refl
earlier_none None = refl

module _ (d b : ℕ) (least : Option ℕ) where
  pub closed_thread : d ≡ 0 → earlier least (open_begin d b) ≡ least
  closed_thread e = rw (eq-eqb d 0 e) (earlier_none least)

  pub open_thread : (d ≡ 0 → ⊥) → earlier least (open_begin d b) ≡ earlier least (Some b)
  open_thread n = rw (ne_eqb d 0 n)
