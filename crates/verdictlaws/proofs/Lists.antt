-- Chosen locks as a guard list, and a guard list as chosen locks. In this order: a table of values; the lines that name a lock for each
-- variable, which are accepted; the locks that a table of guards gives.
use Rattle.std.specs.Prelude.{Ok, Some}
use Prim.Native.Nat.{ℕ, zero, suc, ◌+◌, ◌*◌, ◌≤◌, ◌<◌}
use mathlib.Core.Path.{◌≡◌, refl, sym, ap, ◌∙◌}
use mathlib.Core.Bool.{Bool, true, false, cond}
use mathlib.Core.List.{List, [], ◌∷◌}
use native.Mathlib.Omega.{arith}
use native.Mathlib.Nat.{zero-add}
use borrow.Author.Tests.{lt-ltb, ltb-true}
use lib.Dec.{ltb, eqb}
use lib.ListN.{length, get_or}
use Rattle.laws.proofs.Logic.{never, by_test}
use Rattle.laws.proofs.Lists.{same_default}
use Rattle.frame.specs.Limits.{lock_count, variable_count}
use Rattle.frame.specs.declared.Lock.{Lock}
use Rattle.digits.specs.Digits.{line_of, lines_of}
use Rattle.digits.proofs.Writing.{length_lines}
use Rattle.text.specs.Text.{word_in, word_at}
use Rattle.guards.specs.Guards.{guard_of, guard_variable, guard_lock, guards_read, listed_guard, unprotected_code}
use Rattle.guards.specs.Listed.{Listed}
use Rattle.guards.specs.declared.Guard.TheVariants.{Locked, Unprotected, Inferred}
use Rattle.guards.proofs.Laws.{table_length, named_guard}
use Rattle.guards.proofs.Listed.{accepted_if_listed}
use Rattle.guards.proofs.Named.{listed_guard_lem}
use Rattle.roundtrip.proofs.Recordings.{Narrow, line_at}
use Rattle.rules.specs.Choice.{Choice}
use Rattle.rules.specs.Figures.{guarding}

-- the values of f from i on, n of them
unfoldable pub values : (ℕ → ℕ) → ℕ → ℕ → List ℕ
values f i zero = []
values f i (suc n) = f i ∷ values f (suc i) n

length_values : (f : ℕ → ℕ) (i n : ℕ) → length (values f i n) ≡ n
unfolding values
length_values f i zero = refl
length_values f i (suc n) = ap suc (length_values f (suc i) n)

get_or_values : (f : ℕ → ℕ) (i n k d : ℕ) → k < n → get_or (values f i n) k d ≡ f (i + k)
unfolding values
get_or_values f i zero k d h = absurd (omega arith)
get_or_values f i (suc n) zero d h = ap f (omega arith)
get_or_values f i (suc n) (suc k) d h = get_or_values f (suc i) n k d (omega arith) ∙ ap f (omega arith)

below_values : (f : ℕ → ℕ) (m : ℕ) → 0 < m → ((x : ℕ) → f x < m) → (i n k : ℕ) → get_or (values f i n) k 0 < m
unfolding values
below_values f m p h i zero k = p
below_values f m p h i (suc n) zero = h i
below_values f m p h i (suc n) (suc k) = below_values f m p h (suc i) n k

-- the list that names each of the first n variables, on the line of its number
module _ (locks : List ℕ) (small : (x : ℕ) → get_or locks x 0 < lock_count) (n : ℕ) (most : n ≤ variable_count) where
  abbrev named : ℕ → ℕ
  named x = x * 65536 + get_or locks x 0

  abbrev words : List ℕ
  words = values named 0 n

  abbrev pub naming : List ℕ
  naming = lines_of words

  word_of : (i : ℕ) → i < n → get_or words i 0 ≡ i * 65536 + get_or locks i 0
  word_of i h = get_or_values named 0 n i 0 h ∙ ap named (zero-add i)

  long : length words ≡ n
  long = length_values named 0 n

  narrow : Narrow words
  narrow k h =
      let l : k < n = omega (arith, long) in
      omega (arith, word_of k l, small k)

  line_of_lem : (i : ℕ) → i < n → line_of naming (9 * i) ≡ Some (get_or words i 0)
  line_of_lem i h = line_at words narrow i (omega (arith, long))

  at_line : (i : ℕ) → i < n → word_at naming i ≡ get_or words i 0
  unfolding word_at
  at_line i h = ap word_in (line_of_lem i h)

  -- what line i names
  variable_at : (i : ℕ) → i < n → guard_variable (word_at naming i) ≡ i
  variable_at i h = omega (arith, at_line i h, word_of i h, small i)

  lock_at : (i : ℕ) → i < n → guard_lock (word_at naming i) ≡ get_or locks i 0
  lock_at i h = omega (arith, at_line i h, word_of i h, small i)

  naming_listed : Listed naming n
  naming_listed = record {
    size = length_lines words ∙ ap (λ (k : ℕ). 9 * k) long;
    line_at = λ i h. line_of_lem i h ∙ ap Some (sym (at_line i h));
    variables = λ i h. omega (arith, variable_at i h);
    locks = λ i h. omega (arith, lock_at i h, small i);
    distinct = λ i j h l e. omega (arith, variable_at i (omega arith), variable_at j l);
  }

  -- it is accepted
  pub naming_accepted : (guards_read naming).reply ≡ Ok n
  naming_accepted = (accepted_if_listed naming n).1 naming_listed

  -- and gives each variable its lock
  pub naming_table : (x : ℕ) → x < n → guarding (guards_read naming).table x ≡ Locked (record { 0 = get_or locks x 0 })
  naming_table x h =
      ap guard_of (same_default (guards_read naming).table x 0 unprotected_code (omega (arith, table_length naming)))
      ∙ ap (λ (k : ℕ). guard_of (get_or (guards_read naming).table k unprotected_code)) (sym (variable_at x h))
      ∙ named_guard naming n naming_accepted x h ∙ ap (λ (k : ℕ). Locked (record { 0 = k })) (lock_at x h)

  pub naming_names : (x : ℕ) → x < n → listed_guard naming n x ≡ Locked (record { 0 = get_or locks x 0 })
  naming_names x h = listed_guard_lem naming n naming_accepted x (omega arith) ∙ naming_table x h

-- a lock's code stands for it
pub lock_code : (m : ℕ) → m < lock_count → guard_of m ≡ Locked (record { 0 = m })
lock_code m h = rw (lt-ltb m lock_count h)

-- the lock that a code stands for, 0 of none
abbrev code_lock : ℕ → ℕ
code_lock c = cond (ltb c lock_count) c 0

code_small : (c : ℕ) → code_lock c < lock_count
code_small c = by_test (ltb c lock_count) (λ q. rw q (ltb-true c lock_count q)) (λ q. rw q (omega arith))

code_same : (c : ℕ) (l : Lock) → guard_of c ≡ Locked l → guard_of (code_lock c) ≡ guard_of c
code_same c l e = by_test (ltb c lock_count) (λ q. let z : code_lock c ≡ c = rw q in ap guard_of z) (λ q. other (eqb c unprotected_code) (rw q at e))
  where
    other : {A : Type 0} (b : Bool) → cond b Unprotected Inferred ≡ Locked l → A
    other true z = never (cc)
    other false z = never (cc)

-- the locks that a table of guards gives
module _ (table : List ℕ) where
  abbrev pub table_locks : List ℕ
  table_locks = values (λ x. code_lock (get_or table x 0)) 0 variable_count

  pub table_choice : Choice table_locks
  table_choice = record {
    long = length_values (λ x. code_lock (get_or table x 0)) 0 variable_count;
    small = below_values (λ x. code_lock (get_or table x 0)) lock_count (omega arith) (λ x. code_small (get_or table x 0)) 0 variable_count;
  }

  pub table_locks_lem : (x : ℕ) (l : Lock) → x < variable_count → guarding table x ≡ Locked l → guarding table x ≡ guarding table_locks x
  table_locks_lem x l h e =
      sym (ap guard_of (get_or_values (λ x. code_lock (get_or table x 0)) 0 variable_count x 0 h ∙ ap (λ (k : ℕ). code_lock (get_or table k 0)) (zero-add x))
      ∙ code_same (get_or table x 0) l e)
