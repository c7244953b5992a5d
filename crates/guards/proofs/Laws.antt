-- Laws of guard lists, in this order: reading line by line; the table's length; that a list is never too long; what an
-- accepted list says of its text, of the variables that it names and of the others; which lists are accepted; that line order has no
-- meaning.
use Rattle.std.specs.Prelude.{Ok, Err, Option, Some, None, Result}
use Prim.Native.Nat.{ℕ, zero, suc, ◌+◌, ◌-◌, ◌*◌, ◌≤◌, ◌<◌}
use mathlib.Core.Path.{◌≡◌, refl, sym, ap, ◌∙◌}
use mathlib.Core.Bool.{Bool, true, false, cond}
use mathlib.Core.List.{List, [], ◌∷◌}
use native.Mathlib.Omega.{arith}
use native.Mathlib.Nat.{not-suc-le-zero}
use lib.ListN.{length, get_or, set, replicate, length-set, length-replicate, get_or-replicate}
use lib.Seq.{get_or-set_same, get_or-set_other, ext_get_or}
use lib.Dec.{leb, eqb}
use borrow.Author.Tests.{lt-ltb, le-leb, lt-leb, leb-true, leb-false, eqb-true, eqb-false, eq-eqb, ne_eqb}
use Rattle.frame.specs.Limits.{lock_count, variable_count, most_frames}
use Rattle.laws.proofs.Logic.{never, from_here}
use Rattle.laws.proofs.Lists.{get_or_filled}
use Rattle.frame.specs.declared.Refused.{Refused}
use Rattle.frame.specs.declared.Refusal.{Refusal}
use Rattle.frame.specs.declared.Refusal.TheVariants as refusal
use Rattle.text.specs.Text.{word_at}
use Rattle.digits.specs.Digits.{line_of}
use Rattle.text.proofs.Laws.{Accepted, ends, goes, accepted_length, accepted_line}
use Rattle.guards.specs.Guards.{guard_of, guard_variable, guard_lock, lines, stopped, guard_line, on_guard_line, guards_from, no_guards, guards_read, unprotected_code}
use Rattle.guards.specs.declared.GuardsRead.{GuardsRead}
use Rattle.guards.specs.Listed.{Listed, ListsAreNeverTooLong}
use Rattle.guards.specs.declared.Guard.TheVariants.{Locked, Unprotected}
use Rattle.guards.specs.declared.GuardLine.{GuardLine}

-- the lines from line i on, with the table g
module _ (s : List ℕ) (i : ℕ) (g : List ℕ) where
  pub guards_done : (k : ℕ) → length s ≤ 9 * i → guards_from k s i g ≡ lines i g
  unfolding guards_from
  guards_done zero h = rw (le-leb (length s) (9 * i) h)
  guards_done (suc k) h = rw (le-leb (length s) (9 * i) h)

  pub guards_over : 9 * i < length s → guards_from 0 s i g ≡ stopped refusal.TooLong most_frames g
  unfolding guards_from
  guards_over h = rw (lt-leb (length s) (9 * i) h)

  pub guards_step : (k m : ℕ) → k ≡ suc m → 9 * i < length s
      → guards_from k s i g ≡ on_guard_line (guard_line (line_of s (9 * i))) i g (λ g'. guards_from m s (i + 1) g')
  unfolding guards_from
  guards_step k m e h = rw (e, lt-leb (length s) (9 * i) h)

-- what is read, part by part
pub told : {x y : GuardsRead} → x ≡ y → (y.reply ≡ x.reply) × (y.table ≡ x.table)
told e = (sym (ap (λ (z : GuardsRead). z.reply) e), sym (ap (λ (z : GuardsRead). z.table) e))

-- one line read: the callees' answers, and how reading goes on
pub guards_turn : (s : List ℕ) (i : ℕ) (g : List ℕ) {x : GuardsRead} {l : Option ℕ} {o : Result GuardLine Refusal} → x ≡ guards_from (most_frames - i) s i g → i < most_frames → 9 * i < length s
    → l ≡ line_of s (9 * i) → o ≡ guard_line l → x ≡ on_guard_line o i g (λ g'. guards_from (most_frames - (i + 1)) s (i + 1) g')
guards_turn s i g e h more p q = e ∙ guards_step s i g (most_frames - i) (most_frames - (i + 1)) (omega arith) more ∙ rw (q, p)

same_line : (x y : GuardLine) → ◌≡◌ {A = Result GuardLine Refusal} (Ok y) (Ok x) → x ≡ y
same_line x y e = cc

-- a variable that a line names has an entry in the table
pub names_variable : (l : Option ℕ) (x : GuardLine) → guard_line l ≡ Ok x → x.variable.0 < variable_count
names_variable (Some w) x e = go (leb variable_count (guard_variable w)) refl (leb lock_count (guard_lock w)) refl
  where
    go : (a : Bool) → leb variable_count (guard_variable w) ≡ a → (b : Bool) → leb lock_count (guard_lock w) ≡ b → x.variable.0 < variable_count
    go true p b q = let f : ◌≡◌ {A = Result GuardLine Refusal} (Err refusal.GuardRange) (Ok x) = rw p at e in never (cc)
    go false p true q = let f : ◌≡◌ {A = Result GuardLine Refusal} (Err refusal.GuardRange) (Ok x) = rw (p, q) at e in never (cc)
    go false p false q =
        rw (same_line x _ (rw (p, q) at e)) (omega (arith, leb-false variable_count (guard_variable w) p))
names_variable None x e = never (cc)

-- A guard line's word that is taken where the table of the lines before is g.
pub record Taken (g : List ℕ) (w : ℕ) : Type 0 where
  pub variable : guard_variable w < variable_count
  pub lock : guard_lock w < lock_count
  pub unnamed : get_or g (guard_variable w) 0 ≡ unprotected_code

-- How reading goes on from line i with the table g, where k lines may come: to the end, to a refusal, or to line i + 1.
pub data Run (s : List ℕ) : ℕ → ℕ → List ℕ → GuardsRead → Type 0 where
  end : {k i : ℕ} {g : List ℕ} → length s ≤ 9 * i → Run s k i g (lines i g)
  over : {i : ℕ} {g : List ℕ} → Run s zero i g (stopped refusal.TooLong most_frames g)
  stop : {k i : ℕ} {g : List ℕ} (r : Refusal) → (r ≡ refusal.TooLong → ⊥) → Run s k i g (stopped r i g)
  go_on : {k i : ℕ} {g : List ℕ} {r : GuardsRead} (w : ℕ) → line_of s (9 * i) ≡ Some w → Taken g w
      → Run s k (i + 1) (set g (guard_variable w) (guard_lock w)) r → Run s (suc k) i g r

pub run : (k : ℕ) (s : List ℕ) (i : ℕ) (g : List ℕ) → Run s k i g (guards_from k s i g)
unfolding guards_from
run zero s i g = go (leb (length s) (9 * i)) refl
  where
    go : (t : Bool) → leb (length s) (9 * i) ≡ t → Run s zero i g (guards_from zero s i g)
    go true q = rw q (end (leb-true (length s) (9 * i) q))
    go false q = rw q over
run (suc k) s i g = go (run k s (i + 1)) (leb (length s) (9 * i)) refl (line_of s (9 * i)) refl
  where
    word : ((h : List ℕ) → Run s k (i + 1) h (guards_from k s (i + 1) h)) → (w : ℕ) → line_of s (9 * i) ≡ Some w
        → (a : Bool) → leb variable_count (guard_variable w) ≡ a → (b : Bool) → leb lock_count (guard_lock w) ≡ b
        → (d : Bool) → eqb (get_or g (guard_variable w) 0) unprotected_code ≡ d
        → Run s (suc k) i g (on_guard_line (guard_line (Some w)) i g (λ g'. guards_from k s (i + 1) g'))
    word ih w p true x b y d z = rw x (stop refusal.GuardRange (λ e. never (cc)))
    word ih w p false x true y d z = rw (x, y) (stop refusal.GuardRange (λ e. never (cc)))
    word ih w p false x false y false z = rw (x, y, z) (stop refusal.GuardRepeated (λ e. never (cc)))
    word ih w p false x false y true z =
        rw (x, y, z)
        (go_on w p
        (record {
          variable = leb-false variable_count (guard_variable w) x;
          lock = leb-false lock_count (guard_lock w) y;
          unnamed = eqb-true (get_or g (guard_variable w) 0) unprotected_code z;
        })
        (ih (set g (guard_variable w) (guard_lock w))))

    go : ((h : List ℕ) → Run s k (i + 1) h (guards_from k s (i + 1) h)) → (t : Bool) → leb (length s) (9 * i) ≡ t
        → (l : Option ℕ) → line_of s (9 * i) ≡ l → Run s (suc k) i g (guards_from (suc k) s i g)
    go ih true q l p = rw q (end (leb-true (length s) (9 * i) q))
    go ih false q (Some w) p =
        rw (q, p) (word ih w p (leb variable_count (guard_variable w)) refl (leb lock_count (guard_lock w)) refl (eqb (get_or g (guard_variable w) 0) unprotected_code) refl)
    go ih false q None p = rw (q, p) (stop refusal.Line (λ e. never (cc)))

pub whole : (s : List ℕ) → Run s most_frames 0 no_guards (guards_read s)
whole s = run most_frames s 0 no_guards

-- the table keeps its length
run_length : {s : List ℕ} {k i : ℕ} {g : List ℕ} {r : GuardsRead} → Run s k i g r → length r.table ≡ length g
run_length (end h) = refl
run_length over = refl
run_length (stop r h) = refl
run_length {g = g} (go_on w e t m) = run_length m ∙ length-set g (guard_variable w) (guard_lock w)

pub table_length : (s : List ℕ) → length (guards_read s).table ≡ variable_count
table_length s = run_length (whole s) ∙ length-replicate {A = ℕ} variable_count unprotected_code

unnamed_code : (x : ℕ) → get_or no_guards x unprotected_code ≡ unprotected_code
unnamed_code x = get_or_filled variable_count x unprotected_code

never_code : {A : Type 0} → ◌≡◌ {A = ℕ} 0 unprotected_code → A
never_code e = absurd (omega arith)

-- a variable that is not named stands in the table
inside : (g : List ℕ) (v : ℕ) → get_or g v 0 ≡ unprotected_code → v < length g
inside [] v e = never_code e
inside (x ∷ xs) zero e = omega arith
inside (x ∷ xs) (suc v) e = omega (arith, inside xs v e)

default_code : (g : List ℕ) (v : ℕ) → get_or g v 0 ≡ unprotected_code → get_or g v unprotected_code ≡ unprotected_code
default_code [] v e = refl
default_code (x ∷ xs) zero e = e
default_code (x ∷ xs) (suc v) e = default_code xs v e

-- the number of variables not named yet
unfoldable free : List ℕ → ℕ
free [] = 0
free (x ∷ xs) = cond (eqb x unprotected_code) (free xs + 1) (free xs)

free_set : (g : List ℕ) (v l : ℕ) → l < lock_count → get_or g v 0 ≡ unprotected_code → free (set g v l) + 1 ≡ free g
unfolding free
free_set [] v l h e = never_code e
free_set (x ∷ xs) zero l h e =
    let n : eqb l unprotected_code ≡ false = ne_eqb l unprotected_code (λ q. omega arith) in
    rw (n, eq-eqb x unprotected_code e)
free_set (x ∷ xs) (suc v) l h e = go (free_set xs v l h e) (eqb x unprotected_code) refl
  where
    go : free (set xs v l) + 1 ≡ free xs → (t : Bool) → eqb x unprotected_code ≡ t → free (x ∷ set xs v l) + 1 ≡ free (x ∷ xs)
    go ih true q = rw q (omega arith)
    go ih false q = rw q ih

free_replicate : (n : ℕ) → free (replicate n unprotected_code) ≡ n
unfolding free
free_replicate zero = refl
free_replicate (suc n) = omega (arith, free_replicate n)

same_refused : (a b : Refused) → ◌≡◌ {A = Result ℕ Refused} (Err a) (Err b) → a ≡ b
same_refused a b e = cc

-- each line names one variable more, so the lines never run out
run_short : {s : List ℕ} {k i : ℕ} {g : List ℕ} {r : GuardsRead} → Run s k i g r → free g < k
    → (p : ℕ) → r.reply ≡ Err (record { reason = refusal.TooLong; place = p }) → ⊥
run_short (end h) b p e = never (cc)
run_short over b p e = not-suc-le-zero b
run_short (stop r h) b p e = h (ap (λ (z : Refused). z.reason) (same_refused _ _ e))
run_short {g = g} (go_on w q t m) b p e =
    run_short m (omega (arith, free_set g (guard_variable w) (guard_lock w) t.lock t.unnamed)) p e

pub lists_are_never_too_long : ListsAreNeverTooLong
lists_are_never_too_long s p e = run_short (whole s) (omega (arith, free_replicate variable_count)) p e

-- An accepted list: the reply is n lines.
module _ (s : List ℕ) (n : ℕ) where
  same_lines : (i : ℕ) → ◌≡◌ {A = Result ℕ Refused} (Ok i) (Ok n) → i ≡ n
  same_lines i e = cc

  word_of : (i w : ℕ) → line_of s (9 * i) ≡ Some w → word_at s i ≡ w
  unfolding word_at
  word_of i w e = rw e

  run_accepted : {k i : ℕ} {g : List ℕ} {r : GuardsRead} → Run s k i g r → r.reply ≡ Ok n → Accepted s k i n
  run_accepted {k} {i} (end h) e = rw (← same_lines i e) (ends h)
  run_accepted over e = never (cc)
  run_accepted (stop r h) e = never (cc)
  run_accepted (go_on w q t m) e = goes w q (run_accepted m e)

  run_after : {k i : ℕ} {g : List ℕ} {r : GuardsRead} → Run s k i g r → r.reply ≡ Ok n → i ≤ n
  run_after {i = i} (end h) e = omega (arith, same_lines i e)
  run_after over e = never (cc)
  run_after (stop r h) e = never (cc)
  run_after (go_on w q t m) e = omega (arith, run_after m e)

  -- the code of a named variable stays
  run_keeps : {k i : ℕ} {g : List ℕ} {r : GuardsRead} → Run s k i g r → (x : ℕ) → (get_or g x unprotected_code ≡ unprotected_code → ⊥) → get_or r.table x unprotected_code ≡ get_or g x unprotected_code
  run_keeps (end h) x f = refl
  run_keeps over x f = refl
  run_keeps (stop r h) x f = refl
  run_keeps {g = g} (go_on w q t m) x f =
      let o : get_or (set g (guard_variable w) (guard_lock w)) x unprotected_code ≡ get_or g x unprotected_code
      = get_or-set_other g (guard_variable w) x (guard_lock w) unprotected_code (λ e. f (rw e (default_code g (guard_variable w) t.unnamed))) in
      run_keeps m x (rw o f) ∙ o

  set_lock : (g : List ℕ) (w : ℕ) → Taken g w → get_or (set g (guard_variable w) (guard_lock w)) (guard_variable w) unprotected_code ≡ guard_lock w
  set_lock g w t = get_or-set_same g (guard_variable w) (guard_lock w) unprotected_code (inside g (guard_variable w) t.unnamed)

  run_named : {k i : ℕ} {g : List ℕ} {r : GuardsRead} → Run s k i g r → r.reply ≡ Ok n
      → (j : ℕ) → i ≤ j → j < n → get_or r.table (guard_variable (word_at s j)) unprotected_code ≡ guard_lock (word_at s j)
  run_named {i = i} (end h) e j a b = absurd (omega (arith, same_lines i e))
  run_named over e j a b = never (cc)
  run_named (stop r h) e j a b = never (cc)
  run_named {i = i} {g} {r} (go_on w q t m) e j a b =
      let o = set_lock g w t in
      let here : get_or r.table (guard_variable w) unprotected_code ≡ guard_lock w = run_keeps m (guard_variable w) (rw o (λ z. omega (arith, t.lock))) ∙ o in
      from_here (λ j. get_or r.table (guard_variable (word_at s j)) unprotected_code ≡ guard_lock (word_at s j)) i n (rw (word_of i w q) here) (λ l c d. run_named m e l c d) j a b

  run_unnamed : {k i : ℕ} {g : List ℕ} {r : GuardsRead} → Run s k i g r → r.reply ≡ Ok n
      → (x : ℕ) → ((j : ℕ) → i ≤ j → j < n → guard_variable (word_at s j) ≡ x → ⊥) → get_or r.table x unprotected_code ≡ get_or g x unprotected_code
  run_unnamed (end h) e x f = refl
  run_unnamed over e x f = refl
  run_unnamed (stop r h) e x f = refl
  run_unnamed {i = i} {g} (go_on w q t m) e x f =
      run_unnamed m e x (λ j a b. f j (omega arith) b)
      ∙ get_or-set_other g (guard_variable w) x (guard_lock w) unprotected_code (λ z. f i (omega arith) (omega (arith, run_after m e)) (rw (word_of i w q) (sym z)))

  run_range : {k i : ℕ} {g : List ℕ} {r : GuardsRead} → Run s k i g r → r.reply ≡ Ok n
      → (j : ℕ) → i ≤ j → j < n → (guard_variable (word_at s j) < variable_count) × (guard_lock (word_at s j) < lock_count)
  run_range {i = i} (end h) e j a b = absurd (omega (arith, same_lines i e))
  run_range over e j a b = never (cc)
  run_range (stop r h) e j a b = never (cc)
  run_range {i = i} (go_on w q t m) e j a b =
      from_here (λ j. (guard_variable (word_at s j) < variable_count) × (guard_lock (word_at s j) < lock_count)) i n (rw (word_of i w q) (t.variable, t.lock)) (λ l c d. run_range m e l c d) j a b

  other : (g : List ℕ) (w : ℕ) → Taken g w → (x : ℕ) → get_or (set g (guard_variable w) (guard_lock w)) x unprotected_code ≡ unprotected_code → x ≡ guard_variable w → ⊥
  other g w t x f z = let o : guard_lock w ≡ unprotected_code = sym (set_lock g w t) ∙ (rw z at f) in omega (arith, t.lock)

  -- a variable that is not named after a line was not named before it, nor by it
  back : (g : List ℕ) (w : ℕ) → Taken g w → (x : ℕ) → get_or (set g (guard_variable w) (guard_lock w)) x unprotected_code ≡ unprotected_code → get_or g x unprotected_code ≡ unprotected_code
  back g w t x f = sym (get_or-set_other g (guard_variable w) x (guard_lock w) unprotected_code (other g w t x f)) ∙ f

  -- a variable that a later line names is not named yet
  run_fresh : {k i : ℕ} {g : List ℕ} {r : GuardsRead} → Run s k i g r → r.reply ≡ Ok n
      → (j : ℕ) → i ≤ j → j < n → get_or g (guard_variable (word_at s j)) unprotected_code ≡ unprotected_code
  run_fresh {i = i} (end h) e j a b = absurd (omega (arith, same_lines i e))
  run_fresh over e j a b = never (cc)
  run_fresh (stop r h) e j a b = never (cc)
  run_fresh {i = i} {g} (go_on w q t m) e j a b =
      from_here (λ j. get_or g (guard_variable (word_at s j)) unprotected_code ≡ unprotected_code) i n
      (rw (word_of i w q) (default_code g (guard_variable w) t.unnamed))
      (λ l c d. back g w t (guard_variable (word_at s l)) (run_fresh m e l c d))
      j
      a
      b

  run_distinct : {k i : ℕ} {g : List ℕ} {r : GuardsRead} → Run s k i g r → r.reply ≡ Ok n
      → (j : ℕ) → i ≤ j → j < n → (l : ℕ) → j < l → l < n → guard_variable (word_at s l) ≡ guard_variable (word_at s j) → ⊥
  run_distinct {i = i} (end h) e j a b = absurd (omega (arith, same_lines i e))
  run_distinct over e j a b = never (cc)
  run_distinct (stop r h) e j a b = never (cc)
  run_distinct {i = i} {g} (go_on w q t m) e j a b =
      from_here (λ j. (l : ℕ) → j < l → l < n → guard_variable (word_at s l) ≡ guard_variable (word_at s j) → ⊥) i n
      (λ l c d z. other g w t (guard_variable (word_at s l)) (run_fresh m e l (omega arith) d) (rw (word_of i w q) at z))
      (λ x c d. run_distinct m e x c d)
      j
      a
      b

-- What an accepted list says: the reply is n lines.
module _ (s : List ℕ) (n : ℕ) (e : (guards_read s).reply ≡ Ok n) where
  -- its text is n lines of nine bytes, each with its LF
  pub guards_length : 9 * n ≡ length s
  guards_length = accepted_length (omega arith) (run_accepted s n (whole s) e)

  pub guards_range : (i : ℕ) → i < n → (guard_variable (word_at s i) < variable_count) × (guard_lock (word_at s i) < lock_count)
  guards_range i h = run_range s n (whole s) e i (omega arith) h

  -- "names each variable at most once"
  pub guards_distinct : (i j : ℕ) → i < j → j < n → guard_variable (word_at s j) ≡ guard_variable (word_at s i) → ⊥
  guards_distinct i j h l = run_distinct s n (whole s) e i (omega arith) (omega arith) j h l

  -- the table has each named variable's lock, whatever the order of the lines
  pub guards_named : (i : ℕ) → i < n → get_or (guards_read s).table (guard_variable (word_at s i)) unprotected_code ≡ guard_lock (word_at s i)
  guards_named i h = run_named s n (whole s) e i (omega arith) h

  -- and each other variable is unprotected
  pub guards_unnamed : (x : ℕ) → ((i : ℕ) → i < n → guard_variable (word_at s i) ≡ x → ⊥) → get_or (guards_read s).table x unprotected_code ≡ unprotected_code
  guards_unnamed x f = run_unnamed s n (whole s) e x (λ j a b. f j b) ∙ unnamed_code x

  -- the same of the guards that the codes stand for
  pub named_guard : (i : ℕ) → i < n → guard_of (get_or (guards_read s).table (guard_variable (word_at s i)) unprotected_code) ≡ Locked (record { 0 = guard_lock (word_at s i) })
  named_guard i h = rw (guards_named i h) (rw (lt-ltb (guard_lock (word_at s i)) lock_count (omega (arith, (guards_range i h).1))))

  pub unnamed_guard : (x : ℕ) → ((i : ℕ) → i < n → guard_variable (word_at s i) ≡ x → ⊥) → guard_of (get_or (guards_read s).table x unprotected_code) ≡ Unprotected
  unnamed_guard x f = rw (guards_unnamed x f)

-- A list that is `Listed` is accepted.
module _ (s : List ℕ) (n : ℕ) (a : Listed s n) where
  line_taken : (i : ℕ) (g : List ℕ) (more : List ℕ → GuardsRead) → i < n → get_or g (guard_variable (word_at s i)) 0 ≡ unprotected_code
      → on_guard_line (guard_line (line_of s (9 * i))) i g more ≡ more (set g (guard_variable (word_at s i)) (guard_lock (word_at s i)))
  line_taken i g more h e =
      rw (
        a.line_at i h,
        lt-leb variable_count (guard_variable (word_at s i)) (a.variables i h),
        lt-leb lock_count (guard_lock (word_at s i)) (a.locks i h),
        eq-eqb (get_or g (guard_variable (word_at s i)) 0) unprotected_code e,
      )

  all_taken : (d k i : ℕ) (g : List ℕ) → i + d ≡ n → free g < k
      → ((j : ℕ) → i ≤ j → j < n → get_or g (guard_variable (word_at s j)) 0 ≡ unprotected_code) → (guards_from k s i g).reply ≡ Ok n
  all_taken zero k i g e h f =
      let q : i ≡ n = omega arith in
      ap (λ (z : GuardsRead). z.reply) (guards_done s i g k (omega (arith, a.size))) ∙ rw q
  all_taken (suc d) zero i g e h f = absurd (not-suc-le-zero h)
  all_taken (suc d) (suc k) i g e h f =
      let l : i < n = omega arith in
      let v = guard_variable (word_at s i) in
      let u = f i (omega arith) l in
      ap (λ (z : GuardsRead). z.reply)
      (guards_step s i g (suc k) k refl (omega (arith, a.size)) ∙ line_taken i g (λ g'. guards_from k s (i + 1) g') l u)
      ∙ all_taken d k (i + 1) (set g v (guard_lock (word_at s i))) (omega arith)
      (omega (arith, free_set g v (guard_lock (word_at s i)) (a.locks i l) u))
      (λ j c b. get_or-set_other g v (guard_variable (word_at s j)) (guard_lock (word_at s i)) 0 (a.distinct i j (omega arith) b) ∙ f j (omega arith) b)

  pub guards_accepts : (guards_read s).reply ≡ Ok n
  guards_accepts = all_taken n most_frames 0 no_guards (omega arith) (omega (arith, free_replicate variable_count)) (λ j c b. get_or-replicate variable_count (guard_variable (word_at s j)) unprotected_code 0 (omega (arith, a.variables j b)))

-- and an accepted list is one
pub guards_listed : (s : List ℕ) (n : ℕ) → (guards_read s).reply ≡ Ok n → Listed s n
guards_listed s n e = record {
  size = sym (guards_length s n e);
  line_at = λ i h. accepted_line (run_accepted s n (whole s) e) i (omega arith) h;
  variables = λ i h. (guards_range s n e i h).0;
  locks = λ i h. (guards_range s n e i h).1;
  distinct = guards_distinct s n e;
}

-- Whether one of the first n lines names the variable x.
data Named (s : List ℕ) (x n : ℕ) : Type 0 where
  by : (i : ℕ) → i < n → guard_variable (word_at s i) ≡ x → Named s x n
  by_none : ((i : ℕ) → i < n → guard_variable (word_at s i) ≡ x → ⊥) → Named s x n

named : (s : List ℕ) (x n : ℕ) → Named s x n
named s x zero = by_none (λ i h e. not-suc-le-zero h)
named s x (suc n) = go (named s x n) (eqb (guard_variable (word_at s n)) x) refl
  where
    go : Named s x n → (t : Bool) → eqb (guard_variable (word_at s n)) x ≡ t → Named s x (suc n)
    go m true q = by n (omega arith) (eqb-true (guard_variable (word_at s n)) x q)
    go (by i h e) false q = by i (omega arith) e
    go (by_none f) false q = by_none (λ i h e. here i h e (eqb i n) refl)
      where
        here : (i : ℕ) → i < suc n → guard_variable (word_at s i) ≡ x → (t : Bool) → eqb i n ≡ t → ⊥
        here i h e true p = eqb-false (guard_variable (word_at s n)) x q (rw (← eqb-true i n p) e)
        here i h e false p = f i (omega (arith, eqb-false i n p)) e

-- "Line order in it has no meaning": two accepted lists with the same lines, each line of one at some place of the other, give one table.
module _ (s t : List ℕ) (m n : ℕ) (e : (guards_read s).reply ≡ Ok m) (u : (guards_read t).reply ≡ Ok n)
    (f : ℕ → ℕ) (there : (i : ℕ) → i < m → (f i < n) × (word_at t (f i) ≡ word_at s i))
    (h : ℕ → ℕ) (back-here : (j : ℕ) → j < n → (h j < m) × (word_at s (h j) ≡ word_at t j)) where
  same_code : (x : ℕ) → Named s x m → get_or (guards_read s).table x unprotected_code ≡ get_or (guards_read t).table x unprotected_code
  same_code x (by i l q) =
      let b : get_or (guards_read t).table (guard_variable (word_at s i)) unprotected_code ≡ guard_lock (word_at s i) = rw (there i l).1 at (guards_named t n u (f i) (there i l).0) in
      let c = guards_named s m e i l ∙ sym b in
      rw q at c
  same_code x (by_none z) =
      guards_unnamed s m e x z
      ∙ sym (guards_unnamed t n u x (λ j l q. z (h j) (back-here j l).0 (rw (back-here j l).1 q)))

  pub line_order : (guards_read s).table ≡ (guards_read t).table
  line_order =
      ext_get_or unprotected_code (guards_read s).table (guards_read t).table (table_length s ∙ sym (table_length t))
      (λ x l. same_code x (named s x m))
