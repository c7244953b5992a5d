-- One word that passes the tests is a frame that passes, and leaves what is stored: a law for each operation, and one over all. Then the turns
-- of the loop.
use Rattle.std.specs.Prelude.{Ok}
use Prim.Native.Nat.{ℕ, ◌+◌, ◌-◌, ◌%◌, ◌≤◌, ◌<◌}
use mathlib.Core.Path.{◌≡◌, sym, ap, ◌∙◌, subst}
use mathlib.Core.Bool.{false}
use mathlib.Core.List.{List}
use native.Mathlib.Omega.{arith}
use native.Mathlib.Numerals.{add-one}
use borrow.Author.Tests.{lt-ltb, lt-leb, leb-true, leb-false, eq-eqb, ne_eqb, eqb-true, eqb-false}
use lib.Dec.{eqb, leb}
use lib.ListN.{length, get_or, set}
use lib.Seq.{set-get_or, drop-cons}
use Rattle.laws.proofs.Logic.{by_test, either}
use Rattle.frame.specs.Limits.{thread_count, lock_count, variable_count, deepest, most_held}
use Rattle.frame.specs.Frame.{decode_parts, decode_word}
use Rattle.soundness.specs.Soundness.{state_of, stepped, step_action, step_decoded, check_from}
use Rattle.soundness.specs.declared.State.{State}
use Rattle.soundness.specs.declared.Level.{Level}
use Rattle.soundness.specs.declared.Level.TheVariants.{Outer, Inner}
use Rattle.quick.specs.Quick.{picked, object_end, held_end, owner_after, PassedTo}

-- 1 or 0
pub at_most_one : (n k r : ℕ) → r ≡ picked n k 1 0 → r ≤ 1
at_most_one n k r e = rw e (either (λ (x : ℕ). x ≤ 1) (eqb n k) (omega arith) (omega arith))

-- a number that is not 0, where a test says so of another
not_none : (x y : ℕ) → picked x 0 1 0 ≡ picked y 0 1 0 → (x ≡ 0 → ⊥) → y ≡ 0 → ⊥
not_none x y e h z = omega (arith, rw (ne_eqb x 0 h, eq-eqb y 0 z) at e)

-- a thread lets go a lock that is its own, and so held
pub enough : (op t x n r : ℕ) → picked x 0 1 0 ≡ picked n 0 1 0 → n < held_end op (t + 1) x → r ≡ picked op 2 1 0 → r ≤ n + picked op 1 1 0
enough op t x n r z h e = by_test (eqb op 2)
    (λ q. by_test (eqb x (t + 1))
    (λ p. let k : n ≡ 0 → ⊥ = not_none x n z (λ y. omega (arith, eqb-true x (t + 1) p)) in omega (arith, at_most_one op 2 r e))
    (λ p. let k : n < picked op 1 1 0 = rw (p, q) at h in absurd (go (eqb-true op 2 q) k)))
    (λ q. let k : r ≡ 0 = rw q at e in omega arith)
  where
    go : op ≡ 2 → n < picked op 1 1 0 → ⊥
    go y k = let m : n < 0 = rw y at k in omega arith

-- an entry stored where it stands
stored : (l : List ℕ) (k v : ℕ) → get_or l k 0 ≡ v → set l k v ≡ l
stored l k v e = ap (set l k) (sym e) ∙ set-get_or l k 0

-- the operation, the thread and the object of a word, and the owners, counts and depths before it
module _ (o c d : List ℕ) (t b : ℕ) where
  -- the lock of that number, where the object is one, its owner and its count; the thread's depth
  abbrev lock : ℕ
  lock = b % lock_count

  abbrev owner : ℕ
  owner = get_or o lock 0

  abbrev count : ℕ
  count = get_or c lock 0

  abbrev depth : ℕ
  depth = get_or d t 0

  -- the lock's count and the thread's depth after an operation
  abbrev counted : ℕ → ℕ
  counted op = count + picked op 1 1 0 - picked op 2 1 0

  abbrev nested : ℕ → ℕ
  nested op = depth + picked op 5 1 0 - picked op 6 1 0

  -- a word of an operation that passes the tests steps to what is stored
  abbrev pub Turn : ℕ → Type 0
  Turn op =
      b < object_end op → picked owner 0 1 0 ≡ picked count 0 1 0 → count < held_end op (t + 1) owner → count ≤ most_held - picked op 1 1 0
      → depth ≤ deepest - picked op 5 1 0 → picked op 6 1 0 ≤ depth + picked op 5 1 0
      → (x : Level)
      × (step_decoded (decode_parts op t b) (state_of o c d)
      ≡ stepped (Ok x)
      (state_of (set o lock (owner_after op (t + 1) owner (counted op))) (set c lock (counted op)) (set d t (nested op))))

  module _ (small : t < thread_count) where
    -- the depth and the count stay
    same_depth : set d t (depth + 0 - 0) ≡ d
    same_depth = let q : depth + 0 - 0 ≡ depth = omega arith in rw q (set-get_or d t 0)

    same_count : set c lock (count + 0 - 0) ≡ c
    same_count = let q : count + 0 - 0 ≡ count = omega arith in rw q (set-get_or c lock 0)

    turn_1 : Turn 1
    unfolding decode_parts step_action
    turn_1 hb z w v u l =
        let m : lock ≡ b = omega arith in
        let p : get_or c b 0 + 1 - 0 ≡ get_or c b 0 + 1 = omega arith in
        let k : eqb (get_or c b 0 + 1) 0 ≡ false = ne_eqb (get_or c b 0 + 1) 0 (λ y. omega arith) in
        by_test (eqb owner (t + 1))
        (λ q.
        let e : get_or o b 0 ≡ t + 1 = rw m at (eqb-true owner (t + 1) q) in
        let n : eqb (get_or o b 0) 0 ≡ false = ne_eqb (get_or o b 0) 0 (λ y. omega arith) in
        let h : get_or c b 0 ≤ 14 = rw m at v in
        (Inner, rw (lt-leb thread_count t small, lt-ltb b lock_count hb, m, n, eq-eqb (get_or o b 0) (t + 1) e, lt-leb most_held (get_or c b 0) (omega arith), p, k, stored o b (t + 1) e, same_depth)))
        (λ q.
        let f : count < 1 = rw q at w in
        let g : count ≡ 0 = omega arith in
        let e : owner ≡ 0 = by_test (eqb owner 0) (λ y. eqb-true owner 0 y) (λ y. absurd (not_none owner count z (eqb-false owner 0 y) g)) in
        let e' : get_or o b 0 ≡ 0 = rw m at e in
        let g' : get_or c b 0 ≡ 0 = rw m at g in
        (Outer, rw (lt-leb thread_count t small, lt-ltb b lock_count hb, m, e', g', same_depth)))

    turn_2 : Turn 2
    unfolding decode_parts step_action
    turn_2 hb z w v u l =
        let m : lock ≡ b = omega arith in
        let p : get_or c b 0 + 0 - 1 ≡ get_or c b 0 - 1 = omega arith in
        by_test (eqb owner (t + 1))
        (λ q.
        let e : get_or o b 0 ≡ t + 1 = rw m at (eqb-true owner (t + 1) q) in
        let h : get_or c b 0 ≡ 0 → ⊥ = rw m at (not_none owner count z (λ y. omega (arith, eqb-true owner (t + 1) q))) in
        by_test (leb (get_or c b 0) 1)
        (λ y.
        let n : get_or c b 0 - 1 ≡ 0 = omega (arith, leb-true (get_or c b 0) 1 y) in
        (Outer, rw (lt-leb thread_count t small, lt-ltb b lock_count hb, m, eq-eqb (get_or o b 0) (t + 1) e, y, p, n, same_depth)))
        (λ y.
        let n : eqb (get_or c b 0 - 1) 0 ≡ false = ne_eqb (get_or c b 0 - 1) 0 (λ x. omega (arith, leb-false (get_or c b 0) 1 y)) in
        (Inner, rw (lt-leb thread_count t small, lt-ltb b lock_count hb, m, eq-eqb (get_or o b 0) (t + 1) e, y, p, n, stored o b (t + 1) e, same_depth))))
        (λ q. let f : count < 0 = rw q at w in absurd (omega arith))

    turn_3 : Turn 3
    unfolding decode_parts step_action
    turn_3 hb z w v u l = (Outer, rw (lt-leb thread_count t small, lt-ltb b variable_count hb, set-get_or o lock 0, same_count, same_depth))

    turn_4 : Turn 4
    unfolding decode_parts step_action
    turn_4 hb z w v u l = (Outer, rw (lt-leb thread_count t small, lt-ltb b variable_count hb, set-get_or o lock 0, same_count, same_depth))

    turn_5 : Turn 5
    unfolding decode_parts step_action
    turn_5 hb z w v u l =
        let y : b ≡ 0 = omega arith in
        let q : depth + 1 - 0 ≡ depth + 1 = omega arith in
        (Outer, rw (lt-leb thread_count t small, eq-eqb b 0 y, lt-leb deepest depth (omega arith), set-get_or o lock 0, same_count, q))

    turn_6 : Turn 6
    unfolding decode_parts step_action
    turn_6 hb z w v u l =
        let y : b ≡ 0 = omega arith in
        let q : depth + 0 - 1 ≡ depth - 1 = omega arith in
        (Outer, rw (lt-leb thread_count t small, eq-eqb b 0 y, ne_eqb depth 0 (λ e. omega arith), set-get_or o lock 0, same_count, q))

    pub turn : (op : ℕ) → 1 ≤ op → op ≤ 6 → Turn op
    turn op h k =
        by_test (eqb op 1) (λ e. subst Turn (sym (eqb-true op 1 e)) turn_1)
        (λ e1. by_test (eqb op 2) (λ e. subst Turn (sym (eqb-true op 2 e)) turn_2)
        (λ e2. by_test (eqb op 3) (λ e. subst Turn (sym (eqb-true op 3 e)) turn_3)
        (λ e3. by_test (eqb op 4) (λ e. subst Turn (sym (eqb-true op 4 e)) turn_4)
        (λ e4. by_test (eqb op 5) (λ e. subst Turn (sym (eqb-true op 5 e)) turn_5)
        (λ e5.
        let z : op ≡ 6 = omega (arith, eqb-false op 1 e1, eqb-false op 2 e2, eqb-false op 3 e3, eqb-false op 4 e4, eqb-false op 5 e5) in
        subst Turn (sym z) turn_6)))))

-- one word more has passed
pub passed_more : {ws : List ℕ} {i : ℕ} {s n m : State} {x : Level} → i < length ws → PassedTo ws i s n
    → step_decoded (decode_word (get_or ws i 0)) n ≡ stepped (Ok x) m
    → PassedTo ws (i + 1) s m
unfolding check_from
passed_more {ws} {i} h p e = record {
  within = omega arith;
  same = p.same ∙ rw (drop-cons ws i 0 h, e, add-one i);
}
