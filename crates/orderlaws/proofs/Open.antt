-- The begin that the code names as the first that is still open is the first that is. In this order: the earliest of the begins of the
-- threads; the depths after each frame of a pass; at each place, where the open blocks begin; the end.
use Rattle.std.specs.Prelude.{Ok, Option, Some, None}
use Prim.Native.Nat.{ℕ, zero, suc, ◌+◌, ◌≤◌, ◌<◌}
use mathlib.Core.Path.{◌≡◌, refl, sym, ap, ◌∙◌, subst}
use mathlib.Core.Logic.{◌⊎◌, inl, inr}
use mathlib.Core.Bool.{Bool, true, false, cond, ◌&&◌}
use mathlib.Core.List.{List, [], ◌∷◌, ◌++◌, append-nil}
use native.Mathlib.Omega.{arith}
use native.Mathlib.Numerals.{add-one}
use borrow.Author.Tests.{eqb-true, eqb-false, ne_eqb, ltb-true, ltb-false}
use lib.Dec.{eqb, ltb}
use lib.ListN.{length, get_or, take, drop, get_or-eq_default}
use lib.Seq.{take-suc, append_snoc, take_all}
use Rattle.laws.proofs.Lists.{rest_of, nothing_left}
use Rattle.pass.specs.Pass.{earlier, open_begin, first_open_from, full_sets, judge_from, judgement, open_at_end}
use Rattle.frame.specs.Limits.{thread_count}
use Rattle.laws.proofs.Logic.{never, from_here, by_test}
use Rattle.frame.specs.Frame.{decode_word}
use Rattle.frame.specs.declared.Frame.{Frame}
use Rattle.soundness.specs.Soundness.{Checked, stepped, step_frame, check_from, start}
use Rattle.soundness.specs.declared.State.{State}
use Rattle.soundness.specs.declared.Level.{Level}
use Rattle.instrumented.specs.Rules.{Judging}
use Rattle.rules.specs.Choice.{Reducible}
use Rattle.exchange.proofs.Sound.{goes_on}
use Rattle.serial.specs.Order.{Closed, depth_after, Open, FirstOpen}
use Rattle.reduction.proofs.Run.{thread_of, Run}
use Rattle.orderlaws.proofs.View.{OneFrame}
use Rattle.orderlaws.proofs.Recording.{Pass, end, on, start_long, start_view, depth_now, pass_end_long}
use Rattle.orderlaws.proofs.Order.{reducible_pass, end_depth, last_of, open_last}

-- the earlier of two places is one of them, and not behind either
earlier_one : (x y : Option ℕ) (b : ℕ) → earlier x y ≡ Some b → (x ≡ Some b) ⊎ (y ≡ Some b)
earlier_one None y b e = inr e
earlier_one (Some x) None b e = inl e
earlier_one (Some x) (Some y) b e = go (ltb y x) e
  where
    go : (t : Bool) → cond t (Some y) (Some x) ≡ Some b → (Some x ≡ Some b) ⊎ (Some y ≡ Some b)
    go true q = inr q
    go false q = inl q

-- A mark at b or before it.
abbrev By : Option ℕ → ℕ → Type 0
By m b = (c : ℕ) × (m ≡ Some c) × (c ≤ b)

earlier_left : (x : ℕ) (y : Option ℕ) → By (earlier (Some x) y) x
earlier_left x None = (x, refl, omega arith)
earlier_left x (Some y) = by_test (ltb y x) (λ q. (y, rw q, omega (arith, ltb-true y x q))) (λ q. (x, rw q, omega arith))

earlier_right : (x : Option ℕ) (y : ℕ) → By (earlier x (Some y)) y
earlier_right None y = (y, refl, omega arith)
earlier_right (Some x) y = by_test (ltb y x) (λ q. (y, rw q, omega arith)) (λ q. (x, rw q, omega (arith, ltb-false y x q)))

open_at : (d b : ℕ) → (d ≡ 0 → ⊥) → open_begin d b ≡ Some b
open_at d b n = rw (ne_eqb d 0 n)

open_is : (d b c : ℕ) → open_begin d b ≡ Some c → (d ≡ 0 → ⊥) × (b ≡ c)
open_is d b c e = by_test (eqb d 0) (λ q. let z : None ≡ Some c = rw q at e in never (cc)) (λ q. let z : Some b ≡ Some c = rw q at e in (eqb-false d 0 q, cc))

-- A thread whose block is open since b.
abbrev Since : List ℕ → List ℕ → ℕ → Type 0
Since depths begins b = (t : ℕ) × (get_or depths t 0 ≡ 0 → ⊥) × (get_or begins t 0 ≡ b)

-- The threads k, k + 1, .., of which there are n: b is the mark m or an open begin of one of them, and not behind m or any of these.
record Earliest (n k : ℕ) (m : Option ℕ) (depths begins : List ℕ) (b : ℕ) : Type 0 where
  is : (m ≡ Some b) ⊎ Since depths begins b
  of_mark : (x : ℕ) → m ≡ Some x → b ≤ x
  of_threads : (u : ℕ) → k ≤ u → u < k + n → (get_or depths u 0 ≡ 0 → ⊥) → b ≤ get_or begins u 0

earliest_next : (n k : ℕ) (m : Option ℕ) (depths begins : List ℕ) (b : ℕ)
    → Earliest n (k + 1) (earlier m (open_begin (get_or depths k 0) (get_or begins k 0))) depths begins b → Earliest (suc n) k m depths begins b
earliest_next n k m depths begins b ih = record {
  is = found ih.is;
  of_mark = λ x f. by x (rw f (earlier_left x (open_begin d c)));
  of_threads = from_here (λ u. (get_or depths u 0 ≡ 0 → ⊥) → b ≤ get_or begins u 0) k (k + suc n)
      (λ ne. by c (rw (open_at d c ne) (earlier_right m c))) (λ u p q. ih.of_threads u p (omega arith));
}
  where
    d : ℕ
    d = get_or depths k 0

    c : ℕ
    c = get_or begins k 0

    one : (m ≡ Some b) ⊎ (open_begin d c ≡ Some b) → (m ≡ Some b) ⊎ Since depths begins b
    one (inl g) = inl g
    one (inr g) = let q = open_is d c b g in inr (k, q.0, q.1)

    found : (earlier m (open_begin d c) ≡ Some b) ⊎ Since depths begins b → (m ≡ Some b) ⊎ Since depths begins b
    found (inr f) = inr f
    found (inl f) = one (earlier_one m (open_begin d c) b f)

    by : (x : ℕ) → By (earlier m (open_begin d c)) x → b ≤ x
    by x q = let l = ih.of_mark q.0 q.1 in let r = q.2 in omega arith

earliest : (n k : ℕ) (m : Option ℕ) (depths begins : List ℕ) (b : ℕ) → first_open_from n k m depths begins ≡ Some b → Earliest n k m depths begins b
unfolding first_open_from
earliest zero k m depths begins b e =
    record { is = inl e; of_mark = λ x f. let z : Some b ≡ Some x = sym e ∙ f in let y : b ≡ x = cc in omega arith; of_threads = λ u p q n. absurd (omega arith) }
earliest (suc n) k m depths begins b e =
    earliest_next n k m depths begins b (earliest n (k + 1) (earlier m (open_begin (get_or depths k 0) (get_or begins k 0))) depths begins b e)

-- The first i frames lead to state s.
abbrev pub Reached : List ℕ → ℕ → State → Type 0
Reached all i s = (r : List ℕ) → check_from 0 start (take i all ++ r) ≡ check_from i s r

pub reached_depth : (all : List ℕ) (i : ℕ) (s : State) → Reached all i s → (t : ℕ) → depth_after all t i ≡ get_or s.depths t 0
unfolding check_from
reached_depth all i s h t =
    ap (λ (l : List ℕ). get_or (check_from 0 start l).state.depths t 0) (sym (append-nil (take i all)))
    ∙ ap (λ (x : Checked). get_or x.state.depths t 0) (h [])

pub reached_next : {x : Level} (all : List ℕ) (i w : ℕ) (ws : List ℕ) (s n : State) (f : Frame) → drop i all ≡ w ∷ ws → decode_word w ≡ Ok f
    → step_frame f s ≡ stepped (Ok x) n → Reached all i s → Reached all (suc i) n
reached_next all i w ws s n f e d g h r =
    let q = rest_of all i w ws e in
    ap (λ (l : List ℕ). check_from 0 start (l ++ r)) (take-suc all i 0 q.0)
    ∙ (ap (λ (l : List ℕ). check_from 0 start l) (append_snoc (take i all) (get_or all i 0) r)
    ∙ (h (get_or all i 0 ∷ r)
    ∙ (ap (λ (x : ℕ). check_from i s (x ∷ r)) q.1 ∙ (goes_on i s n w r f d g ∙ ap (λ (m : ℕ). check_from m n r) (add-one i)))))

-- Thread t's block that begins at b is open after the first i frames.
record OpenTo (all : List ℕ) (t i b : ℕ) : Type 0 where
  within : b < i
  raised : depth_after all t b ≡ 0
  stays : (k : ℕ) → b < k → k ≤ i → depth_after all t k ≡ 0 → ⊥

-- Where a thread's depth is not 0, the block open there begins where the pass has it.
abbrev Begun : List ℕ → ℕ → State → Judging → Type 0
Begun all i s j = (t : ℕ) → (get_or s.depths t 0 ≡ 0 → ⊥) → OpenTo all t i (get_or j.begins t 0)

module _ (guards : List ℕ) where
  begun_next : (all : List ℕ) {i : ℕ} {s n : State} {j k : Judging} (f : Frame) → OneFrame guards i f s j n k
      → Reached all i s → Reached all (suc i) n → Begun all i s j → Begun all (suc i) n k
  begun_next all {i} {s} {n} {j} {k} f o h next b u ne =
      subst (λ (x : ℕ). OpenTo all u (suc i) x) (sym (o.begun u ne)) (go (eqb u t) (eqb (get_or s.depths t 0) 0) refl refl)
    where
      t : ℕ
      t = thread_of f

      at_next : (m : ℕ) → m ≡ suc i → depth_after all u m ≡ 0 → ⊥
      at_next m e z = ne (sym (reached_depth all (suc i) n next u) ∙ (ap (λ (x : ℕ). depth_after all u x) (sym e) ∙ z))

      longer : (c : ℕ) → OpenTo all u i c → OpenTo all u (suc i) c
      longer c p = record {
        within = let l = p.within in omega arith;
        raised = p.raised;
        stays = λ m l r z. by_test (ltb i m) (λ q. at_next m (omega (arith, ltb-true i m q)) z) (λ q. p.stays m l (ltb-false i m q) z);
      }

      others : eqb u t ≡ false → get_or s.depths u 0 ≡ 0 → ⊥
      others a z = ne (depth_now guards u f o ∙ (rw (ne_eqb (thread_of f) u (λ y. eqb-false _ _ a (sym y))) z))

      go : (x y : Bool) → eqb u t ≡ x → eqb (get_or s.depths t 0) 0 ≡ y → OpenTo all u (suc i) (cond (x && y) i (get_or j.begins u 0))
      go true true x y = record {
        within = omega arith;
        raised = reached_depth all i s h u ∙ (ap (λ (z : ℕ). get_or s.depths z 0) (eqb-true u t x) ∙ eqb-true (get_or s.depths t 0) 0 y);
        stays = λ m l r z. at_next m (omega arith) z;
      }
      go true false x y = longer (get_or j.begins u 0) (b u (λ z. eqb-false (get_or s.depths t 0) 0 y (ap (λ (v : ℕ). get_or s.depths v 0) (sym (eqb-true u t x)) ∙ z)))
      go false y x z = longer (get_or j.begins u 0) (b u (others x))

  begun_end : (all : List ℕ) {i : ℕ} {s : State} {j : Judging} {ws : List ℕ} → Pass guards i s j ws → drop i all ≡ ws → i ≤ length all → Reached all i s
      → Begun all i s j → Begun all (length all) (judge_from guards i s j ws).state (judge_from guards i s j ws).judging
  unfolding judge_from
  begun_end all (end {i = i} {s = s} {j = j}) e l h b =
      let q = nothing_left all i e in
      let z : i ≡ length all = omega arith in
      subst (λ (m : ℕ). Begun all m s j) z b
  begun_end all (on {i = i} {s = s} {w = w} {ws = ws} {f = f} {n = n} d g a o rest) e l h b =
      let q = rest_of all i w ws e in
      let next = reached_next all i w ws s n f e d g h in
      rw (d, a, g, add-one i) (begun_end all rest q.2 q.0 next (begun_next all f o h next b))

-- a block that is open at the end leaves its thread's depth above 0
open_to_end : (ws : List ℕ) (t c : ℕ) → Open ws t c → get_or (check_from 0 start ws).state.depths t 0 ≡ 0 → ⊥
open_to_end ws t c o z = o.stays (length ws) o.within (omega arith) (ap (λ (l : List ℕ). get_or (check_from 0 start l).state.depths t 0) (take_all (length ws) ws (omega arith)) ∙ z)

-- "All blocks are closed": none is open.
pub none_closed : (ws : List ℕ) (b : ℕ) → FirstOpen ws b → Closed ws → ⊥
none_closed ws b o c = open_to_end ws o.thread b o.is_open (c o.thread)

-- a thread has one open block
one_begin : (ws : List ℕ) (t b c : ℕ) → Open ws t b → Open ws t c → b ≤ c
one_begin ws t b c p q = by_test (ltb c b)
    (λ l. absurd (q.stays b (ltb-true c b l) (let w = p.within in omega arith) p.raised))
    (λ l. ltb-false c b l)

module _ (guards ws : List ℕ) (r : Reducible guards ws) where
  at_end : Begun ws (length ws) (last_of guards ws).state (last_of guards ws).judging
  at_end = begun_end guards ws (reducible_pass guards ws r) refl (omega arith) (λ l. refl) (λ t ne. absurd (ne (ap (λ (x : Run). x.depth t) start_view)))

  -- The block of a thread whose depth is not 0 at the end.
  open_since : (t : ℕ) → (get_or (last_of guards ws).state.depths t 0 ≡ 0 → ⊥) → Open ws t (get_or (last_of guards ws).judging.begins t 0)
  open_since t ne = let q = at_end t ne in record { within = q.within; raised = q.raised; stays = q.stays }

  -- "smallest place of an open outermost begin": what the code finds is it.
  pub first_open_lem : (b : ℕ) → open_at_end (judgement guards full_sets ws) ≡ Some b → FirstOpen ws b
  first_open_lem b e = go q.is
    where
      q : Earliest thread_count 0 None (last_of guards ws).state.depths (last_of guards ws).judging.begins b
      q = earliest thread_count 0 None (last_of guards ws).state.depths (last_of guards ws).judging.begins b (sym (open_last guards ws r) ∙ e)

      not_closed : (t c : ℕ) → Open ws t c → get_or (last_of guards ws).state.depths t 0 ≡ 0 → ⊥
      not_closed t c o z = open_to_end ws t c o (sym (end_depth guards ws r t) ∙ z)

      in_range : (t : ℕ) → (get_or (last_of guards ws).state.depths t 0 ≡ 0 → ⊥) → t < thread_count
      in_range t ne = by_test (ltb t thread_count) (λ p. ltb-true t thread_count p)
          (λ p. let l : length (check_from 0 start ws).state.depths ≡ thread_count = pass_end_long guards (reducible_pass guards ws r) start_long in
          absurd (ne (end_depth guards ws r t ∙ get_or-eq_default (check_from 0 start ws).state.depths 0 (omega (arith, ltb-false t thread_count p)))))

      smallest : (t c : ℕ) → Open ws t c → b ≤ c
      smallest t c o =
          let ne = not_closed t c o in
          let l = q.of_threads t (omega arith) (in_range t ne) ne in
          let m = one_begin ws t (get_or (last_of guards ws).judging.begins t 0) c (open_since t ne) o in
          omega arith

      go : (None ≡ Some b) ⊎ Since (last_of guards ws).state.depths (last_of guards ws).judging.begins b → FirstOpen ws b
      go (inl z) = never (cc)
      go (inr t) = record { thread = t.0; is_open = subst (λ (c : ℕ). Open ws t.0 c) t.2 (open_since t.0 t.1); smallest = smallest }
