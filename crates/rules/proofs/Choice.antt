-- Inferred guards find a recording reducible exactly if some choice of one lock for each variable does. In this order: the guards of a choice,
-- one operation judged on both sides, one frame, the sets that a pass leaves, the whole pass on both sides, the claims.
use Rattle.std.specs.Prelude.{Result, Ok, Err}
use Prim.Native.Nat.{ℕ, zero, suc, ◌+◌, ◌≤◌, ◌<◌}
use mathlib.Core.Path.{◌≡◌, refl, sym, ap, ◌∙◌, subst}
use mathlib.Core.Bool.{Bool, true, false, cond}
use mathlib.Core.List.{List, [], ◌∷◌}
use native.Mathlib.Omega.{arith}
use native.Mathlib.Decide.{ℕ_discrete}
use borrow.Author.Tests.{eqb-true, eqb-false, ne_eqb, ltb-true, ltb-false, lt-ltb}
use lib.Bits.{bit_and, and_le_l}
use lib.Dec.{eqb, ltb}
use lib.ListN.{length, get_or, set, drop, replicate, length-set, length-replicate, get_or-replicate}
use lib.Seq.{get_or-set_same, get_or-set_other, get_or-drop}
use Rattle.verdict.specs.Verdict.{inferred_reply}
use Rattle.turn.specs.Turn.{judge_frame}
use Rattle.pass.specs.Pass.{Ended, judge_from, start_judging, full_sets, judgement}
use Rattle.frame.specs.Limits.{lock_count, variable_count, all_locks}
use Rattle.laws.proofs.Logic.{never}
use Rattle.frame.specs.Frame.{ObjectInRange, decode_word}
use Rattle.frame.proofs.Laws.{decoded_in_range}
use Rattle.frame.specs.declared.Thread.{Thread}
use Rattle.frame.specs.declared.Lock.{Lock}
use Rattle.frame.specs.declared.Variable.{Variable}
use Rattle.frame.specs.declared.Frame.{Frame}
use Rattle.frame.specs.declared.Action.{Action}
use Rattle.frame.specs.declared.Action.TheVariants as action
use Rattle.guards.specs.Guards.{guard_of, unprotected_code, inferred_code, inferred_guards}
use Rattle.guards.specs.declared.Guard.{Guard}
use Rattle.guards.specs.declared.Guard.TheVariants as guard
use Rattle.reply.specs.Reply.{refused, reducible, violated, Verdict}
use Rattle.reply.specs.declared.Violation.{Violation}
use Rattle.soundness.specs.Soundness.{step_frame, level_of, start}
use Rattle.soundness.specs.declared.State.{State}
use Rattle.soundness.specs.declared.Level.{Level}
use Rattle.soundness.specs.declared.Level.TheVariants as level
use Rattle.instrumented.specs.Rules.{Phase, outside, before, after, Judging, judging_of, Judged, judged, phase_at, contains, with_commit, committed, acquire_in, unprotected_in, judge_operation}
use Rattle.operation.specs.Operation.{guarded_access, access_of, operation_of}
use Rattle.instrumented.specs.Held.{held_set}
use Rattle.operation.specs.declared.Operation.{Operation}
use Rattle.operation.specs.declared.Operation.TheVariants.{Acquire, Release, Protected, Unprotected, Inferred, Begin, End}
use Rattle.pass.proofs.Judgement.{judgement_pass, judgement_sound}
use Rattle.verdict.proofs.Laws.{own_table}
use Rattle.rules.specs.Choice.{Reducible, Choice, choose, InferredIsSomeChoice, InferredVerdictIsSomeChoice}
use Rattle.rules.proofs.Bits.{and_holds, and_holds_both, not_empty, full_holds, some_lock}
use Rattle.frame.specs.declared.Refusal.{Refusal}

-- the lock chosen for a variable
abbrev lock_of : List ℕ → ℕ → Lock
lock_of locks x = record { 0 = get_or locks x 0 }

-- an operation under the chosen locks
abbrev pub chosen : List ℕ → Operation → Operation
chosen locks (Acquire l) = Acquire l
chosen locks (Release l) = Release l
chosen locks (Protected m) = Protected m
chosen locks Unprotected = Unprotected
chosen locks (Inferred v) = Protected (lock_of locks v.0)
chosen locks Begin = Begin
chosen locks End = End

-- a variable's guard is the chosen lock where it is inferred
choose_at : (guards locks : List ℕ) (x : ℕ) → get_or (choose guards locks) x 0 ≡ cond (ltb unprotected_code (get_or guards x 0)) (get_or locks x 0) (get_or guards x 0)
choose_at [] locks x = refl
choose_at (c ∷ guards) locks zero = refl
choose_at (c ∷ guards) locks (suc x) =
    choose_at guards (drop 1 locks) x
    ∙ ap (λ (n : ℕ). cond (ltb unprotected_code (get_or guards x 0)) n (get_or guards x 0)) (get_or-drop 1 locks x 0 ∙ ap (λ (n : ℕ). get_or locks n 0) one_more)
  where
    one_more : 1 + x ≡ suc x
    one_more = omega arith

-- where every guard is inferred, the chosen locks are the guards
choose_all : (n : ℕ) (locks : List ℕ) → length locks ≡ n → choose (replicate n inferred_code) locks ≡ locks
choose_all zero [] e = refl
choose_all zero (l ∷ locks) e = absurd (omega arith)
choose_all (suc n) [] e = absurd (omega arith)
choose_all (suc n) (l ∷ locks) e = ap (λ (r : List ℕ). l ∷ r) (choose_all n locks (omega arith))

-- an access under a guard that is replaced where it is inferred is the access under the chosen lock
access_chosen : (locks : List ℕ) (v : Variable) (g : ℕ) → get_or locks v.0 0 < lock_count
    → guarded_access (guard_of (cond (ltb unprotected_code g) (get_or locks v.0 0) g)) v ≡ chosen locks (guarded_access (guard_of g) v)
access_chosen locks v g s = go (ltb unprotected_code g) refl (ltb g lock_count) refl (eqb g unprotected_code) refl
  where
    go : (p : Bool) → ltb unprotected_code g ≡ p → (q : Bool) → ltb g lock_count ≡ q → (r : Bool) → eqb g unprotected_code ≡ r
        → guarded_access (guard_of (cond (ltb unprotected_code g) (get_or locks v.0 0) g)) v ≡ chosen locks (guarded_access (guard_of g) v)
    go true e true f r k = absurd (omega (arith, ltb-true unprotected_code g e, ltb-true g lock_count f))
    go true e false f true k = absurd (omega (arith, ltb-true unprotected_code g e, eqb-true g unprotected_code k))
    go true e false f false k = rw (e, f, k, lt-ltb (get_or locks v.0 0) lock_count s)
    go false e true f r k = rw (e, f)
    go false e false f true k = rw (e, f, k)
    go false e false f false k = absurd (eqb-false g unprotected_code k (omega (arith, ltb-false unprotected_code g e, ltb-false g lock_count f)))

-- an action through the chosen guards is the operation under the chosen lock
module _ (guards locks : List ℕ) (c : Choice locks) where
  variable_chosen : (v : Variable) → access_of (choose guards locks) v ≡ chosen locks (access_of guards v)
  variable_chosen v =
      ap (λ (n : ℕ). guarded_access (guard_of n) v) (choose_at guards locks v.0) ∙ access_chosen locks v (get_or guards v.0 0) (c.small v.0)

  pub operation_chosen : (x : Level) (a : Action) → operation_of (choose guards locks) x a ≡ chosen locks (operation_of guards x a)
  operation_chosen level.Outer (action.Acquire l) = refl
  operation_chosen level.Inner (action.Acquire l) = refl
  operation_chosen level.Outer (action.Release l) = refl
  operation_chosen level.Inner (action.Release l) = refl
  operation_chosen x (action.Read v) = variable_chosen v
  operation_chosen x (action.Write v) = variable_chosen v
  operation_chosen x action.Begin = refl
  operation_chosen x action.End = refl

-- An operation is one that every choice leaves as it is, or an access under an inferred guard.
abbrev Plain : Operation → Type 0
Plain o = (locks : List ℕ) → chosen locks o ≡ o

data Seen : Operation → Type 0 where
  plain : {o : Operation} → Plain o → Seen o
  inferred : (v : Variable) → v.0 < variable_count → Seen (Inferred v)

-- every action of a frame in range is seen so
seen_access : (g : Guard) (v : Variable) → v.0 < variable_count → Seen (guarded_access g v)
seen_access (guard.Locked m) v h = plain (λ locks. refl)
seen_access guard.Unprotected v h = plain (λ locks. refl)
seen_access guard.Inferred v h = inferred v h

seen : (guards : List ℕ) (x : Level) (a : Action) → ObjectInRange a → Seen (operation_of guards x a)
seen guards level.Outer (action.Acquire l) h = plain (λ locks. refl)
seen guards level.Inner (action.Acquire l) h = plain (λ locks. refl)
seen guards level.Outer (action.Release l) h = plain (λ locks. refl)
seen guards level.Inner (action.Release l) h = plain (λ locks. refl)
seen guards x (action.Read v) h = seen_access (guard_of (get_or guards v.0 0)) v h
seen guards x (action.Write v) h = seen_access (guard_of (get_or guards v.0 0)) v h
seen guards x action.Begin h = plain (λ locks. refl)
seen guards x action.End h = plain (λ locks. refl)

-- the same begins and commits with other sets
abbrev with_sets : List ℕ → Judging → Judging
with_sets sets j = judging_of j.begins j.commits sets

-- the same verdict, begins and commits with other sets
abbrev resets : List ℕ → Judged → Judged
resets sets x = judged x.verdict (with_sets sets x.judging)

-- a test, an acquire, an unprotected access
cond_resets : (sets : List ℕ) (b : Bool) (x y x' y' : Judged) → x' ≡ resets sets x → y' ≡ resets sets y → cond b x' y' ≡ resets sets (cond b x y)
cond_resets sets true x y x' y' p q = p
cond_resets sets false x y x' y' p q = q

acquire_resets : (sets : List ℕ) (p : Phase) (i : ℕ) (t : Thread) (l : Lock) (j : Judging)
    → acquire_in p i t l (with_sets sets j) ≡ resets sets (acquire_in p i t l j)
acquire_resets sets outside i t l j = refl
acquire_resets sets (before b) i t l j = refl
acquire_resets sets (after b c) i t l j = refl

unprotected_resets : (sets : List ℕ) (p : Phase) (i : ℕ) (t : Thread) (n j : Judging)
    → unprotected_in p i t (with_sets sets n) (with_sets sets j) ≡ resets sets (unprotected_in p i t n j)
unprotected_resets sets outside i t n j = refl
unprotected_resets sets (before b) i t n j = refl
unprotected_resets sets (after b c) i t n j = refl

-- an operation that every choice leaves as it is neither reads nor changes the sets
plain_resets : (i : ℕ) (t : Thread) (d h : ℕ) (o : Operation) → Plain o → (sets : List ℕ) (j : Judging)
    → judge_operation i t d h o (with_sets sets j) ≡ resets sets (judge_operation i t d h o j)
unfolding judge_operation
plain_resets i t d h (Acquire l) e sets j = acquire_resets sets (phase_at d t j) i t l j
plain_resets i t d h (Release l) e sets j = refl
plain_resets i t d h (Protected m) e sets j = cond_resets sets (contains h m) _ _ _ _ refl refl
plain_resets i t d h Unprotected e sets j =
    unprotected_resets sets (phase_at d t j) i t (with_commit t (committed d (get_or j.commits t.0 0) i) j) j
plain_resets i t d h (Inferred v) e sets j = let f : Protected (lock_of [] v.0) ≡ Inferred v = e [] in never (cc)
plain_resets i t d h Begin e sets j = cond_resets sets (eqb d 0) _ _ _ _ refl refl
plain_resets i t d h End e sets j = refl

-- Every set has its variable's chosen lock.
record Has (locks sets : List ℕ) : Type 0 where
  long : length sets ≡ variable_count
  has : (x : ℕ) → x < variable_count → contains (get_or sets x 0) (lock_of locks x) ≡ true

-- No set is empty, and all are of 64 locks.
record Full (sets : List ℕ) : Type 0 where
  long : length sets ≡ variable_count
  some : (x : ℕ) → x < variable_count → 0 < get_or sets x 0
  small : (x : ℕ) → x < variable_count → get_or sets x 0 < 18446744073709551616

-- what a variable's set becomes at an access, and the others
at_set : (P : ℕ → ℕ → Type 0) (sets : List ℕ) (v s : ℕ) → length sets ≡ variable_count → P v s → ((x : ℕ) → x < variable_count → P x (get_or sets x 0))
    → (x : ℕ) → x < variable_count → P x (get_or (set sets v s) x 0)
at_set P sets v s long p q x h = go (ℕ_discrete x v)
  where
    go : Dec (x ≡ v) → P x (get_or (set sets v s) x 0)
    go (yes e) = subst (λ (y : ℕ). P y (get_or (set sets v s) y 0)) (sym e) (rw (get_or-set_same sets v s 0 (omega arith)) p)
    go (no n) = rw (get_or-set_other sets v x s 0 n) (q x h)

-- which way a test went, where one way goes wrong
then_wrong : (b : Bool) (x y : Judged) (w : Violation) → x.verdict ≡ Err w → (cond b x y).verdict ≡ (Ok tt) → b ≡ false
then_wrong true x y w p e = never (cc)
then_wrong false x y w p e = refl

else_wrong : (b : Bool) (x y : Judged) (w : Violation) → y.verdict ≡ Err w → (cond b x y).verdict ≡ (Ok tt) → b ≡ true
else_wrong true x y w p e = refl
else_wrong false x y w p e = never (cc)

-- What an operation leads to on both sides, x with inferred guards and y with the chosen locks: both go on alike, y leaves its sets as they
-- are, and the chosen locks are in the sets of x before and after.
record Matched (locks sets : List ℕ) (j : Judging) (x y : Judged) : Type 0 where
  right : x.verdict ≡ (Ok tt)
  same : y ≡ resets sets x
  had : Has locks j.sets
  kept : Has locks x.judging.sets

module _ (i : ℕ) (t : Thread) (d h : ℕ) where
  -- an access under a lock goes wrong unless the thread holds it
  held_right : (m : Lock) (j : Judging) → contains h m ≡ true → judge_operation i t d h (Protected m) j ≡ judged (Ok tt) j
  unfolding judge_operation
  held_right m j e = rw e

  right_held : (m : Lock) (j : Judging) → (judge_operation i t d h (Protected m) j).verdict ≡ (Ok tt) → contains h m ≡ true
  unfolding judge_operation
  right_held m j e = else_wrong (contains h m) _ _ _ refl e

  module _ (j : Judging) where
    -- an operation that every choice leaves as it is leaves the sets
    plain_kept : (o : Operation) → Plain o → (judge_operation i t d h o j).judging.sets ≡ j.sets
    plain_kept o e = ap (λ (x : Judged). x.judging.sets) (plain_resets i t d h o e j.sets j)

    -- what a variable's set and the locks held share: part of the set, with the locks that are in both
    shared : Variable → ℕ
    shared v = bit_and (get_or j.sets v.0 0) h

    shared_le : (v : Variable) → shared v ≤ get_or j.sets v.0 0
    unfolding shared
    shared_le v = and_le_l (get_or j.sets v.0 0) h

    shared_holds : (v : Variable) (m : Lock) → contains (get_or j.sets v.0 0) m ≡ true → contains h m ≡ true → contains (shared v) m ≡ true
    unfolding shared
    shared_holds v m p q = and_holds (get_or j.sets v.0 0) h m p q

    holds_shared : (v : Variable) (m : Lock) → contains (shared v) m ≡ true → (contains (get_or j.sets v.0 0) m ≡ true) × (contains h m ≡ true)
    unfolding shared
    holds_shared v m p = and_holds_both (get_or j.sets v.0 0) h m p

    -- an access under an inferred guard goes wrong where they share none
    shared_right : (v : Variable) → (shared v ≡ 0 → ⊥) → judge_operation i t d h (Inferred v) j ≡ judged (Ok tt) (with_sets (set j.sets v.0 (shared v)) j)
    unfolding judge_operation shared
    shared_right v e = rw (ne_eqb (shared v) 0 e)

    right_shared : (v : Variable) → (judge_operation i t d h (Inferred v) j).verdict ≡ (Ok tt) → shared v ≡ 0 → ⊥
    unfolding judge_operation shared
    right_shared v e = eqb-false (shared v) 0 (then_wrong (eqb (shared v) 0) _ _ _ refl e)

    -- no set becomes empty
    stays_full : {o : Operation} → Seen o → (judge_operation i t d h o j).verdict ≡ (Ok tt) → Full j.sets
        → Full (judge_operation i t d h o j).judging.sets
    stays_full {o} (plain k) e f = rw (plain_kept o k) f
    stays_full (inferred v b) e f = rw (shared_right v (right_shared v e)) record {
      long = length-set j.sets v.0 (shared v) ∙ f.long;
      some = at_set (λ x s. 0 < s) j.sets v.0 (shared v) f.long (omega (arith, right_shared v e)) f.some;
      small = at_set (λ x s. s < 18446744073709551616) j.sets v.0 (shared v) f.long (omega (arith, shared_le v, f.small v.0 b)) f.small;
    }

    module _ (locks sets : List ℕ) where
      -- both sides go on from sets that have the chosen locks
      plain_matched : (o : Operation) → Plain o → (judge_operation i t d h o j).verdict ≡ (Ok tt) → Has locks j.sets
          → Matched locks sets j (judge_operation i t d h o j) (judge_operation i t d h (chosen locks o) (with_sets sets j))
      plain_matched o k e f = record {
        right = e;
        same = rw (k locks) (plain_resets i t d h o k sets j);
        had = f;
        kept = rw (plain_kept o k) f;
      }

      inferred_matched : (v : Variable) → v.0 < variable_count → contains h (lock_of locks v.0) ≡ true → Has locks j.sets
          → Matched locks sets j (judge_operation i t d h (Inferred v) j) (judge_operation i t d h (Protected (lock_of locks v.0)) (with_sets sets j))
      inferred_matched v b e f =
          let m : contains (shared v) (lock_of locks v.0) ≡ true = shared_holds v _ (f.has v.0 b) e in
          let r = shared_right v (not_empty (shared v) (lock_of locks v.0) m) in
          rw (r, held_right (lock_of locks v.0) (with_sets sets j) e) record {
            right = refl;
            same = refl;
            had = f;
            kept = record {
              long = length-set j.sets v.0 (shared v) ∙ f.long;
              has = at_set (λ x s. contains s (lock_of locks x) ≡ true) j.sets v.0 (shared v) f.long m f.has;
            };
          }

      -- from the sets after an operation that does not go wrong with inferred guards
      infers : {o : Operation} → Seen o → (judge_operation i t d h o j).verdict ≡ (Ok tt) → Has locks (judge_operation i t d h o j).judging.sets
          → Matched locks sets j (judge_operation i t d h o j) (judge_operation i t d h (chosen locks o) (with_sets sets j))
      infers {o} (plain k) e f = plain_matched o k e (rw (plain_kept o k) at f)
      infers (inferred v b) e f =
          let g : Has locks (set j.sets v.0 (shared v)) = rw (shared_right v (right_shared v e)) at f in
          let long : length j.sets ≡ variable_count = sym (length-set j.sets v.0 (shared v)) ∙ g.long in
          let m = holds_shared v (lock_of locks v.0) (rw (get_or-set_same j.sets v.0 (shared v) 0 (omega arith)) at (g.has v.0 b)) in
          inferred_matched v b m.1 record {
            long = long;
            has = λ x p. go m g x p (ℕ_discrete x v.0);
          }
        where
          go : (contains (get_or j.sets v.0 0) (lock_of locks v.0) ≡ true) × (contains h (lock_of locks v.0) ≡ true) → Has locks (set j.sets v.0 (shared v))
              → (x : ℕ) → x < variable_count → Dec (x ≡ v.0) → contains (get_or j.sets x 0) (lock_of locks x) ≡ true
          go m g x p (yes q) = rw q m.0
          go m g x p (no n) = rw (get_or-set_other j.sets v.0 x (shared v) 0 n) at (g.has x p)

      -- from the sets before an operation that does not go wrong with the chosen locks
      allows : {o : Operation} → Seen o → (judge_operation i t d h (chosen locks o) (with_sets sets j)).verdict ≡ (Ok tt) → Has locks j.sets
          → Matched locks sets j (judge_operation i t d h o j) (judge_operation i t d h (chosen locks o) (with_sets sets j))
      allows {o} (plain k) e f = plain_matched o k (sym (ap (λ (x : Judged). x.verdict) (plain_resets i t d h o k sets j)) ∙ (rw (k locks) at e)) f
      allows (inferred v b) e f = inferred_matched v b (right_held (lock_of locks v.0) (with_sets sets j) e) f

-- the same end has the same reply
same_reply : {x y : Ended} → x ≡ y → x.reply ≡ y.reply
same_reply e = ap (λ (x : Ended). x.reply) e

-- A frame after which a pass goes on.
pub record Goes (guards : List ℕ) (i : ℕ) (s : State) (j : Judging) (w : ℕ) : Type 0 where
  pub frame : Frame
  pub is : decode_word w ≡ Ok frame
  pub level : Level
  pub sound : (step_frame frame s).outcome ≡ Ok level
  pub right : (judge_frame guards i frame s j).verdict ≡ (Ok tt)

module _ (guards : List ℕ) (i : ℕ) (s : State) (j : Judging) (w : ℕ) (ws : List ℕ) where
  -- the pass goes on from the state that the frame leads to
  pub goes_on : (g : Goes guards i s j w)
      → judge_from guards i s j (w ∷ ws) ≡ judge_from guards (i + 1) (step_frame g.frame s).state (judge_frame guards i g.frame s j).judging ws
  unfolding judge_from
  goes_on g = rw (g.is, g.right, g.sound)

  -- a reducible pass goes on after its first frame
  pub goes : (judge_from guards i s j (w ∷ ws)).reply ≡ reducible → Goes guards i s j w
  unfolding judge_from
  goes r = decode_case (decode_word w) refl
    where
      judge_case : (f : Frame) → decode_word w ≡ Ok f → (x : Level) → (step_frame f s).outcome ≡ Ok x
          → (v : Verdict) → (judge_frame guards i f s j).verdict ≡ v → Goes guards i s j w
      judge_case f e x g (Ok _) a = record { frame = f; is = e; level = x; sound = g; right = a }
      judge_case f e x g (Err v) a = let z : violated v ≡ reducible = rw (e, a, g) at r in never (cc)

      step_case : (f : Frame) → decode_word w ≡ Ok f → (o : Result Level Refusal) → (step_frame f s).outcome ≡ o → Goes guards i s j w
      step_case f e (Ok x) g = judge_case f e x g (judge_frame guards i f s j).verdict refl
      step_case f e (Err b) g = let z : refused b i ≡ reducible = rw (e, g) at r in never (cc)

      decode_case : (d : Result Frame Refusal) → decode_word w ≡ d → Goes guards i s j w
      decode_case (Ok f) e = step_case f e (step_frame f s).outcome refl
      decode_case (Err b) e = let z : refused b i ≡ reducible = rw e at r in never (cc)

-- the sets that a reducible pass leaves are not empty
ends_full : (guards : List ℕ) (i : ℕ) (s : State) (j : Judging) (ws : List ℕ) → (judge_from guards i s j ws).reply ≡ reducible → Full j.sets
    → Full (judge_from guards i s j ws).judging.sets
unfolding judge_from
ends_full guards i s j [] e f = f
ends_full guards i s j (w ∷ ws) e f =
    let g = goes guards i s j w ws e in
    let on = goes_on guards i s j w ws g in
    let full = stays_full i g.frame.thread _ _ j (seen guards _ g.frame.action (decoded_in_range w g.frame g.is).object) g.right f in
    rw on (ends_full guards (i + 1) _ _ ws (sym (same_reply on) ∙ e) full)

module _ (guards locks : List ℕ) (c : Choice locks) (sets : List ℕ) where
  module _ (i : ℕ) (s : State) (j : Judging) (w : ℕ) (f : Frame) (e : decode_word w ≡ Ok f) where
    -- the frame's operation, and what it is under the chosen locks
    abbrev here : Operation
    here = operation_of guards (level_of (step_frame f s).outcome) f.action

    frame_seen : Seen here
    frame_seen = seen guards (level_of (step_frame f s).outcome) f.action (decoded_in_range w f e).object

    frame_chosen : judge_frame (choose guards locks) i f s (with_sets sets j)
        ≡ judge_operation i f.thread (get_or s.depths f.thread.0 0) (held_set f.thread.0 s.owners) (chosen locks here) (with_sets sets j)
    frame_chosen =
        ap (λ (o : Operation). judge_operation i f.thread (get_or s.depths f.thread.0 0) (held_set f.thread.0 s.owners) o (with_sets sets j))
        (operation_chosen guards locks c (level_of (step_frame f s).outcome) f.action)

    -- a frame that does not go wrong on one side does not on the other
    frame_infers : (judge_frame guards i f s j).verdict ≡ (Ok tt) → Has locks (judge_frame guards i f s j).judging.sets
        → Matched locks sets j (judge_frame guards i f s j) (judge_frame (choose guards locks) i f s (with_sets sets j))
    frame_infers r h = rw frame_chosen (infers i f.thread _ _ j locks sets frame_seen r h)

    frame_allows : (judge_frame (choose guards locks) i f s (with_sets sets j)).verdict ≡ (Ok tt) → Has locks j.sets
        → Matched locks sets j (judge_frame guards i f s j) (judge_frame (choose guards locks) i f s (with_sets sets j))
    frame_allows r h = rw frame_chosen (allows i f.thread _ _ j locks sets frame_seen (rw frame_chosen at r) h)

    -- how the two passes go on
    module _ (ws : List ℕ) (x : Level) (q : (step_frame f s).outcome ≡ Ok x)
        (m : Matched locks sets j (judge_frame guards i f s j) (judge_frame (choose guards locks) i f s (with_sets sets j))) where
      inferred_on : judge_from guards i s j (w ∷ ws) ≡ judge_from guards (i + 1) (step_frame f s).state (judge_frame guards i f s j).judging ws
      inferred_on = goes_on guards i s j w ws record { frame = f; is = e; level = x; sound = q; right = m.right }

      chosen_on : judge_from (choose guards locks) i s (with_sets sets j) (w ∷ ws)
          ≡ judge_from (choose guards locks) (i + 1) (step_frame f s).state (with_sets sets (judge_frame guards i f s j).judging) ws
      chosen_on =
          goes_on (choose guards locks) i s (with_sets sets j) w ws record { frame = f; is = e; level = x; sound = q; right = ap (λ (x : Judged). x.verdict) m.same ∙ m.right }
          ∙ ap (λ (x : Judged). judge_from (choose guards locks) (i + 1) (step_frame f s).state x.judging ws) m.same

  -- a pass that leaves each variable's chosen lock in its set is reducible with the chosen locks
  infers_pass : (i : ℕ) (s : State) (j : Judging) (ws : List ℕ) → (judge_from guards i s j ws).reply ≡ reducible → Has locks (judge_from guards i s j ws).judging.sets
      → Has locks j.sets × ((judge_from (choose guards locks) i s (with_sets sets j) ws).reply ≡ reducible)
  unfolding judge_from
  infers_pass i s j [] r h = (h, refl)
  infers_pass i s j (w ∷ ws) r h =
      let g = goes guards i s j w ws r in
      let on = goes_on guards i s j w ws g in
      let ih = infers_pass (i + 1) (step_frame g.frame s).state (judge_frame guards i g.frame s j).judging ws
      (sym (same_reply on) ∙ r) (subst (λ (x : Ended). Has locks x.judging.sets) on h) in
      let m = frame_infers i s j w g.frame g.is g.right ih.0 in
      (m.had, same_reply (chosen_on i s j w g.frame g.is ws g.level g.sound m) ∙ ih.1)

  -- a pass from sets that have the chosen locks is reducible where it is with these locks
  allows_pass : (i : ℕ) (s : State) (j : Judging) (ws : List ℕ) → (judge_from (choose guards locks) i s (with_sets sets j) ws).reply ≡ reducible → Has locks j.sets
      → (judge_from guards i s j ws).reply ≡ reducible
  unfolding judge_from
  allows_pass i s j [] r h = refl
  allows_pass i s j (w ∷ ws) r h =
      let g = goes (choose guards locks) i s (with_sets sets j) w ws r in
      let m = frame_allows i s j w g.frame g.is g.right h in
      let on = chosen_on i s j w g.frame g.is ws g.level g.sound m in
      same_reply (inferred_on i s j w g.frame g.is ws g.level g.sound m)
      ∙ allows_pass (i + 1) (step_frame g.frame s).state (judge_frame guards i g.frame s j).judging ws (sym (same_reply on) ∙ r) m.kept

-- a lock of each set
choice : (sets : List ℕ) → ((x : ℕ) → x < length sets → (m : ℕ) × (m < lock_count) × (contains (get_or sets x 0) (record { 0 = m }) ≡ true))
    → (locks : List ℕ) × (length locks ≡ length sets) × ((x : ℕ) → get_or locks x 0 < lock_count)
    × ((x : ℕ) → x < length sets → contains (get_or sets x 0) (lock_of locks x) ≡ true)
choice [] f = ([], refl, λ x. omega arith, λ x h. absurd (omega arith))
choice (s ∷ sets) f =
    let r = choice sets (λ x h. f (suc x) (omega arith)) in
    let m = f 0 (omega arith) in
    (m.0 ∷ r.0, ap suc r.1, below m.0 r.0 m.1 r.2, within m.0 r.0 m.2 r.3)
  where
    below : (m : ℕ) (locks : List ℕ) → m < lock_count → ((x : ℕ) → get_or locks x 0 < lock_count) → (x : ℕ) → get_or (m ∷ locks) x 0 < lock_count
    below m locks p q zero = p
    below m locks p q (suc x) = q x

    within : (m : ℕ) (locks : List ℕ) → contains s (record { 0 = m }) ≡ true → ((x : ℕ) → x < length sets → contains (get_or sets x 0) (lock_of locks x) ≡ true)
        → (x : ℕ) → x < suc (length sets) → contains (get_or (s ∷ sets) x 0) (lock_of (m ∷ locks) x) ≡ true
    within m locks p q zero h = p
    within m locks p q (suc x) h = q x (omega arith)

-- the sets at the start: none is empty, and every chosen lock is in them
full_start : Full full_sets
unfolding full_sets
full_start = record {
  long = length-replicate variable_count all_locks;
  some = λ x h. rw (get_or-replicate variable_count x all_locks 0 h) (omega arith);
  small = λ x h. rw (get_or-replicate variable_count x all_locks 0 h) (omega arith);
}

has_start : (locks : List ℕ) → Choice locks → Has locks full_sets
unfolding full_sets
has_start locks c = record {
  long = length-replicate variable_count all_locks;
  has = λ x h. rw (get_or-replicate variable_count x all_locks 0 h) (full_holds (lock_of locks x) (c.small x));
}

-- "With inferred guards a recording is reducible exactly if it is so with some choice of one lock for each accessed variable as its declared
-- guard."
pub inferred_is_some_choice : InferredIsSomeChoice
unfolding start_judging
inferred_is_some_choice guards ws = (to, from)
  where
    to : Reducible guards ws → (locks : List ℕ) × Choice locks × Reducible (choose guards locks) ws
    to r =
        let sound = judgement_sound guards full_sets ws (Ok tt) r in
        let run : (judge_from guards 0 start (start_judging full_sets) ws).reply ≡ reducible = sym (same_reply (judgement_pass guards full_sets ws sound)) ∙ r in
        let left = (judge_from guards 0 start (start_judging full_sets) ws).judging.sets in
        let full : Full left = ends_full guards 0 start (start_judging full_sets) ws run full_start in
        let size : length left ≡ variable_count = full.long in
        let k = choice left (λ x h. some_lock (get_or left x 0) (full.some x (omega arith)) (full.small x (omega arith))) in
        let c : Choice k.0 = record { long = k.1 ∙ size; small = k.2 } in
        let has : Has k.0 left = record { long = size; has = λ x h. k.3 x (omega arith) } in (
          k.0,
          c,
          same_reply (judgement_pass (choose guards k.0) full_sets ws sound)
              ∙ (infers_pass guards k.0 c full_sets 0 start (start_judging full_sets) ws run has).1,
        )

    from : (locks : List ℕ) × Choice locks × Reducible (choose guards locks) ws → Reducible guards ws
    from (locks, c, r) =
        let sound = judgement_sound (choose guards locks) full_sets ws (Ok tt) r in
        let run : (judge_from (choose guards locks) 0 start (start_judging full_sets) ws).reply ≡ reducible =
        sym (same_reply (judgement_pass (choose guards locks) full_sets ws sound)) ∙ r in
        same_reply (judgement_pass guards full_sets ws sound)
        ∙ allows_pass guards locks c full_sets 0 start (start_judging full_sets) ws run (has_start locks c)

-- with a choice the guards of the inferred verdict are the chosen locks
inferred_choose : (locks : List ℕ) → length locks ≡ variable_count → choose inferred_guards locks ≡ locks
unfolding inferred_guards
inferred_choose locks e = choose_all variable_count locks e

-- the inferred verdict is the judgement with all guards inferred
inferred_reply_lem : (ws : List ℕ) → inferred_reply ws variable_count ≡ (judgement inferred_guards full_sets ws).reply
unfolding inferred_reply
inferred_reply_lem ws = sym (own_table (judgement inferred_guards full_sets ws).reply)

-- The same for the inferred verdict: the chosen locks are the declared guards.
pub inferred_verdict_is_some_choice : InferredVerdictIsSomeChoice
inferred_verdict_is_some_choice ws = (to, from)
  where
    to : inferred_reply ws variable_count ≡ reducible → (locks : List ℕ) × Choice locks × Reducible locks ws
    to r =
        let k = (inferred_is_some_choice inferred_guards ws).0 (sym (inferred_reply_lem ws) ∙ r) in
        (k.0, k.1, subst (λ (g : List ℕ). Reducible g ws) (inferred_choose k.0 k.1.long) k.2)

    from : (locks : List ℕ) × Choice locks × Reducible locks ws → inferred_reply ws variable_count ≡ reducible
    from (locks, c, r) =
        inferred_reply_lem ws
        ∙ (inferred_is_some_choice inferred_guards ws).1
        (locks, c, subst (λ (g : List ℕ). Reducible g ws) (sym (inferred_choose locks c.long)) r)
