-- The verdict on a sound recording is that of the rules of the paper's figures. In this order: the rules as a function, so that a frame steps
-- to one store or goes wrong by one kind; recordings by that function; the pass and the rules, with the claim of any guards; guards that agree
-- on the variables of frames, with the claims of declared and of inferred guards.
use Rattle.std.specs.Prelude.{Result, Ok, Err, Option, Some, None}
use Prim.Native.Nat.{ℕ, suc, ◌+◌, ◌≤◌, ◌<◌}
use mathlib.Core.Path.{◌≡◌, refl, sym, ap, subst, ◌∙◌, fun_ext}
use mathlib.Core.Bool.{cond}
use mathlib.Core.Logic.{◌↔◌}
use mathlib.Core.List.{List, [], ◌∷◌}
use native.Mathlib.Omega.{arith}
use native.Mathlib.Nat.{zero-add}
use native.Mathlib.Numerals.{add-one}
use borrow.Author.Tests.{eq-eqb, ne_eqb, le-ltb, le-leb, lt-leb}
use lib.Dec.{eqb, leb}
use lib.ListN.{get_or, drop, length-replicate, get_or-replicate}
use Rattle.guards.specs.Judgement.{Declared}
use Rattle.verdict.specs.Verdict.{verdict_under, with_table, inferred_reply}
use Rattle.turn.specs.Turn.{judge_frame}
use Rattle.pass.specs.Pass.{Ended, full_sets, judge_from, start_judging, judgement}
use Rattle.frame.specs.Limits.{thread_count, variable_count, all_locks}
use Rattle.frame.specs.Frame.{ObjectInRange, decode_word}
use Rattle.frame.proofs.Laws.{decoded_in_range}
use Rattle.frame.specs.declared.Variable.{Variable}
use Rattle.frame.specs.declared.Action.{Action}
use Rattle.frame.specs.declared.Action.TheVariants as action
use Rattle.frame.specs.declared.Frame.{Frame}
use Rattle.guards.specs.Guards.{guard_of, guards_read, listed_guard, inferred_code, inferred_guards}
use Rattle.guards.proofs.Named.{listed_guard_lem}
use Rattle.guards.specs.declared.Guard.{Guard}
use Rattle.guards.specs.declared.Guard.TheVariants.{Locked, Unprotected, Inferred}
use Rattle.soundness.specs.Soundness.{owner_of, count_of, check_from, check_reply, start}
use Rattle.soundness.specs.declared.State.{State}
use Rattle.soundness.proofs.Laws.{check_short, sound_fits, First, sound_first}
use Rattle.reply.specs.Reply.{reducible, violated, Reply}
use Rattle.reply.specs.declared.Kind.{Kind}
use Rattle.reply.specs.declared.Kind.TheVariants.{GuardNotHeld, UnprotectedAfterCommit, AcquireAfterCommit, SetEmptied}
use Rattle.reply.specs.declared.Violation.{Violation}
use Rattle.instrumented.specs.Rules.{Judging, phase_at, begin_mark, commit_mark}
use Rattle.rules.specs.Figures.{Acts, Stage, Outside, PreCommit, PostCommit, Store, put_stage, put_locks, depth, shared, Accesses, reads, writes, Steps, ins_access_protected, ins_race_commit, ins_race_outside, ins_acquire, ins_release_commit, ins_release_outside, ins_reentrant_acquire, ins_reentrant_release, ins_enter, ins_nested_enter, ins_exit, ins_nested_exit, ins2_access, Wrong, wrong_access_protected, wrong_race_violate, wrong_acquire, wrong2_race, AllStep, end, step, WrongAt, here, later, Reaches, none, more, start_store, guarding, InBlock, Committed, MarkIs, guard_locks, lock_set, ToldBy, OfTheRules, VerdictIsOfTheRules, DeclaredIsOfTheRules, InferredIsOfTheRules}
use Rattle.laws.proofs.Logic.{never}
use Rattle.laws.proofs.Lists.{get_or_filled, rest_of}
use Rattle.pass.proofs.Judgement.{judgement_pass}
use Rattle.rules.proofs.Acts.{acted, acts_to, frame_acts}
use Rattle.rules.proofs.Store.{store_of, Sized}
use Rattle.rules.proofs.Marks.{Knows, knows_next, begin_is, commit_is}
use Rattle.rules.proofs.Told.{Told, goes, wrong, frame_told}
use Rattle.frame.specs.declared.Refusal.{Refusal}

-- What the rules make of an operation.
pub data Outcome : Type 0 where
  to : Store → Outcome
  amiss : Kind → Outcome

module _ (P : ℕ → Guard) (s : State) (φ : Store) (t : ℕ) where
  -- the rules of an acquire, of a release and of an access to an unprotected variable, by the stage
  abbrev acquire_rule : Stage → Outcome
  acquire_rule Outside = to φ
  acquire_rule PreCommit = to φ
  acquire_rule PostCommit = amiss AcquireAfterCommit

  abbrev release_rule : Stage → Outcome
  release_rule Outside = to φ
  release_rule PreCommit = to (put_stage φ t PostCommit)
  release_rule PostCommit = to (put_stage φ t PostCommit)

  abbrev race_rule : Stage → Outcome
  race_rule Outside = to φ
  race_rule PreCommit = to (put_stage φ t PostCommit)
  race_rule PostCommit = amiss UnprotectedAfterCommit

  -- of an access, by the guard
  abbrev access_rule : Variable → Guard → Outcome
  access_rule x (Locked m) = cond (eqb (owner_of m s) (t + 1)) (to φ) (amiss GuardNotHeld)
  access_rule x Unprotected = race_rule (φ.stage t)
  access_rule x Inferred = cond (eqb (shared P s φ t x) 0) (amiss SetEmptied) (to (put_locks φ x.0 (shared P s φ t x)))

  -- of any action
  abbrev pub rule : Action → Outcome
  rule (action.Acquire m) = cond (eqb (owner_of m s) (t + 1)) (to φ) (acquire_rule (φ.stage t))
  rule (action.Release m) = cond (leb (count_of m s) 1) (release_rule (φ.stage t)) (to φ)
  rule (action.Read x) = access_rule x (P x.0)
  rule (action.Write x) = access_rule x (P x.0)
  rule action.Begin = cond (eqb (depth P s φ t) 0) (to (put_stage φ t PreCommit)) (to φ)
  rule action.End = cond (eqb (depth P s φ t) 1) (to (put_stage φ t Outside)) (to φ)

  -- a read and a write have the same rules
  access_rule_lem : {a : Action} {x : Variable} → Accesses a x → rule a ≡ access_rule x (P x.0)
  access_rule_lem reads = refl
  access_rule_lem writes = refl

  -- an acquire steps unless after commit, and a release in a block commits it
  not_after : (g : Stage) → (g ≡ PostCommit → ⊥) → acquire_rule g ≡ to φ
  not_after Outside h = refl
  not_after PreCommit h = refl
  not_after PostCommit h = absurd (h refl)

  not_outside : (g : Stage) → (g ≡ Outside → ⊥) → release_rule g ≡ to (put_stage φ t PostCommit)
  not_outside Outside h = absurd (h refl)
  not_outside PreCommit h = refl
  not_outside PostCommit h = refl

  -- an operation that steps, or goes wrong, does so by the function
  pub steps_rule : {a : Action} {φ' : Store} → Steps P s φ t a φ' → rule a ≡ to φ'
  steps_rule (ins_access_protected c g o) = access_rule_lem c ∙ rw (g, eq-eqb _ _ o)
  steps_rule (ins_race_commit c g e) = access_rule_lem c ∙ rw (g, e)
  steps_rule (ins_race_outside c g e) = access_rule_lem c ∙ rw (g, e)
  steps_rule (ins_acquire n h) = rw (ne_eqb _ _ n) (not_after (φ.stage t) h)
  steps_rule (ins_release_commit l h) = rw (le-leb _ _ l) (not_outside (φ.stage t) h)
  steps_rule (ins_release_outside l e) = rw (le-leb _ _ l, e)
  steps_rule (ins_reentrant_acquire e) = rw (eq-eqb _ _ e)
  steps_rule (ins_reentrant_release e h) = rw (lt-leb _ _ h)
  steps_rule (ins_enter e) = rw (eq-eqb _ 0 e)
  steps_rule (ins_nested_enter h) = rw (ne_eqb (depth P s φ t) 0 (omega arith))
  steps_rule (ins_exit e) = rw (eq-eqb _ 1 e)
  steps_rule (ins_nested_exit h) = rw (ne_eqb (depth P s φ t) 1 (omega arith))
  steps_rule (ins2_access c g h) = access_rule_lem c ∙ rw (g, ne_eqb _ 0 h)

  wrong_rule : {a : Action} {k : Kind} → Wrong P s φ t a k → rule a ≡ amiss k
  wrong_rule (wrong_access_protected c g o) = access_rule_lem c ∙ rw (g, ne_eqb _ _ o)
  wrong_rule (wrong_race_violate c g e) = access_rule_lem c ∙ rw (g, e)
  wrong_rule (wrong_acquire n e) = rw (ne_eqb _ _ n, e)
  wrong_rule (wrong2_race c g e) = access_rule_lem c ∙ rw (g, eq-eqb _ 0 e)

-- What the rules make of a recording whose frames all decode: all frames step, or the first that goes wrong.
data Answer : Type 0 where
  fine : Answer
  first : ℕ → Kind → Answer

-- after one frame that steps, after a frame by its result, and after a word
abbrev onward : Answer → Answer
onward fine = fine
onward (first i k) = first (suc i) k

abbrev on_result : Outcome → (Store → Answer) → Answer
on_result (to φ) rest = onward (rest φ)
on_result (amiss k) rest = first 0 k

abbrev on_frame : Result Frame Refusal → (Frame → Answer) → Answer
on_frame (Ok f) rest = rest f
on_frame (Err r) rest = fine

module _ (P : ℕ → Guard) where
  -- the answer from a state and a store on
  unfoldable answer : State → Store → List ℕ → Answer
  answer s φ [] = fine
  answer s φ (w ∷ ws) = on_frame (decode_word w) λ f. on_result (rule P s φ f.thread.0 f.action) λ φ'. answer (acted f.thread.0 f.action s) φ' ws

  -- the answer from where a frame leads to
  from : {s n : State} {t : ℕ} {a : Action} → Acts s t a n → (φ : Store) (ws : List ℕ) → answer (acted t a s) φ ws ≡ answer n φ ws
  from e φ ws = ap (λ (n : State). answer n φ ws) (sym (acts_to e))

  -- a recording that steps, or goes wrong at a frame, does so by the function
  all_answer : {s : State} {φ : Store} {ws : List ℕ} → AllStep P s φ ws → answer s φ ws ≡ fine
  unfolding answer
  all_answer end = refl
  all_answer (step {s = s} {φ = φ} {φ' = φ'} {ws = ws} {f = f} d e r rest) = rw (d, steps_rule P s φ f.thread.0 r) (ap onward (from e φ' ws ∙ all_answer rest))

  wrong_answer : {s : State} {φ : Store} {ws : List ℕ} {i : ℕ} {k : Kind} → WrongAt P s φ ws i k → answer s φ ws ≡ first i k
  unfolding answer
  wrong_answer (here {s = s} {φ = φ} {f = f} d e r) = rw (d, wrong_rule P s φ f.thread.0 r)
  wrong_answer (later {s = s} {φ = φ} {φ' = φ'} {ws = ws} {f = f} d e r rest) = rw (d, steps_rule P s φ f.thread.0 r) (ap onward (from e φ' ws ∙ wrong_answer rest))

-- How a pass over the frames from place i on of a sound recording ends, with what the rules say of them.
data Ends (guards whole : List ℕ) (i : ℕ) (s : State) (j : Judging) (ws : List ℕ) : Type 0 where
  all : (judge_from guards i s j ws).reply ≡ reducible → AllStep (guarding guards) s (store_of s.depths j) ws → Ends guards whole i s j ws
  some : (m : ℕ) (v : Violation) → (judge_from guards i s j ws).reply ≡ violated v → v.frame ≡ i + m
      → WrongAt (guarding guards) s (store_of s.depths j) ws m v.kind → ToldBy (guarding guards) whole v → Ends guards whole i s j ws

-- the violation that the pass names at a frame that goes wrong at place i, told by the rules from what the pass knows there
abbrev named : List ℕ → ℕ → State → Judging → Frame → Kind → Violation
named guards i s j f k = record {
  kind = k;
  frame = i;
  thread = f.thread;
  begin = begin_mark (phase_at (get_or s.depths f.thread.0 0) f.thread j);
  commit = commit_mark (phase_at (get_or s.depths f.thread.0 0) f.thread j);
  locks = lock_set (guarding guards) (store_of s.depths j) f.action;
}

told_here : (guards whole : List ℕ) (i w : ℕ) (ws : List ℕ) (s : State) (j : Judging) (f : Frame) (k : Kind) → Knows (guarding guards) whole i s j
    → drop i whole ≡ w ∷ ws → decode_word w ≡ Ok f → Wrong (guarding guards) s (store_of s.depths j) f.thread.0 f.action k
    → ToldBy (guarding guards) whole (named guards i s j f k)
told_here guards whole i w ws s j f k x e d r = record {
  state = s;
  store = store_of s.depths j;
  frame = f;
  reached = x.reached;
  word = ap decode_word (rest_of whole i w ws e).1 ∙ d;
  goes_wrong = r;
  thread = refl;
  begin = begin_is (guarding guards) whole x f.thread;
  commit = commit_is (guarding guards) whole x f.thread;
  locks = refl;
}

-- a pass over sound frames ends so
ends : (guards whole : List ℕ) (i : ℕ) (s : State) (j : Judging) (ws : List ℕ) → drop i whole ≡ ws → Knows (guarding guards) whole i s j
    → (check_from i s ws).reply ≡ (Ok tt) → Sized s.depths j → Ends guards whole i s j ws
unfolding judge_from
ends guards whole i s j [] o x c z = all refl end
ends guards whole i s j (w ∷ ws) o x c z =
    let q = sound_first i s w ws c in
    told_case q (λ k y. ends guards whole (i + 1) q.next k ws (rw (add-one i) (rest_of whole i w ws o).2) y q.rest)
    (frame_told guards s q.next j i q.frame q.level z (decoded_in_range w q.frame q.is) q.passes)
  where
    acts : (q : First i s w ws) → Acts s q.frame.thread.0 q.frame.action q.next
    acts q = frame_acts q.passes

    rest_case : (q : First i s w ws) (k : Judging) → judge_from guards i s j (w ∷ ws) ≡ judge_from guards (i + 1) q.next k ws
        → Steps (guarding guards) s (store_of s.depths j) q.frame.thread.0 q.frame.action (store_of q.next.depths k)
        → Ends guards whole (i + 1) q.next k ws → Ends guards whole i s j (w ∷ ws)
    rest_case q k on r (all e y) = all (ap (λ (y : Ended). y.reply) on ∙ e) (step q.is (acts q) r y)
    rest_case q k on r (some m v e p y told) = some (suc m) v (ap (λ (y : Ended). y.reply) on ∙ e) (omega arith) (later q.is (acts q) r y) told

    told_case : (q : First i s w ws)
        → ((k : Judging) → Knows (guarding guards) whole (i + 1) q.next k → Sized q.next.depths k → Ends guards whole (i + 1) q.next k ws)
        → Told (guarding guards) s q.next.depths j i q.frame.thread q.frame.action (judge_frame guards i q.frame s j) → Ends guards whole i s j (w ∷ ws)
    told_case q ih (goes {k = k} a r y m) = rest_case q k (rw (q.is, a, q.passes)) r (ih k (knows_next (guarding guards) whole x o q.is (acts q) r m) y)
    told_case q ih (wrong k a r) =
        some 0 (named guards i s j q.frame k) (rw (q.is, a, q.passes)) (omega arith) (here q.is (acts q) r) (told_here guards whole i w ws s j q.frame k x o q.is r)

-- the lists, the sizes and the store at the start
start_sized : Sized start.depths (start_judging full_sets)
unfolding start start_judging full_sets
start_sized = record { depths_long = refl; begins_long = refl; commits_long = refl; sets_long = length-replicate variable_count all_locks }

start_store_lem : store_of start.depths (start_judging full_sets) ≡ start_store
unfolding start start_judging
start_store_lem = ap (λ (g : ℕ → Stage). record { stage = g; locks = λ x. get_or full_sets x 0 }) (fun_ext λ u. rw (get_or_filled thread_count u 0))

-- what the pass knows there: no thread is in a block
start_stage : (u : ℕ) → (store_of start.depths (start_judging full_sets)).stage u ≡ Outside
start_stage u = ap (λ (φ : Store). φ.stage u) start_store_lem

start_knows : (guards ws : List ℕ) → Knows (guarding guards) ws 0 start (start_judging full_sets)
start_knows guards ws = record {
  reached = rw start_store_lem none;
  begun = λ u h. absurd (h (start_stage u));
  done = λ u h. let y : Outside ≡ PostCommit = sym (start_stage u) ∙ h in never (cc);
}

-- a sound recording ends so from the start
start_ends : (guards ws : List ℕ) → check_reply ws ≡ (Ok tt) → Ends guards ws 0 start (start_judging full_sets) ws
start_ends guards ws e =
    ends guards ws 0 start (start_judging full_sets) ws refl (start_knows guards ws) (sym (check_short ws (sound_fits ws e)) ∙ e) start_sized

-- the reply of its judgement
judged_reply : (guards ws : List ℕ) → check_reply ws ≡ (Ok tt) → (judgement guards full_sets ws).reply ≡ (judge_from guards 0 start (start_judging full_sets) ws).reply
judged_reply guards ws e = ap (λ (x : Ended). x.reply) (judgement_pass guards full_sets ws e)

-- Term 2's first sentence: the verdict on a sound recording is that of the rules.
pub verdict_is_of_the_rules : VerdictIsOfTheRules
verdict_is_of_the_rules guards ws sound = (
  reducible_case (start_ends guards ws sound),
  λ i k. violated_case i k (start_ends guards ws sound),
  λ v e. told_case v e (start_ends guards ws sound),
)
  where
    reducible_case : Ends guards ws 0 start (start_judging full_sets) ws → (judgement guards full_sets ws).reply ≡ reducible ↔ AllStep (guarding guards) start start_store ws
    reducible_case (all q x) = (λ r. rw start_store_lem at x, λ y. judged_reply guards ws sound ∙ q)
    reducible_case (some m v q p x told) = (
      λ r. let y : violated v ≡ reducible = sym (judged_reply guards ws sound ∙ q) ∙ r in never (cc),
      λ y. let b : first m v.kind ≡ fine = sym (wrong_answer (guarding guards) (rw start_store_lem at x)) ∙ all_answer (guarding guards) y in never (cc),
    )

    violated_case : (i : ℕ) (k : Kind) → Ends guards ws 0 start (start_judging full_sets) ws
        → ((v : Violation) × ((judgement guards full_sets ws).reply ≡ violated v) × (v.frame ≡ i) × (v.kind ≡ k)) ↔ WrongAt (guarding guards) start start_store ws i k
    violated_case i k (all q x) = (
      λ r. let y : violated r.0 ≡ reducible = sym r.1 ∙ judged_reply guards ws sound ∙ q in never (cc),
      λ y. let b : first i k ≡ fine = sym (wrong_answer (guarding guards) y) ∙ all_answer (guarding guards) (rw start_store_lem at x) in never (cc),
    )
    violated_case i k (some m v q p x told) = (
      λ r.
          let e : violated r.0 ≡ violated v = sym r.1 ∙ judged_reply guards ws sound ∙ q in
          let u : r.0 ≡ v = cc in
          let a : m ≡ i = sym (p ∙ zero-add m) ∙ ap (λ (y : Violation). y.frame) (sym u) ∙ r.2 in
          let b : v.kind ≡ k = ap (λ (y : Violation). y.kind) (sym u) ∙ r.3 in
          rw (← a, ← b) (rw start_store_lem at x),
      λ y.
          let e : first m v.kind ≡ first i k = sym (wrong_answer (guarding guards) (rw start_store_lem at x)) ∙ wrong_answer (guarding guards) y in
          let a : m ≡ i = cc in
          (v, judged_reply guards ws sound ∙ q, p ∙ zero-add m ∙ a, cc),
    )

    told_case : (v : Violation) → (judgement guards full_sets ws).reply ≡ violated v → Ends guards ws 0 start (start_judging full_sets) ws → ToldBy (guarding guards) ws v
    told_case v e (all q x) = let y : violated v ≡ reducible = sym e ∙ judged_reply guards ws sound ∙ q in never (cc)
    told_case v e (some m u q p x told) =
        let y : violated u ≡ violated v = sym (judged_reply guards ws sound ∙ q) ∙ e in
        let z : u ≡ v = cc in
        subst (ToldBy (guarding guards) ws) z told

-- Two ways of giving guards. Where they agree on what an action accesses, it steps, or goes wrong, with both.
module _ (P Q : ℕ → Guard) where
  abbrev pub Alike : Action → Type 0
  Alike a = (x : Variable) → Accesses a x → P x.0 ≡ Q x.0

  -- the guard of a variable that is accessed
  same_guard : {a : Action} {x : Variable} {g : Guard} → Alike a → Accesses a x → P x.0 ≡ g → Q x.0 ≡ g
  same_guard {x = x} h c e = sym (h x c) ∙ e

  module _ {s : State} {φ : Store} {t : ℕ} where
    pub same_steps : {a : Action} {φ' : Store} → Alike a → Steps P s φ t a φ' → Steps Q s φ t a φ'
    same_steps h (ins_access_protected c g o) = ins_access_protected c (same_guard h c g) o
    same_steps h (ins_race_commit c g e) = ins_race_commit c (same_guard h c g) e
    same_steps h (ins_race_outside c g e) = ins_race_outside c (same_guard h c g) e
    same_steps h (ins_acquire n e) = ins_acquire n e
    same_steps h (ins_release_commit l n) = ins_release_commit l n
    same_steps h (ins_release_outside l e) = ins_release_outside l e
    same_steps h (ins_reentrant_acquire e) = ins_reentrant_acquire e
    same_steps h (ins_reentrant_release e l) = ins_reentrant_release e l
    same_steps h (ins_enter e) = ins_enter e
    same_steps h (ins_nested_enter l) = ins_nested_enter l
    same_steps h (ins_exit e) = ins_exit e
    same_steps h (ins_nested_exit l) = ins_nested_exit l
    same_steps h (ins2_access c g n) = ins2_access c (same_guard h c g) n

    same_wrong : {a : Action} {k : Kind} → Alike a → Wrong P s φ t a k → Wrong Q s φ t a k
    same_wrong h (wrong_access_protected c g o) = wrong_access_protected c (same_guard h c g) o
    same_wrong h (wrong_race_violate c g e) = wrong_race_violate c (same_guard h c g) e
    same_wrong h (wrong_acquire n e) = wrong_acquire n e
    same_wrong h (wrong2_race c g e) = wrong2_race c (same_guard h c g) e

-- where they agree on every variable
module _ (P Q : ℕ → Guard) (same : (x : ℕ) → x < variable_count → P x ≡ Q x) where
  alike : {a : Action} → ObjectInRange a → Alike P Q a
  alike h x reads = same x.0 h
  alike h x writes = same x.0 h

  -- a recording steps, or goes wrong, with both
  same_all : {s : State} {φ : Store} {ws : List ℕ} → AllStep P s φ ws → AllStep Q s φ ws
  same_all end = end
  same_all (step {w = w} {f = f} d e r rest) = step d e (same_steps P Q (alike (decoded_in_range w f d).object) r) (same_all rest)

  same_at : {s : State} {φ : Store} {ws : List ℕ} {i : ℕ} {k : Kind} → WrongAt P s φ ws i k → WrongAt Q s φ ws i k
  same_at (here {w = w} {f = f} d e r) = here d e (same_wrong P Q (alike (decoded_in_range w f d).object) r)
  same_at (later {w = w} {f = f} d e r rest) = later d e (same_steps P Q (alike (decoded_in_range w f d).object) r) (same_at rest)

  -- the rules lead to the same places, so they tell the same marks and locks
  same_reaches : {s m : State} {φ ψ : Store} {ws : List ℕ} {i : ℕ} → Reaches P s φ ws i m ψ → Reaches Q s φ ws i m ψ
  same_reaches none = none
  same_reaches (more {w = w} {f = f} d e r rest) = more d e (same_steps P Q (alike (decoded_in_range w f d).object) r) (same_reaches rest)

  same_mark_lem : (ws : List ℕ) (t : ℕ) (R : Stage → Type 0) (i : ℕ) (m : Option ℕ) → MarkIs P ws t R i m → MarkIs Q ws t R i m
  same_mark_lem ws t R i (Some b) h = record {
    within = h.within;
    not_before = let (s, φ, r, q) = h.not_before in (s, φ, same_reaches r, q);
    from_there = λ k l g. let (s, φ, r, q) = h.from_there k l g in (s, φ, same_reaches r, q);
  }
  same_mark_lem ws t R i None (s, φ, r, q) = (s, φ, same_reaches r, q)

  same_locks : (φ : Store) (a : Action) → ObjectInRange a → lock_set P φ a ≡ lock_set Q φ a
  same_locks φ (action.Acquire m) h = refl
  same_locks φ (action.Release m) h = refl
  same_locks φ (action.Read x) h = ap (λ (g : Guard). guard_locks g (φ.locks x.0)) (same x.0 h)
  same_locks φ (action.Write x) h = ap (λ (g : Guard). guard_locks g (φ.locks x.0)) (same x.0 h)
  same_locks φ action.Begin h = refl
  same_locks φ action.End h = refl

  same_told : {ws : List ℕ} {v : Violation} → ToldBy P ws v → ToldBy Q ws v
  same_told {ws = ws} {v = v} h =
      let o = (decoded_in_range (get_or ws v.frame 0) h.frame h.word).object in
      record {
        state = h.state;
        store = h.store;
        frame = h.frame;
        reached = same_reaches h.reached;
        word = h.word;
        goes_wrong = same_wrong P Q (alike o) h.goes_wrong;
        thread = h.thread;
        begin = same_mark_lem ws h.frame.thread.0 InBlock v.frame v.begin h.begin;
        commit = same_mark_lem ws h.frame.thread.0 Committed v.frame v.commit h.commit;
        locks = h.locks ∙ same_locks h.store h.frame.action o;
      }

-- so a reply that is of the rules with the one is with the other
with_same : (P Q : ℕ → Guard) → ((x : ℕ) → x < variable_count → P x ≡ Q x) → (ws : List ℕ) (r : Reply) → OfTheRules P ws r → OfTheRules Q ws r
with_same P Q same ws r (a, b, c) = (
  (λ e. same_all P Q same (a.0 e), λ y. a.1 (same_all Q P back y)),
  λ i k. (λ e. same_at P Q same ((b i k).0 e), λ y. (b i k).1 (same_at Q P back y)),
  λ v e. same_told P Q same (c v e),
)
  where
    back : (x : ℕ) → x < variable_count → Q x ≡ P x
    back x h = sym (same x h)

-- an accepted list, and a table with room, leave the judgement's reply
pub accepted : (list ws : List ℕ) (n : ℕ) → (guards_read list).reply ≡ Ok n → verdict_under Declared list ws ≡ (judgement (guards_read list).table full_sets ws).reply
unfolding verdict_under
accepted list ws n e = rw e

pub with_room : (ws : List ℕ) (m : ℕ) → variable_count ≤ m → inferred_reply ws m ≡ (judgement inferred_guards full_sets ws).reply
unfolding inferred_reply
with_room ws m h = go (judgement inferred_guards full_sets ws).reply
  where
    go : (r : Reply) → with_table r m ≡ r
    go (Err x) = refl
    go (Ok v) = rw (le-ltb m variable_count h)

-- the guards of the inferred verdict
all_inferred : (x : ℕ) → x < variable_count → guarding inferred_guards x ≡ Inferred
unfolding inferred_guards
all_inferred x h = ap guard_of (get_or-replicate variable_count x inferred_code 0 h)

-- The same of the guards that the lines of a list name.
pub declared_is_of_the_rules : DeclaredIsOfTheRules
declared_is_of_the_rules list ws n e sound =
    rw (accepted list ws n e)
    (with_same (guarding (guards_read list).table) (listed_guard list n) (λ x h. sym (listed_guard_lem list n e x h)) ws _ (verdict_is_of_the_rules (guards_read list).table ws sound))

-- The same of guards that are all inferred.
pub inferred_is_of_the_rules : InferredIsOfTheRules
inferred_is_of_the_rules ws m sound room =
    rw (with_room ws m room) (with_same (guarding inferred_guards) (λ x. Inferred) all_inferred ws _ (verdict_is_of_the_rules inferred_guards ws sound))
