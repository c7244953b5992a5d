-- The rules of the paper's figures 4, 8 and 11 as relations, one constructor for each rule, named as there, with those of section 4.3 for
-- re-entrant locks, and what they say of frames and of whole recordings. The rules of figure 11 that are those of figure 8 over again
-- ([INS2 ACQUIRE], [INS2 RELEASE COMMIT], ..) are stated once; figure 8's accesses are of variables whose guard is declared, figure 11's of
-- those whose guard is inferred. The empty operation is no frame.
-- In this order: figure 4 and the claims of sound frames and of counts, the stores, figures 8 and 11, recordings, what a violation names, the
-- claims of the verdicts.
-- Quotes are from docs/FORMAT.md, but for those of the paper's sections 2.2 and 4.3 and figures.
use Rattle.std.specs.Prelude.{ℕ, suc, ◌+◌, ◌-◌, ◌^◌, ◌≤◌, ◌<◌, ◌≡◌, cond, ◌↔◌, ◌⊎◌, List, [], ◌∷◌, eqb, get_or, set, Ok, Err, Option, Some, None}
use Rattle.std.specs.Int.Bits.{bit_and}
use Rattle.guards.specs.Judgement.{Declared}
use Rattle.frame.specs.Limits.{lock_count, variable_count, deepest, most_held}
use Rattle.frame.specs.Frame.{decode_word}
use Rattle.frame.specs.declared.Lock.{Lock}
use Rattle.frame.specs.declared.Variable.{Variable}
use Rattle.frame.specs.declared.Action.{Action}
use Rattle.frame.specs.declared.Action.TheVariants as action
use Rattle.frame.specs.declared.Frame.{Frame}
use Rattle.frame.specs.declared.Refusal.TheVariants as refusal
use Rattle.guards.specs.Guards.{guard_of, guards_read, listed_guard}
use Rattle.guards.specs.declared.Guard.{Guard}
use Rattle.guards.specs.declared.Guard.TheVariants.{Locked, Unprotected, Inferred}
use Rattle.soundness.specs.Soundness.{state_of, owner_of, count_of, with_count, with_owner, stepped, step_frame, check_from, check_reply, start}
use Rattle.soundness.specs.declared.State.{State}
use Rattle.soundness.specs.declared.Level.{Level}
use Rattle.reply.specs.Reply.{reducible, violated, Reply, Verdict}
use Rattle.reply.specs.declared.Kind.{Kind}
use Rattle.reply.specs.declared.Kind.TheVariants.{GuardNotHeld, UnprotectedAfterCommit, AcquireAfterCommit, SetEmptied}
use Rattle.reply.specs.declared.Violation.{Violation}
use Rattle.instrumented.specs.Held.{held_set}
use Rattle.pass.specs.Pass.{full_sets, judgement}
use Rattle.verdict.specs.Verdict.{verdict_under, inferred_reply}

-- An operation of thread t leads to the state n: figure 4's rules on the owner of each lock, 0 for none and else a thread plus 1, and on how
-- often it is held (σ), and on the depth of each thread (A(Π(t))). A recording has no values, so a read has no premise and a write no effect.
module _ (s : State) (t : ℕ) where
  pub data Acts : Action → State → Type 0 where
    -- [ACT READ], without σ(x) = v
    act_read : {x : Variable} → Acts (action.Read x) s
    -- [ACT WRITE], without x := v
    act_write : {x : Variable} → Acts (action.Write x) s
    -- [ACT ACQUIRE]
    act_acquire : {m : Lock} → owner_of m s ≡ 0 → Acts (action.Acquire m) (with_owner m (t + 1) 1 s)
    -- [ACT RELEASE], of a lock that is held once
    act_release : {m : Lock} → owner_of m s ≡ t + 1 → count_of m s ≤ 1 → Acts (action.Release m) (with_owner m 0 0 s)
    -- "Java provides re-entrant locks" (section 4.3)
    act_reentrant_acquire : {m : Lock} → owner_of m s ≡ t + 1 → Acts (action.Acquire m) (with_count m (count_of m s + 1) s)
    act_reentrant_release : {m : Lock} → owner_of m s ≡ t + 1 → 1 < count_of m s → Acts (action.Release m) (with_count m (count_of m s - 1) s)
    -- [ACT OTHER], and "if T(t, π, begin, π′) then A(π′) = A(π) + 1" of section 2.2
    act_other_begin : Acts action.Begin (state_of s.owners s.counts (set s.depths t (get_or s.depths t 0 + 1)))
    -- [ACT OTHER], and "if T(t, π, end, π′), then A(π) > 0 and A(π′) = A(π) - 1" of section 2.2
    act_other_end : 0 < get_or s.depths t 0 → Acts action.End (state_of s.owners s.counts (set s.depths t (get_or s.depths t 0 - 1)))

-- The format's own limits, which the figures do not have: "9: begin inside 15 open blocks of this thread .. 20: acquire of a lock that this
-- thread holds 15 times already".
abbrev pub BelowLimit : State → ℕ → Action → Type 0
BelowLimit s t (action.Acquire m) = owner_of m s ≡ t + 1 → count_of m s < most_held
BelowLimit s t (action.Release m) = Unit {0}
BelowLimit s t (action.Read x) = Unit {0}
BelowLimit s t (action.Write x) = Unit {0}
BelowLimit s t action.Begin = get_or s.depths t 0 < deepest
BelowLimit s t action.End = Unit {0}

-- Figure 4 has no step for the frame.
abbrev pub NoStep : Frame → State → Type 0
NoStep f s = (n : State) → Acts s f.thread.0 f.action n → ⊥

-- A frame passes in sequence exactly if figure 4 has a step for it and it is below the limits, and leads where that step leads. It is refused
-- by 7, 8 and 10 exactly if it is an acquire, a release and an end for which figure 4 has no step, by 9 exactly if it is a begin inside 15
-- open blocks, and by 20 exactly if it is an acquire of a lock that its thread holds 15 times.
abbrev pub SoundnessIsOfTheRules : Type 0
SoundnessIsOfTheRules =
    (f : Frame) (s : State)
    → ((n : State) → ((x : Level) × (step_frame f s ≡ stepped (Ok x) n)) ↔ (Acts s f.thread.0 f.action n × BelowLimit s f.thread.0 f.action))
    × ((step_frame f s).outcome ≡ Err refusal.LockTaken ↔ ((m : Lock) × (f.action ≡ action.Acquire m) × NoStep f s))
    × ((step_frame f s).outcome ≡ Err refusal.LockNotHeld ↔ ((m : Lock) × (f.action ≡ action.Release m) × NoStep f s))
    × ((step_frame f s).outcome ≡ Err refusal.TooDeep ↔ ((f.action ≡ action.Begin) × (deepest ≤ get_or s.depths f.thread.0 0)))
    × ((step_frame f s).outcome ≡ Err refusal.NoOpenBlock ↔ ((f.action ≡ action.End) × NoStep f s))
    × ((step_frame f s).outcome ≡ Err refusal.TooOften
    ↔ ((m : Lock) × (f.action ≡ action.Acquire m) × (owner_of m s ≡ f.thread.0 + 1) × (most_held ≤ count_of m s)))

-- "A lock is free, or has an owner, the thread that holds it, and a count of how often it is held, 1 to 15": so is every lock after a sound
-- recording.
abbrev pub Counted : State → Lock → Type 0
Counted s l = ((owner_of l s ≡ 0) × (count_of l s ≡ 0)) ⊎ ((0 < owner_of l s) × (0 < count_of l s) × (count_of l s ≤ most_held))

abbrev pub LocksAreCounted : Type 0
LocksAreCounted = (ws : List ℕ) → check_reply ws ≡ (Ok tt) → (l : Lock) → l.0 < lock_count → Counted (check_from 0 start ws).state l

-- The paper's instrumentation store φ: the phase of each thread, and the candidate lock set of each variable.
pub data Stage : Type 0 where
  Outside PreCommit PostCommit : Stage

pub record Store : Type 0 where
  pub stage : ℕ → Stage
  pub locks : ℕ → ℕ

-- φ[t := g] and φ[x := l]
abbrev pub put_stage : Store → ℕ → Stage → Store
put_stage φ t g = record { stage = λ u. cond (eqb u t) g (φ.stage u); locks = φ.locks }

abbrev pub put_locks : Store → ℕ → ℕ → Store
put_locks φ x l = record { stage = φ.stage; locks = λ y. cond (eqb y x) l (φ.locks y) }

-- "a ∈ {rd(x, v), wr(x, v)}" of figures 8 and 11
pub data Accesses : Action → Variable → Type 0 where
  reads : {x : Variable} → Accesses (action.Read x) x
  writes : {x : Variable} → Accesses (action.Write x) x

-- P gives each variable's guard: a lock (P(x) defined), unprotected (undefined), or inferred. held_set t is H(t, σ).
module _ (P : ℕ → Guard) (s : State) (φ : Store) (t : ℕ) where
  abbrev pub depth : ℕ
  depth = get_or s.depths t 0

  abbrev pub shared : Variable → ℕ
  shared x = bit_and (φ.locks x.0) (held_set t s.owners)

  -- An operation of thread t leads to the store φ'.
  pub data Steps : Action → Store → Type 0 where
    ins_access_protected : {a : Action} {x : Variable} {m : Lock} → Accesses a x → P x.0 ≡ Locked m → owner_of m s ≡ t + 1 → Steps a φ
    ins_race_commit : {a : Action} {x : Variable} → Accesses a x → P x.0 ≡ Unprotected → φ.stage t ≡ PreCommit → Steps a (put_stage φ t PostCommit)
    ins_race_outside : {a : Action} {x : Variable} → Accesses a x → P x.0 ≡ Unprotected → φ.stage t ≡ Outside → Steps a φ
    ins_acquire : {m : Lock} → (owner_of m s ≡ t + 1 → ⊥) → (φ.stage t ≡ PostCommit → ⊥) → Steps (action.Acquire m) φ
    ins_release_commit : {m : Lock} → count_of m s ≤ 1 → (φ.stage t ≡ Outside → ⊥) → Steps (action.Release m) (put_stage φ t PostCommit)
    ins_release_outside : {m : Lock} → count_of m s ≤ 1 → φ.stage t ≡ Outside → Steps (action.Release m) φ
    -- "a re-entrant lock acquire is a both-mover .. Similarly, a re-entrant release is also a both-mover." (section 4.3)
    ins_reentrant_acquire : {m : Lock} → owner_of m s ≡ t + 1 → Steps (action.Acquire m) φ
    ins_reentrant_release : {m : Lock} → owner_of m s ≡ t + 1 → 1 < count_of m s → Steps (action.Release m) φ
    ins_enter : depth ≡ 0 → Steps action.Begin (put_stage φ t PreCommit)
    ins_nested_enter : 0 < depth → Steps action.Begin φ
    ins_exit : depth ≡ 1 → Steps action.End (put_stage φ t Outside)
    ins_nested_exit : 1 < depth → Steps action.End φ
    ins2_access : {a : Action} {x : Variable} → Accesses a x → P x.0 ≡ Inferred → (shared x ≡ 0 → ⊥) → Steps a (put_locks φ x.0 (shared x))

  -- An operation of thread t goes wrong, with the kind that docs/FORMAT.md gives to the rule.
  pub data Wrong : Action → Kind → Type 0 where
    wrong_access_protected : {a : Action} {x : Variable} {m : Lock} → Accesses a x → P x.0 ≡ Locked m → (owner_of m s ≡ t + 1 → ⊥) → Wrong a GuardNotHeld
    wrong_race_violate : {a : Action} {x : Variable} → Accesses a x → P x.0 ≡ Unprotected → φ.stage t ≡ PostCommit → Wrong a UnprotectedAfterCommit
    wrong_acquire : {m : Lock} → (owner_of m s ≡ t + 1 → ⊥) → φ.stage t ≡ PostCommit → Wrong (action.Acquire m) AcquireAfterCommit
    wrong2_race : {a : Action} {x : Variable} → Accesses a x → P x.0 ≡ Inferred → shared x ≡ 0 → Wrong a SetEmptied

module _ (P : ℕ → Guard) where
  -- All frames of a recording step: [INS STEP T] of figure 9.
  pub data AllStep : State → Store → List ℕ → Type 0 where
    end : {s : State} {φ : Store} → AllStep s φ []
    step : {s n : State} {φ φ' : Store} {w : ℕ} {ws : List ℕ} {f : Frame} → decode_word w ≡ Ok f → Acts s f.thread.0 f.action n
        → Steps P s φ f.thread.0 f.action φ' → AllStep n φ' ws → AllStep s φ (w ∷ ws)

  -- The first i frames of a recording step, and frame i goes wrong: [INS WRONG] of figure 9.
  pub data WrongAt : State → Store → List ℕ → ℕ → Kind → Type 0 where
    here : {s n : State} {φ : Store} {w : ℕ} {ws : List ℕ} {f : Frame} {k : Kind} → decode_word w ≡ Ok f → Acts s f.thread.0 f.action n
        → Wrong P s φ f.thread.0 f.action k → WrongAt s φ (w ∷ ws) 0 k
    later : {s n : State} {φ φ' : Store} {w : ℕ} {ws : List ℕ} {f : Frame} {i : ℕ} {k : Kind} → decode_word w ≡ Ok f → Acts s f.thread.0 f.action n
        → Steps P s φ f.thread.0 f.action φ' → WrongAt n φ' ws i k → WrongAt s φ (w ∷ ws) (suc i) k

  -- The first i frames of a recording step, and lead to a state and a store.
  pub data Reaches : State → Store → List ℕ → ℕ → State → Store → Type 0 where
    none : {s : State} {φ : Store} {ws : List ℕ} → Reaches s φ ws 0 s φ
    more : {s n m : State} {φ φ' ψ : Store} {w : ℕ} {ws : List ℕ} {f : Frame} {i : ℕ} → decode_word w ≡ Ok f → Acts s f.thread.0 f.action n
        → Steps P s φ f.thread.0 f.action φ' → Reaches n φ' ws i m ψ → Reaches s φ (w ∷ ws) (suc i) m ψ

-- All threads are outside, and every candidate set is all 64 locks.
abbrev pub start_store : Store
start_store = record { stage = λ t. Outside; locks = λ x. get_or full_sets x 0 }

abbrev pub guarding : List ℕ → ℕ → Guard
guarding guards x = guard_of (get_or guards x 0)

-- A thread's stage is in a block, and after the commit of its block.
abbrev pub InBlock : Stage → Type 0
InBlock g = g ≡ Outside → ⊥

abbrev pub Committed : Stage → Type 0
Committed g = g ≡ PostCommit

-- What the rules say of thread t before the frames of a recording.
module _ (P : ℕ → Guard) (ws : List ℕ) (t : ℕ) where
  -- The first i frames step, and after them Q holds of the thread's stage.
  abbrev pub StageAfter : ℕ → (Stage → Type 0) → Type 0
  StageAfter i Q = (s : State) × (φ : Store) × Reaches P start start_store ws i s φ × Q (φ.stage t)

  -- Frame b made Q true of the thread's stage, and it stayed true up to frame i: not just before b, but just before each later one up to i.
  pub record Since (Q : Stage → Type 0) (i b : ℕ) : Type 0 where
    pub within : b < i
    pub not_before : StageAfter b (λ g. Q g → ⊥)
    pub from_there : (k : ℕ) → b < k → k ≤ i → StageAfter k Q

  -- A mark of Q just before frame i: the frame that made it true, absent where it is not true.
  abbrev pub MarkIs : (Stage → Type 0) → ℕ → Option ℕ → Type 0
  MarkIs Q i (Some b) = Since Q i b
  MarkIs Q i None = StageAfter i (λ g. Q g → ⊥)

-- The locks that a violation names at an access, by the guard and the candidate set of its variable: "the guard alone", "none", "the
-- variable's set just before the frame".
abbrev pub guard_locks : Guard → ℕ → ℕ
guard_locks (Locked m) l = 2 ^ m.0
guard_locks Unprotected l = 0
guard_locks Inferred l = l

-- The locks that a violation names, by the action that goes wrong: at an acquire "the lock acquired". The others never go wrong.
abbrev pub lock_set : (ℕ → Guard) → Store → Action → ℕ
lock_set P φ (action.Acquire m) = 2 ^ m.0
lock_set P φ (action.Release m) = 0
lock_set P φ (action.Read x) = guard_locks (P x.0) (φ.locks x.0)
lock_set P φ (action.Write x) = guard_locks (P x.0) (φ.locks x.0)
lock_set P φ action.Begin = 0
lock_set P φ action.End = 0

-- All of violation v is what the rules say of its frame: the frames before it step, it goes wrong by a rule of v's kind, it is of v's thread,
-- and v's marks and locks are those of this thread and of this frame. "Begin is always the outermost begin of the open block, and commit the
-- frame that took that block after commit; later releases keep it." "Begin is absent outside a block, commit is absent there and before
-- commit."
pub record ToldBy (P : ℕ → Guard) (ws : List ℕ) (v : Violation) : Type 0 where
  pub state : State
  pub store : Store
  pub frame : Frame
  pub reached : Reaches P start start_store ws v.frame state store
  pub word : decode_word (get_or ws v.frame 0) ≡ Ok frame
  pub goes_wrong : Wrong P state store frame.thread.0 frame.action v.kind
  pub thread : v.thread ≡ frame.thread
  pub begin : MarkIs P ws frame.thread.0 InBlock v.frame v.begin
  pub commit : MarkIs P ws frame.thread.0 Committed v.frame v.commit
  pub locks : v.locks ≡ lock_set P store frame.action

-- The reply r to a recording is that of the rules, where P gives each variable's guard: reducible exactly if all frames step, and a violation
-- of kind k at frame i exactly if the first i frames step and frame i goes wrong by a rule of that kind; and all else that a violation names
-- is told by the rules.
abbrev pub OfTheRules : (ℕ → Guard) → List ℕ → Reply → Type 0
OfTheRules P ws r =
    (r ≡ reducible ↔ AllStep P start start_store ws)
    × ((i : ℕ) (k : Kind) → ((v : Violation) × (r ≡ violated v) × (v.frame ≡ i) × (v.kind ≡ k)) ↔ WrongAt P start start_store ws i k)
    × ((v : Violation) → r ≡ violated v → ToldBy P ws v)

-- Term 2's first sentence: the verdict on a sound recording is that of the rules, whatever the codes of the guards.
abbrev pub VerdictIsOfTheRules : Type 0
VerdictIsOfTheRules = (guards ws : List ℕ) → check_reply ws ≡ (Ok tt) → OfTheRules (guarding guards) ws (judgement guards full_sets ws).reply

-- The same of the text of a guard list: the guards are those that its n lines name.
abbrev pub DeclaredIsOfTheRules : Type 0
DeclaredIsOfTheRules =
    (list ws : List ℕ) (n : ℕ) → (guards_read list).reply ≡ Ok n → check_reply ws ≡ (Ok tt)
    → OfTheRules (listed_guard list n) ws (verdict_under Declared list ws)

-- The same of the inferred verdict, with a table of m candidate sets: every guard is inferred.
abbrev pub InferredIsOfTheRules : Type 0
InferredIsOfTheRules = (ws : List ℕ) (m : ℕ) → check_reply ws ≡ (Ok tt) → variable_count ≤ m → OfTheRules (λ x. Inferred) ws (inferred_reply ws m)

-- The rules leave one verdict on a recording: all that a violation names is fixed by them.
abbrev pub RulesFixTheReply : Type 0
RulesFixTheReply =
    (P : ℕ → Guard) (ws : List ℕ) (v u : Verdict) → OfTheRules P ws (Ok v) → OfTheRules P ws (Ok u) → v ≡ u
