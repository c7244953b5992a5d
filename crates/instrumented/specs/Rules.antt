-- The instrumented rules of the paper's figures 8 and 11 as a step function: what a sound frame does to its thread and to the candidate
-- sets. In this order: where a thread stands, the state, violations, the step.
-- Quotes are from docs/FORMAT.md.
use Rattle.std.specs.Prelude.{ℕ, ◌+◌, ◌-◌, ◌^◌, ◌/◌, ◌%◌, Bool, cond, List, eqb, get_or, set, Ok, Err, Option, Some, None, Result}
use Rattle.std.specs.Int.Bits.{bit_and}
use Rattle.frame.specs.declared.Thread.{Thread}
use Rattle.frame.specs.declared.Lock.{Lock}
use Rattle.reply.specs.declared.Kind.{Kind}
use Rattle.reply.specs.declared.Kind.TheVariants as kind
use Rattle.reply.specs.Reply.{Verdict}
use Rattle.instrumented.specs.declared.Fault.{Fault}
use Rattle.operation.specs.declared.Operation.{Operation}
use Rattle.operation.specs.declared.Operation.TheVariants.{Acquire, Release, Protected, Unprotected, Inferred, Begin, End}

-- "Each thread is outside, before commit or after commit." With the places of the outermost begin and of the commit.
pub data Phase : Type 0 where
  outside : Phase
  before : ℕ → Phase
  after : ℕ → ℕ → Phase

-- The phase of a thread at depth d, by the place b of its outermost begin and its commit c: 0 for none, else the commit's place plus 1.
abbrev pub phase_of : ℕ → ℕ → ℕ → Phase
phase_of d b c = cond (eqb d 0) outside (cond (eqb c 0) (before b) (after b (c - 1)))

-- The begin and commit of each thread, as in `phase_of`; the candidate set of each variable.
pub record Judging : Type 0 where
  pub begins : List ℕ
  pub commits : List ℕ
  pub sets : List ℕ

abbrev pub judging_of : List ℕ → List ℕ → List ℕ → Judging
judging_of b c s = record { begins = b; commits = c; sets = s }

-- The phase of thread t at depth d.
abbrev pub phase_at : ℕ → Thread → Judging → Phase
phase_at d t j = phase_of d (get_or j.begins t.0 0) (get_or j.commits t.0 0)

-- What one frame leads to: `Reducible`, that is, go on, or its violation, which leaves the state as it was.
pub record Judged : Type 0 where
  pub verdict : Verdict
  pub judging : Judging

abbrev pub judged : Verdict → Judging → Judged
judged v j = record { verdict = v; judging = j }

-- "Begin is absent outside a block, commit is absent there and before commit."
abbrev pub begin_mark : Phase → Option ℕ
begin_mark outside = None
begin_mark (before b) = Some b
begin_mark (after b c) = Some b

abbrev pub commit_mark : Phase → Option ℕ
commit_mark outside = None
commit_mark (before b) = None
commit_mark (after b c) = Some c

abbrev pub violation : Kind → ℕ → Thread → Phase → ℕ → Verdict
violation k i t p locks =
    Err (record { kind = k; frame = i; thread = t; begin = begin_mark p; commit = commit_mark p; locks = locks })

-- The verdict on a frame by what is wrong with it.
abbrev pub fault_verdict : Result Unit Fault → ℕ → Thread → Phase → Verdict
fault_verdict (Ok _) i t p = (Ok tt)
fault_verdict (Err x) i t p = violation x.kind i t p x.locks

-- "Lock n is bit n of a 64-bit set."
abbrev pub contains : ℕ → Lock → Bool
contains s l = eqb (s / 2 ^ l.0 % 2) 1

-- The commit, as in `phase_of`, after a frame at place i that commits the block it stands in: a block before commit is after it.
abbrev pub committed : ℕ → ℕ → ℕ → ℕ
committed d c i = cond (eqb d 0) c (cond (eqb c 0) (i + 1) c)

-- The thread's commit set to c.
abbrev pub with_commit : Thread → ℕ → Judging → Judging
with_commit t c j = judging_of j.begins (set j.commits t.0 c) j.sets

-- "An acquire of a free lock after commit goes wrong (locks: the lock acquired)."
abbrev pub acquire_in : Phase → ℕ → Thread → Lock → Judging → Judged
acquire_in outside i t l j = judged (Ok tt) j
acquire_in (before b) i t l j = judged (Ok tt) j
acquire_in (after b c) i t l j = judged (violation kind.AcquireAfterCommit i t (after b c) (2 ^ l.0)) j

-- "An access to an unprotected variable commits a block before commit, goes wrong after commit (locks: none), and is free outside."
-- `next` is the state in which the block is committed.
abbrev pub unprotected_in : Phase → ℕ → Thread → Judging → Judging → Judged
unprotected_in outside i t next j = judged (Ok tt) next
unprotected_in (before b) i t next j = judged (Ok tt) next
unprotected_in (after b c) i t next j = judged (violation kind.UnprotectedAfterCommit i t (after b c) 0) j

-- One operation of thread t at place i; d is the thread's depth and h the set of the locks that it holds, both before the frame.
unfoldable pub judge_operation : ℕ → Thread → ℕ → ℕ → Operation → Judging → Judged
judge_operation i t d h (Acquire l) j = acquire_in (phase_at d t j) i t l j
-- "A release that frees its lock inside a block puts it after commit."
judge_operation i t d h (Release l) j = judged (Ok tt) (with_commit t (committed d (get_or j.commits t.0 0) i) j)
-- "An access to a guarded variable goes wrong unless its thread holds the guard (locks: the guard alone), in a block or not, and otherwise
-- changes nothing."
judge_operation i t d h (Protected m) j =
    cond (contains h m) (judged (Ok tt) j)
    (judged (violation kind.GuardNotHeld i t (phase_at d t j) (2 ^ m.0)) j)
judge_operation i t d h Unprotected j =
    unprotected_in (phase_at d t j) i t (with_commit t (committed d (get_or j.commits t.0 0) i) j) j
-- "An access goes wrong where the set and the locks held by the thread have none in common (locks: the variable's set just before the
-- frame); otherwise the set becomes what they share."
judge_operation i t d h (Inferred v) j =
    cond (eqb (bit_and (get_or j.sets v.0 0) h) 0)
    (judged (violation kind.SetEmptied i t (phase_at d t j) (get_or j.sets v.0 0)) j)
    (judged (Ok tt) (judging_of j.begins j.commits (set j.sets v.0 (bit_and (get_or j.sets v.0 0) h))))
-- "An outermost begin puts it before commit; its matching end puts it outside; nested begins and ends change only depth."
judge_operation i t d h Begin j =
    cond (eqb d 0) (judged (Ok tt) (judging_of (set j.begins t.0 i) (set j.commits t.0 0) j.sets)) (judged (Ok tt) j)
judge_operation i t d h End j = judged (Ok tt) j
