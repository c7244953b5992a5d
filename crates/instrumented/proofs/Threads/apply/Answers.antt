-- Each arm is the rule of its operation; what the laws say is by the phase.
use mathlib.Core.Path.{sym, ◌∙◌}
use Rattle.std.proofs.Common.{rules, tests}
use lib.ListN.{get_or}
use Rattle.instrumented.specs.Rules.{judge_operation, judging_of, with_commit, committed}
use Rattle.instrumented.proofs.Laws.{acquire_after, acquire_else, unprotected_after, unprotected_else}
use Rattle.instrumented.proofs.Threads.apply.Goals as goal

pub returns-then-not-contains-clause-rules : goal.returns-then-not-contains-clause-rules
unfolding judge_operation
returns-then-not-contains-clause-rules c = search (rules, tests)

pub returns-then-shared-eq0-clause-rules : goal.returns-then-shared-eq0-clause-rules
unfolding judge_operation
returns-then-shared-eq0-clause-rules c = search (rules, tests)

pub returns-in-Release-clause-rules : goal.returns-in-Release-clause-rules
unfolding judge_operation
returns-in-Release-clause-rules c = search (rules, tests)

pub returns-else-not-contains-clause-rules : goal.returns-else-not-contains-clause-rules
unfolding judge_operation
returns-else-not-contains-clause-rules c = search (rules, tests)

pub returns-else-shared-eq0-clause-rules : goal.returns-else-shared-eq0-clause-rules
unfolding judge_operation
returns-else-shared-eq0-clause-rules c = search (rules, tests)

pub returns-then-depth-eq0-clause-rules : goal.returns-then-depth-eq0-clause-rules
unfolding judge_operation
returns-then-depth-eq0-clause-rules c = search (rules, tests)

pub returns-else-depth-eq0-clause-rules : goal.returns-else-depth-eq0-clause-rules
unfolding judge_operation
returns-else-depth-eq0-clause-rules c = search (rules, tests)

pub returns-in-End-clause-rules : goal.returns-in-End-clause-rules
unfolding judge_operation
returns-in-End-clause-rules c = search (rules, tests)

pub returns-then-after_commit-clause-rules : goal.returns-then-after_commit-clause-rules
unfolding judge_operation
returns-then-after_commit-clause-rules c =
    let a = c.args in
    let j = judging_of a.self.now.begins a.self.now.commits a.sets.now in
    let b = get_or a.self.now.begins a.step.thread.0 0 in
    let m = get_or a.self.now.commits a.step.thread.0 0 in
    let e = sym c.after_commit.ensures ∙ c.if-after_commit.true in
    rw (c.in-Acquire.is, c.single.ensures) (acquire_after a.step.place a.step.thread a.step.depth b m j e c.in-Acquire.lock)

pub returns-else-after_commit-clause-rules : goal.returns-else-after_commit-clause-rules
unfolding judge_operation
returns-else-after_commit-clause-rules c =
    let a = c.args in
    let j = judging_of a.self.now.begins a.self.now.commits a.sets.now in
    let b = get_or a.self.now.begins a.step.thread.0 0 in
    let m = get_or a.self.now.commits a.step.thread.0 0 in
    let e = sym c.after_commit.ensures ∙ c.if-after_commit.false in
    rw c.in-Acquire.is (acquire_else a.step.place a.step.thread a.step.depth b m j e c.in-Acquire.lock)

pub returns-then-after_commit-2-clause-rules : goal.returns-then-after_commit-2-clause-rules
unfolding judge_operation
returns-then-after_commit-2-clause-rules c =
    let a = c.args in
    let j = judging_of a.self.now.begins a.self.now.commits a.sets.now in
    let b = get_or a.self.now.begins a.step.thread.0 0 in
    let m = get_or a.self.now.commits a.step.thread.0 0 in
    let e = sym c.after_commit-in-Unprotected.ensures ∙ c.if-after_commit-2.true in
    rw c.in-Unprotected.is (unprotected_after a.step.place a.step.thread a.step.depth b m j e (with_commit a.step.thread (committed a.step.depth m a.step.place) j))

pub returns-else-after_commit-2-clause-rules : goal.returns-else-after_commit-2-clause-rules
unfolding judge_operation
returns-else-after_commit-2-clause-rules c =
    let a = c.args in
    let j = judging_of a.self.now.begins a.self.now.commits a.sets.now in
    let b = get_or a.self.now.begins a.step.thread.0 0 in
    let m = get_or a.self.now.commits a.step.thread.0 0 in
    let e = sym c.after_commit-in-Unprotected.ensures ∙ c.if-after_commit-2.false in
    rw (c.in-Unprotected.is, c.commit_at-in-Unprotected.ensures) (unprotected_else a.step.place a.step.thread a.step.depth b m j e (with_commit a.step.thread (committed a.step.depth m a.step.place) j))
