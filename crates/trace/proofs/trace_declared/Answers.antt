use Rattle.std.specs.Prelude.{Ok}
use mathlib.Core.Path.{sym, ◌∙◌}
use lib.ListN.{length}
use borrow.Author.Tests.{lt-ltb, le-ltb}
use Rattle.guards.specs.Judgement.{Declared}
use Rattle.verdict.proofs.Laws.{verdict_fits}
use Rattle.trace.proofs.Laws.{frames_whole}
use Rattle.trace.proofs.trace_declared.Goals as goal

pub returns-then-line-lt-LINE : goal.returns-then-line-lt-LINE
returns-then-line-lt-LINE c =
    record {
      kind = simp (lt-ltb _ _ c.if-line-lt-LINE.true);
      contents = simp (lt-ltb _ _ c.if-line-lt-LINE.true);
    }

pub returns : goal.returns
returns c =
    let d = c.judge-declared in
    let p = c.args in
    let t = le-ltb _ _ c.if-line-lt-LINE.false in
    let n = length p.words.now in
    let w = frames_whole d.result n (λ e. verdict_fits Declared p.list.now p.words.now (Ok tt) (sym d.ensures ∙ e)) in
    record {
      kind = rw (t, ← d.ensures) c.answer.ensures.kind;
      contents = rw (t, ← d.ensures, ← w) c.answer.ensures.contents;
    }
