use Rattle.std.specs.Prelude.{Ok}
use mathlib.Core.Path.{sym, ◌∙◌}
use lib.ListN.{length}
use borrow.Author.Tests.{lt-ltb, le-ltb}
use Rattle.verdict.proofs.Laws.{inferred_fits}
use Rattle.trace.proofs.Laws.{frames_whole}
use Rattle.trace.proofs.trace_inferred.Goals as goal

pub returns-then-room-lt-LINE : goal.returns-then-room-lt-LINE
returns-then-room-lt-LINE c =
    let t = lt-ltb _ _ c.if-room-lt-LINE.true in
    record {
      kind = simp t;
      sets = simp t;
      contents = simp t;
    }

pub returns : goal.returns
returns c =
    let d = c.inferred-inferred in
    let p = c.args in
    let t = le-ltb _ _ c.if-room-lt-LINE.false in
    let n = length p.words.now in
    let w = frames_whole d.result n (λ e. inferred_fits p.words.now (length p.sets.now) (Ok tt) (sym d.ensures.reply ∙ e)) in
    record {
      kind = rw (t, ← d.ensures.reply) c.answer.ensures.kind;
      sets = rw t d.ensures.contents;
      contents = rw (t, ← d.ensures.reply, ← w) c.answer.ensures.contents;
    }
