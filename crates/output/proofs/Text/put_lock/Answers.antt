-- The three cases of `lock_text`.
use mathlib.Core.List.{append-nil}
use borrow.Author.Tests.{eq-eqb, ne_eqb}
use Rattle.output.specs.Output.{bytes, decimal, lock_text}
use Rattle.output.proofs.Laws.{appended_none, appended_more}
use Rattle.output.proofs.Text.put_lock.Goals as goal

pub returns-then-set-eq0 : goal.returns-then-set-eq0
unfolding lock_text
returns-then-set-eq0 c = rw (eq-eqb _ _ c.if-set-eq0.true) (appended_none c.args.self.now)

pub returns-then-set-ne0 : goal.returns-then-set-ne0
unfolding lock_text bytes
returns-then-set-ne0 c = rw (ne_eqb _ _ c.if-set-eq0.false, ne_eqb _ _ c.if-set-ne0.true) (appended_more c.put_decimal.ensures c.put_text.ensures)

pub returns-else-set-ne0 : goal.returns-else-set-ne0
unfolding lock_text
returns-else-set-ne0 c = rw (ne_eqb _ _ c.if-set-eq0.false, eq-eqb _ _ c.if-set-ne0.false, append-nil (decimal c.args.lock)) c.put_decimal.ensures
