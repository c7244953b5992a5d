-- A number 0 is no refusal.
use borrow.Author.Tests.{eq-eqb}
use Rattle.output.proofs.Laws.{appended_none}
use Rattle.refusalreport.proofs.say_numbered.Goals as goal

pub returns-in-Err : goal.returns-in-Err
returns-in-Err c = rw (eq-eqb _ _ c.if-number-eq0.true) (appended_none c.args.out.now)
