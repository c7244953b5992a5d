use Rattle.std.proofs.Common.{rules}
use Rattle.text.proofs.Laws.{scan_line}
use Rattle.text.proofs.scan.Goals as goal

pub returns-in_err-line_at : goal.returns-in_err-line_at
returns-in_err-line_at c =
    let e = scan_line c.args.s.now c.loop-i.i c.loop-i-test.true in
    search (rules, e)

pub returns-in_default : goal.returns-in_default
returns-in_default c =
    let e = scan_line c.args.s.now c.loop-i.i c.loop-i-test.true in
    search (rules, e)

pub loop-i-preserved : goal.loop-i-preserved
loop-i-preserved c =
    let e = scan_line c.args.s.now c.loop-i.i c.loop-i-test.true in
    search (rules, e)
