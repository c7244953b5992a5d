-- The text stands whole in its buffer, and is handed on.
use borrow.Author.Rules.{rules}
use mathlib.Core.Path.{sym}
use lib.Seq.{length-take-le}
use Rattle.output.proofs.Laws.{put_over}
use Rattle.tracesay.proofs.Laws.{line_whole}
use Rattle.tracesay.proofs.trace_say_verdict.Goals as goal

pub slice_bounds-whole-end : goal.slice_bounds-whole-end
slice_bounds-whole-end c =
    let r = c.line_report-length.ensures in
    (line_whole c.args.line.now c.args.words.now r.place r.contents).within

pub slice_bounds-put_text-end : goal.slice_bounds-put_text-end
slice_bounds-put_text-end c =
    let r = c.line_report-length.ensures in
    sym (length-take-le _ _ (line_whole c.args.line.now c.args.words.now r.place r.contents).within)

pub returns-clause-length : goal.returns-clause-length
returns-clause-length c =
    let r = c.line_report-length.ensures in
    (line_whole c.args.line.now c.args.words.now r.place r.contents).long

pub returns-clause-contents : goal.returns-clause-contents
returns-clause-contents c =
    let r = c.line_report-length.ensures in
    let w = line_whole c.args.line.now c.args.words.now r.place r.contents in
    let x = put_over c.over-text.ensures c.put_text.ensures in
    rw (sym w.part, sym x.contents) (search rules)
