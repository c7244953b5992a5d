-- The text stands whole in its buffer, and is handed on.
use borrow.Author.Rules.{rules}
use mathlib.Core.Path.{sym}
use lib.Seq.{length-take-le}
use Rattle.output.proofs.Laws.{put_over}
use Rattle.tracesay.proofs.Laws.{refusal_whole}
use Rattle.tracesay.proofs.trace_say_refusal.Goals as goal

pub slice_bounds-report-end : goal.slice_bounds-report-end
slice_bounds-report-end c =
    let r = c.refusal_report-length.ensures in
    (refusal_whole c.args.reply c.args.source c.args.text.now c.args.words.now r.place r.contents).within

pub slice_bounds-put_text-end : goal.slice_bounds-put_text-end
slice_bounds-put_text-end c =
    let r = c.refusal_report-length.ensures in
    sym (length-take-le _ _ (refusal_whole c.args.reply c.args.source c.args.text.now c.args.words.now r.place r.contents).within)

pub returns-clause-length : goal.returns-clause-length
returns-clause-length c =
    let r = c.refusal_report-length.ensures in
    (refusal_whole c.args.reply c.args.source c.args.text.now c.args.words.now r.place r.contents).long

pub returns-clause-contents : goal.returns-clause-contents
returns-clause-contents c =
    let r = c.refusal_report-length.ensures in
    let w = refusal_whole c.args.reply c.args.source c.args.text.now c.args.words.now r.place r.contents in
    let x = put_over c.over-said.ensures c.put_text.ensures in
    rw (sym w.part, sym x.contents) (search rules)
