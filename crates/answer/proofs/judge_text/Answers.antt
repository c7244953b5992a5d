use mathlib.Core.Path.{sym, ◌∙◌}
use lib.ListN.{replicate}
use lib.Seq.{length-take-le}
use Rattle.frame.specs.Limits.{most_frames}
use Rattle.text.proofs.Laws.{reached_limit, after_into}
use Rattle.answer.specs.Answer.{text_judged}
use Rattle.answer.proofs.judge_text.Goals as goal

pub read_into-requires : goal.read_into-requires
read_into-requires c = reached_limit c.args.text.now

pub slice_bounds-words-end : goal.slice_bounds-words-end
slice_bounds-words-end c =
    let r = c.read_into in
    let w = after_into c.args.text.now (replicate most_frames 0) c.in-Ok.frames r.new.words r.result c.in-Ok.is r.ensures.contents in
    w.fits

pub slice_bounds-judge-end : goal.slice_bounds-judge-end
slice_bounds-judge-end c =
    let r = c.read_into in
    let w = after_into c.args.text.now (replicate most_frames 0) c.in-Ok.frames r.new.words r.result c.in-Ok.is r.ensures.contents in
    sym (length-take-le _ _ w.fits)

pub returns-in-Ok : goal.returns-in-Ok
unfolding text_judged
returns-in-Ok c =
    let r = c.read_into in
    let w = after_into c.args.text.now (replicate most_frames 0) c.in-Ok.frames r.new.words r.result c.in-Ok.is r.ensures.contents in
    let e = rw w.words at c.judge.ensures in
    rw (sym r.ensures.reply ∙ c.in-Ok.is, e)

pub returns-in-Err : goal.returns-in-Err
unfolding text_judged
returns-in-Err c = rw (sym c.read_into.ensures.reply ∙ c.in-Err.is)
