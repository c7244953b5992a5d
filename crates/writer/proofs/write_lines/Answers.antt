use mathlib.Core.Path.{refl, ◌∙◌}
use Rattle.digits.specs.Digits.{lines_of}
use Rattle.writer.proofs.Lines.{line_more}
use Rattle.writer.proofs.write_lines.Goals as goal

pub loop-i-init : goal.loop-i-init
unfolding lines_of
loop-i-init c = refl

pub loop-i-preserved : goal.loop-i-preserved
loop-i-preserved c =
    let l = c.loop-i in
    line_more c.args.words.now c.args.text.now l.text _ l.i c.loop-i-test.true (c.copy_from_slice.ensures.after ∙ c.word_line.ensures) l.invariant
