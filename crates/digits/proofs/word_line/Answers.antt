-- Eight digits are written, and LF is left behind them.
use Rattle.digits.specs.Digits.{word_line}
use Rattle.digits.proofs.word_line.Goals as goal

pub returns : goal.returns
unfolding word_line
returns c = rw (c.put.ensures, c.from.ensures)
