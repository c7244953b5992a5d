-- Three texts, one behind the other.
use Rattle.output.specs.Output.{bytes}
use Rattle.output.proofs.Laws.{appended_more}
use Rattle.phrase.specs.Phrase.{line_text}
use Rattle.phrase.proofs.put_line.Goals as goal

pub returns : goal.returns
unfolding line_text bytes
returns c = appended_more c.put_named.ensures (appended_more c.put_named-2.ensures c.put_byte.ensures)
