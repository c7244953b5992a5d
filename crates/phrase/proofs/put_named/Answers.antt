-- The number is written behind the words.
use Rattle.output.proofs.Laws.{appended_more}
use Rattle.phrase.proofs.put_named.Goals as goal

pub returns : goal.returns
returns c = appended_more c.put_text.ensures c.put_decimal.ensures
