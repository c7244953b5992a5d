-- Five texts, one behind the other.
use Rattle.output.specs.Output.{bytes}
use Rattle.output.proofs.Laws.{appended_more}
use Rattle.linereport.proofs.put_other.Goals as goal

pub returns : goal.returns
unfolding bytes
returns c =
    appended_more c.put_text.ensures
    (appended_more c.put_decimal.ensures (appended_more c.put_text-2.ensures (appended_more c.put_decimal-2.ensures c.put_text-3.ensures)))
