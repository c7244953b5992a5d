-- Three parts, one behind the other.
use Rattle.output.specs.Output.{bytes}
use Rattle.output.proofs.Laws.{appended_more}
use Rattle.fault.proofs.Laws.{leading_most}
use Rattle.linefault.proofs.say_line.Goals as goal

pub put_column-requires : goal.put_column-requires
put_column-requires c = rw c.leading_digits-c.ensures (leading_most 8 _)

pub returns : goal.returns
unfolding bytes
returns c =
    let said = rw c.place_facts.ensures at c.say.ensures in
    let column = rw (c.leading_digits-c.ensures, c.line_from-line.ensures) at c.put_column.ensures in
    let fault = rw (c.fault_sentence.ensures, c.fault_of.ensures, c.leading_digits-c.ensures, c.line_from-line.ensures) at c.put_text.ensures in
    appended_more said (appended_more column fault)
