-- Five sentences, one behind the other.
use Rattle.output.proofs.Laws.{appended_more}
use Rattle.violationtext.proofs.say_violation.Goals as goal

pub returns : goal.returns
returns c =
    let k = c.known-known.ensures in
    appended_more (rw c.kind_sentence.ensures at c.say.ensures)
    (appended_more (rw (c.block_sentence.ensures, k) at c.say-2.ensures)
    (appended_more (rw (c.frame_sentence.ensures, k) at c.say-3.ensures)
    (appended_more (rw (c.why_sentence.ensures, k) at c.say-4.ensures) (rw c.remedy_sentence.ensures at c.say-5.ensures))))
