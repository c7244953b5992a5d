use Rattle.line.specs.Line.{reply_fields}
use Rattle.line.proofs.Laws.{held_line}
use Rattle.answer.proofs.answer.Goals as goal

pub returns-clause-contents : goal.returns-clause-contents
returns-clause-contents c =
    rw (c.fields_line.ensures, c.reply_fields-fields.ensures, held_line (reply_fields c.args.reply c.args.frames)) at c.put_line.ensures
