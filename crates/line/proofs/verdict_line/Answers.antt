-- The line of the fields of a reply.
use mathlib.Core.Path.{ap, ◌∙◌}
use Rattle.line.specs.Line.{reply_fields, fields_line}
use Rattle.line.proofs.Laws.{held_line}
use Rattle.line.proofs.verdict_line.Goals as goal

pub returns : goal.returns
returns c =
    c.fields_line.ensures ∙ ap fields_line c.reply_fields.ensures ∙ held_line (reply_fields c.args.r c.args.frames)
