-- The check, the room, and then the lines: each refusal leaves the text as it was.
use Rattle.std.proofs.Common.{rules, tests}
use Rattle.writer.specs.Writer.{write_reply}
use Rattle.writer.proofs.Lines.{in_place}
use Rattle.writer.proofs.write_recording.Goals as goal

pub returns-in_err-check-clause-reply : goal.returns-in_err-check-clause-reply
unfolding write_reply
returns-in_err-check-clause-reply c = search (rules, tests)

pub returns-in_err-check-clause-contents : goal.returns-in_err-check-clause-contents
unfolding write_reply
returns-in_err-check-clause-contents c = search (rules, tests)

pub returns-in_err-bytes-clause-reply : goal.returns-in_err-bytes-clause-reply
unfolding write_reply
returns-in_err-bytes-clause-reply c = search (rules, tests)

pub returns-in_err-bytes-clause-contents : goal.returns-in_err-bytes-clause-contents
unfolding write_reply
returns-in_err-bytes-clause-contents c = search (rules, tests)

pub returns-clause-reply : goal.returns-clause-reply
unfolding write_reply
returns-clause-reply c = search (rules, tests)

pub returns-clause-contents : goal.returns-clause-contents
unfolding write_reply
returns-clause-contents c =
    let e = in_place c.args.words.now c.args.text.now c.args.place c.write_lines.ensures in
    search (rules, tests, e)
