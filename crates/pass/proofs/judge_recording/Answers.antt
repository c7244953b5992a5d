use Rattle.std.proofs.Common.{rules, tests}
use Rattle.pass.specs.Pass.{judgement, sets_left}
use Rattle.pass.proofs.judge_recording.Goals as goal

pub returns-then-words-gt-MOST-clause-reply : goal.returns-then-words-gt-MOST-clause-reply
unfolding judgement
returns-then-words-gt-MOST-clause-reply c = search (rules, tests)

pub returns-then-words-gt-MOST-clause-unclosed : goal.returns-then-words-gt-MOST-clause-unclosed
unfolding judgement
returns-then-words-gt-MOST-clause-unclosed c = search (rules, tests)

pub returns-then-words-gt-MOST-clause-contents : goal.returns-then-words-gt-MOST-clause-contents
unfolding sets_left
returns-then-words-gt-MOST-clause-contents c = search (rules, tests)
