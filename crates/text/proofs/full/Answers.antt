use Rattle.std.proofs.Common.{rules, tests}
use Rattle.text.specs.Text.{scan_from}
use Rattle.text.proofs.full.Goals as goal

pub returns-then-s-le-MOST_BYTES : goal.returns-then-s-le-MOST_BYTES
unfolding scan_from
returns-then-s-le-MOST_BYTES c = search (rules, tests)

pub returns-else-s-le-MOST_BYTES : goal.returns-else-s-le-MOST_BYTES
unfolding scan_from
returns-else-s-le-MOST_BYTES c = search (rules, tests)
