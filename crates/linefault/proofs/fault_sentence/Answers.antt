-- The sentence of each case.
use Rattle.output.specs.Output.{bytes}
use Rattle.linefault.proofs.fault_sentence.Goals as goal

pub returns-in-Mark : goal.returns-in-Mark
unfolding bytes
returns-in-Mark c = rw c.in-Mark.is

pub returns-in-BlankLine : goal.returns-in-BlankLine
unfolding bytes
returns-in-BlankLine c = rw c.in-BlankLine.is

pub returns-in-TooFew : goal.returns-in-TooFew
unfolding bytes
returns-in-TooFew c = rw c.in-TooFew.is

pub returns-in-Unfinished : goal.returns-in-Unfinished
unfolding bytes
returns-in-Unfinished c = rw c.in-Unfinished.is

pub returns-in-NoLinefeed : goal.returns-in-NoLinefeed
unfolding bytes
returns-in-NoLinefeed c = rw c.in-NoLinefeed.is

pub returns-in-Return : goal.returns-in-Return
unfolding bytes
returns-in-Return c = rw c.in-Return.is

pub returns-in-Blank : goal.returns-in-Blank
unfolding bytes
returns-in-Blank c = rw c.in-Blank.is

pub returns-in-TooMany : goal.returns-in-TooMany
unfolding bytes
returns-in-TooMany c = rw c.in-TooMany.is

pub returns-in-NoEnd : goal.returns-in-NoEnd
unfolding bytes
returns-in-NoEnd c = rw c.in-NoEnd.is

pub returns-in-LowerCase : goal.returns-in-LowerCase
unfolding bytes
returns-in-LowerCase c = rw c.in-LowerCase.is

pub returns-in-NoDigit : goal.returns-in-NoDigit
unfolding bytes
returns-in-NoDigit c = rw c.in-NoDigit.is
