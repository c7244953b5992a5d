-- The column, and the byte there, or that the file ends before it.
use borrow.Author.Tests.{le-leb, lt-leb}
use Rattle.output.specs.Output.{bytes}
use Rattle.output.proofs.Laws.{appended_more}
use Rattle.linefault.proofs.put_column.Goals as goal

pub returns-in-Some : goal.returns-in-Some
unfolding bytes
returns-in-Some c =
    let byte = c.in-Some.ensures.lookup.3 in
    let digits = rw (byte.1 0) at c.put_hexadecimal.ensures in
    rw (lt-leb _ _ byte.0)
    (appended_more c.put_text.ensures (appended_more c.put_decimal.ensures (appended_more c.put_text-in-Some.ensures (appended_more digits c.put_text-in-Some-2.ensures))))

pub returns-in-None : goal.returns-in-None
unfolding bytes
returns-in-None c =
    rw (le-leb _ _ c.in-None.ensures.lookup.3)
    (appended_more c.put_text.ensures (appended_more c.put_decimal.ensures c.put_text-in-None.ensures))
