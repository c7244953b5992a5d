-- Invariant: the bytes so far are written.
use lib.ListN.{take}
use Rattle.output.specs.Output.{Appended}
use Rattle.output.proofs.Text.put_text.Given as goal

abbrev pub invariant-loop-byte : goal.invariant-loop-byte
invariant-loop-byte l = Appended l.initial.self l.self (take l.byte-index l.text)
