-- Invariant: filling in the rest of the sentence behind what is written fills in the whole.
use lib.ListN.{drop}
use Rattle.output.specs.declared.Text.{Text}
use Rattle.output.specs.Output.{Appended}
use Rattle.sentence.specs.Sentence.{filled}
use Rattle.sentence.proofs.say.Given as goal

abbrev pub invariant-loop-byte : goal.invariant-loop-byte
invariant-loop-byte l =
    (text : Text) → Appended l.out text (filled l.facts (drop l.byte-index l.sentence)) → Appended l.initial.out text (filled l.facts l.sentence)
