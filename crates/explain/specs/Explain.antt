-- Answers in words, in the manner of 000, figure 2: where the block began, where and by what it committed, which frame goes wrong, and why.
-- What the slots of a sentence stand for is said by `piece` (crate sentence).
use Rattle.std.specs.Prelude.{ℕ, cond, List, eqb, Ok, Err}
use Prim.Native.String.{String}
use Rattle.reply.specs.Reply.{Verdict, Reply}
use Rattle.output.specs.Output.{bytes}
use Rattle.sentence.specs.Sentence.{filled}
use Rattle.phrase.specs.declared.Source.{Source}
use Rattle.facts.specs.Facts.{place_facts, violation_facts}
use Rattle.refusaltext.specs.RefusalText.{refusal_text}
use Rattle.violationtext.specs.ViolationText.{violation_text}

-- A recording of n frames.
abbrev pub reducible_sentence : ℕ → String
reducible_sentence n = cond (eqb n 0) "reducible: there is nothing in %; frames: #.\n" "reducible: no frame goes wrong; frames: #.\n"

abbrev pub verdict_text : Source → List ℕ → Verdict → ℕ → List ℕ
verdict_text s ws (Ok tt) n = filled (place_facts s ws n) (bytes (reducible_sentence n))
verdict_text s ws (Err v) n = violation_text (violation_facts s ws v) v

-- The answer to a recording of n frames, in words.
abbrev pub explanation : Source → List ℕ → Reply → ℕ → List ℕ
explanation s ws (Err r) n = refusal_text s ws r
explanation s ws (Ok v) n = verdict_text s ws v n
