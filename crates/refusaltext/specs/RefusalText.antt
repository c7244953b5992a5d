-- Refusals in words. What the slots of a sentence stand for is said by `piece` (crate sentence).
use Rattle.std.specs.Prelude.{ℕ, Bool, true, false, List}
use Prim.Native.String.{String}
use Rattle.frame.specs.declared.Refusal.{Refusal}
use Rattle.frame.specs.declared.Refusal.TheVariants as refusal
use Rattle.frame.specs.declared.Refused.{Refused}
use Rattle.output.specs.Output.{bytes}
use Rattle.sentence.specs.Sentence.{known, filled}
use Rattle.phrase.specs.declared.Source.{Source}
use Rattle.facts.specs.Facts.{place_facts}

-- The sentence of a refusal, and whether its frame is known: some have two, "refusals that name a byte, an action or a thread where the
-- recording is at hand" (docs/TOOL.md). Refusal 1 of a text that is at hand has its sentence in crate linefault.
abbrev pub refusal_sentence : Refusal → Bool → String
refusal_sentence refusal.Line k =
    "refused: number 1, @ of % is not eight digits 0-9 A-F and one LF; write it so, without blanks, lower case or CR, and end the last line.\n"
refusal_sentence refusal.TooLong k = "refused: number 2, % has more than # lines; cut it down to #.\n"
refusal_sentence refusal.WordBuffer k = "refused: number 3, the word buffer has fewer than # words; lend one for each line.\n"
refusal_sentence refusal.Operation k = "refused: number 4, @ of % has an operation other than 01 to 06; mend its digits 1 and 2.\n"
refusal_sentence refusal.Thread k = "refused: number 5, @ of % has a thread above 1F; mend its digits 3 and 4.\n"
refusal_sentence refusal.Object k =
    "refused: number 6, @ of % has an object out of range; locks go up to 003F, variables up to 03FF, and a begin or an end has 0000.\n"
refusal_sentence refusal.LockTaken true =
    "refused: number 7, @ of %, * by thread &, takes a lock that another thread holds; it has to be released before this line.\n"
refusal_sentence refusal.LockTaken false = "refused: number 7, @ of % takes a lock that another thread holds; it has to be released before this line.\n"
refusal_sentence refusal.LockNotHeld true =
    "refused: number 8, @ of %, * by thread &, lets go a lock that this thread does not hold; acquire it first or drop the line.\n"
refusal_sentence refusal.LockNotHeld false = "refused: number 8, @ of % lets go a lock that its thread does not hold; acquire it first or drop the line.\n"
refusal_sentence refusal.TooDeep true = "refused: number 9, @ of % is a begin inside 15 open blocks of thread &; nest at most 15.\n"
refusal_sentence refusal.TooDeep false = "refused: number 9, @ of % is a begin inside 15 open blocks of its thread; nest at most 15.\n"
refusal_sentence refusal.NoOpenBlock true = "refused: number 10, @ of % is an end where thread & has no open block; add its begin or drop the line.\n"
refusal_sentence refusal.NoOpenBlock false = "refused: number 10, @ of % is an end where its thread has no open block; add its begin or drop the line.\n"
refusal_sentence refusal.GuardRange k = "refused: number 11, @ of % names a variable above 03FF or a lock above 003F; mend the number.\n"
refusal_sentence refusal.GuardRepeated k = "refused: number 12, @ of % names a variable that an earlier line names; keep one of the two.\n"
refusal_sentence refusal.Irreducible k =
    "refused: number 13, % is not reducible, so there is no serial order; @ goes wrong, and explain says why.\n"
refusal_sentence refusal.OpenBlock k = "refused: number 14, the block that begins at @ of % is open at the end; add its end.\n"
refusal_sentence refusal.OutputBuffer k = "refused: number 15, the output has fewer than # words; lend one for each frame.\n"
refusal_sentence refusal.SetTable k = "refused: number 16, the table of candidate sets has fewer than # entries; lend #.\n"
refusal_sentence refusal.LineBuffer k = "refused: number 17, the line buffer has fewer than # bytes; lend #.\n"
refusal_sentence refusal.VerdictLine k =
    "refused: number 18, this is no verdict line: that has 32 digits 0-9 A-F, the first two 00 to 04 or 81 to FF, and one LF; hand it on as it was written.\n"
refusal_sentence refusal.TextBuffer k = "refused: number 19, the text has fewer than # bytes from the given place on; lend them.\n"
refusal_sentence refusal.TooOften true =
    "refused: number 20, @ of %, * by thread &, takes a lock that this thread holds 15 times already; hold it at most 15 times.\n"
refusal_sentence refusal.TooOften false = "refused: number 20, @ of % takes a lock that its thread holds 15 times already; hold it at most 15 times.\n"
refusal_sentence refusal.MovesBuffer k = "refused: number 21, the list of displacements has fewer than # numbers; lend one for each frame.\n"

-- "Each refusal is one sentence that says what to mend." (docs/TOOL.md)
abbrev pub refusal_text : Source → List ℕ → Refused → List ℕ
refusal_text s ws r = filled (place_facts s ws r.place) (bytes (refusal_sentence r.reason (known (place_facts s ws r.place).frame)))
