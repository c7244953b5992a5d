-- A violation in words, in the manner of 000, figure 2: where the block began, where and by what it committed, which frame goes wrong, why,
-- and what to do. What the slots of a sentence stand for is said by `piece` (crate sentence).
-- Quotes are from docs/FORMAT.md.
use Rattle.std.specs.Prelude.{ℕ, Bool, true, false, List, ◌++◌, Option, Some, None}
use Prim.Native.String.{String}
use Rattle.reply.specs.declared.Kind.{Kind}
use Rattle.reply.specs.declared.Kind.TheVariants as kind
use Rattle.reply.specs.declared.Violation.{Violation}
use Rattle.output.specs.Output.{bytes}
use Rattle.sentence.specs.Sentence.{known, filled}
use Rattle.sentence.specs.declared.Facts.{Facts}

-- What happened.
abbrev pub kind_sentence : Kind → String
kind_sentence kind.GuardNotHeld = "violation: kind 1, guard not held, by thread &.\n"
kind_sentence kind.UnprotectedAfterCommit = "violation: kind 2, unprotected access after commit, by thread &.\n"
kind_sentence kind.AcquireAfterCommit = "violation: kind 3, acquire after commit, by thread &.\n"
kind_sentence kind.SetEmptied = "violation: kind 4, candidate set emptied, by thread &.\n"

-- The thread's block: "Begin is absent outside a block, commit is absent there and before commit." Here and below: whether the frame is
-- known. Of a kept line it is not: "a line has no actions and no variables" (docs/TOOL.md).
abbrev pub block_sentence : Option ℕ → Option ℕ → Bool → String
block_sentence None c k = "  The thread is in no block.\n"
block_sentence (Some b) None k = "  The block begins at < and has not committed.\n"
block_sentence (Some b) (Some c) true = "  The block begins at <.\n  It commits at >: ^.\n"
block_sentence (Some b) (Some c) false = "  The block begins at <.\n  It commits at >.\n"

abbrev pub frame_sentence : Bool → String
frame_sentence true = "  It goes wrong at @: *.\n"
frame_sentence false = "  It goes wrong at @.\n"

-- Why it goes wrong.
abbrev pub why_sentence : Kind → Bool → String
why_sentence kind.GuardNotHeld true =
    "  The guard of variable $ is lock ~, and thread & does not hold it: another thread may access the variable at the same time.\n"
why_sentence kind.GuardNotHeld false =
    "  The guard of the variable is lock ~, and thread & does not hold it: another thread may access the variable at the same time.\n"
why_sentence kind.UnprotectedAfterCommit true =
    "  Variable $ has no guard: another thread may change it, or what the block accessed before, between these lines.\n"
why_sentence kind.UnprotectedAfterCommit false =
    "  The variable has no guard: another thread may change it, or what the block accessed before, between these lines.\n"
why_sentence kind.AcquireAfterCommit true =
    "  A block takes no new lock after its commit: between these lines another thread may change what the block has read or written.\n"
why_sentence kind.AcquireAfterCommit false =
    "  A block takes no new lock after its commit, here lock ~: between these lines another thread may change what the block has read or written.\n"
why_sentence kind.SetEmptied true =
    "  Locks left that may guard variable $: ~. Thread & holds none of them, so no one lock guards every access of the variable.\n"
why_sentence kind.SetEmptied false =
    "  Locks left that may guard the variable: ~. Thread & holds none of them, so no one lock guards every access of the variable.\n"

-- What to do.
abbrev pub remedy_sentence : Kind → String
remedy_sentence kind.GuardNotHeld = "  To mend it, hold lock ~ at this line; in a block, take it before the commit.\n"
remedy_sentence kind.UnprotectedAfterCommit =
    "  To mend it, end the block before this line, or name a guard of the variable and hold it at each access.\n"
remedy_sentence kind.AcquireAfterCommit =
    "  To mend it, take the lock before the commit and hold each lock until the block ends, or end the block before this line.\n"
remedy_sentence kind.SetEmptied = "  To mend it, hold one lock at every access of the variable.\n"

-- The five parts, where the frame is known and where it is not.
abbrev pub violation_parts : Facts → Violation → Bool → List ℕ
violation_parts f v k =
    filled f (bytes (kind_sentence v.kind))
    ++ (filled f (bytes (block_sentence v.begin v.commit k))
    ++ (filled f (bytes (frame_sentence k)) ++ (filled f (bytes (why_sentence v.kind k)) ++ filled f (bytes (remedy_sentence v.kind)))))

abbrev pub violation_text : Facts → Violation → List ℕ
violation_text f v = violation_parts f v (known f.frame)
