-- The verdicts of a recording by a judgement: what is answered, and what is left in a lent table.
-- Quotes are from docs/FORMAT.md.
use Rattle.std.specs.Prelude.{ℕ, cond, List, ◌++◌, ltb, length, drop, Result, Ok, Err}
use Rattle.frame.specs.Limits.{variable_count}
use Rattle.frame.specs.declared.Refusal.TheVariants as refusal
use Rattle.guards.specs.Guards.{inferred_guards, guards_under}
use Rattle.guards.specs.Judgement.{Judgement}
use Rattle.reply.specs.Reply.{refused, Reply}
use Rattle.pass.specs.Pass.{Ended, full_sets, judgement}
use Rattle.frame.specs.declared.Refused.{Refused}

-- "A guard list is checked before the recording."
abbrev pub on_guards : Result ℕ Refused → Reply → Reply
on_guards (Ok n) r = r
on_guards (Err x) r = Err x

-- The reply of a judgement: the rules of figures 8 and 11, with the guards that the judgement gives.
unfoldable pub verdict_under : Judgement → List ℕ → List ℕ → Reply
verdict_under j list ws = on_guards (guards_under j list).reply (judgement (guards_under j list).table full_sets ws).reply

-- The judgement with inferred guards, whole.
abbrev pub inferred_end : List ℕ → Ended
inferred_end ws = judgement inferred_guards full_sets ws

-- "16: fewer than 1,024 entries; 1024; table of candidate sets, after the recording", before any verdict. n is the table's length.
abbrev pub with_table : Reply → ℕ → Reply
with_table (Err x) n = Err x
with_table (Ok v) n = cond (ltb n variable_count) (refused refusal.SetTable variable_count) (Ok v)

unfoldable pub inferred_reply : List ℕ → ℕ → Reply
inferred_reply ws n = with_table (inferred_end ws).reply n

-- "The inferred verdict leaves each variable's set in the first 1,024 entries of the lent table .. Further entries are untouched." A
-- refusal changes no lent buffer.
abbrev pub table_after : Reply → List ℕ → List ℕ → List ℕ
table_after (Err x) sets table = table
table_after (Ok v) sets table = sets ++ drop variable_count table

unfoldable pub inferred_sets : List ℕ → List ℕ → List ℕ
inferred_sets ws table = table_after (inferred_reply ws (length table)) (inferred_end ws).judging.sets table
