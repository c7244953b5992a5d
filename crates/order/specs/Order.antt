-- What the calls for the serial order answer, and what they leave in the lent output.
-- Quotes are from docs/FORMAT.md.
use Rattle.std.specs.Prelude.{ℕ, Bool, true, false, cond, List, ◌++◌, ltb, length, drop, Result, Ok, Err, Option, Some, None}
use Rattle.frame.specs.Refusal.{refused_at}
use Rattle.frame.specs.declared.Refusal.{Refusal}
use Rattle.frame.specs.declared.Refusal.TheVariants as refusal
use Rattle.guards.specs.Guards.{guards_under}
use Rattle.guards.specs.Judgement.{Judgement}
use Rattle.reply.specs.Reply.{Reply}
use Rattle.pass.specs.Pass.{full_sets, judgement, open_at_end}
use Rattle.serial.specs.Order.{serial_words}
use Rattle.displacement.specs.Displacement.{ordered_places}
use Rattle.walk.specs.Laid.{laid}
use Rattle.frame.specs.declared.Refused.{Refused}

abbrev pub reducible_reply : Reply → Bool
reducible_reply (Err x) = false
reducible_reply (Ok (Ok tt)) = true
reducible_reply (Ok (Err v)) = false

-- "13: not reducible; violating frame", after every refusal of the recording. (A reducible recording is asked of none.)
abbrev pub irreducible : Reply → Result ℕ Refused
irreducible (Err x) = Err x
irreducible (Ok (Ok tt)) = Ok 0
irreducible (Ok (Err v)) = Err (refused_at refusal.Irreducible v.frame)

-- "14: a block still open at the end; smallest place of an open outermost begin", then `short`, the refusal of a lent buffer that is shorter
-- than the recording, with its length. n is the recording's length, room the buffer's. "the reply is that length"
abbrev pub closed_reply : Refusal → Option ℕ → ℕ → ℕ → Result ℕ Refused
closed_reply short (Some b) n room = Err (refused_at refusal.OpenBlock b)
closed_reply short None n room = cond (ltb room n) (Err (refused_at short n)) (Ok n)

-- The reply under a table of guards: the recording's refusals, 13, 14, `short`, or the length.
unfoldable pub reply_by : Refusal → List ℕ → List ℕ → ℕ → Result ℕ Refused
reply_by short guards ws room =
    cond (reducible_reply (judgement guards full_sets ws).reply) (closed_reply short (open_at_end (judgement guards full_sets ws)) (length ws) room)
    (irreducible (judgement guards full_sets ws).reply)

-- "Each unit's frames are written from the place where the last unit stopped; words beyond the recording's length stay unchanged"; a refusal
-- changes no lent buffer. Over any element type: what is written has an element for each frame.
abbrev pub out_after : {A : Type 0} → Result ℕ Refused → List A → List A → List A
out_after (Err x) xs out = out
out_after (Ok n) xs out = xs ++ drop n out

-- "A guard list is checked before the recording."
abbrev pub on_list : Result ℕ Refused → Result ℕ Refused → Result ℕ Refused
on_list (Ok n) r = r
on_list (Err x) r = Err x

-- "The order can be asked for with declared or inferred guards": the reply and the output under a judgement.
unfoldable pub reply_under : Refusal → Judgement → List ℕ → List ℕ → ℕ → Result ℕ Refused
reply_under short j list ws room = on_list (guards_under j list).reply (reply_by short (guards_under j list).table ws room)

-- "15: output shorter than the recording; its length"
abbrev pub order_under : Judgement → List ℕ → List ℕ → ℕ → Result ℕ Refused
order_under j list ws room = reply_under refusal.OutputBuffer j list ws room

unfoldable pub out_under : Judgement → List ℕ → List ℕ → List ℕ → List ℕ
out_under j list ws out = out_after (order_under j list ws (length out)) (serial_words (guards_under j list).table ws) out

-- The same whatever a table holds of a frame, which `put` puts into it: the frames of the order put one after the other; a refusal changes
-- nothing.
abbrev pub table_after : {A : Type 0} → Result ℕ Refused → List A → List A → List A
table_after (Ok n) new old = new
table_after (Err x) new old = old

unfoldable pub written_under : {A : Type 0} → (ℕ → ℕ → ℕ → List A → List A) → Refusal → Judgement → List ℕ → List ℕ → List A → List A
written_under put short j list ws table =
    table_after (reply_under short j list ws (length table)) (laid put ws 0 (ordered_places (guards_under j list).table ws) table) table
