-- What the calls for displacements answer, and what they leave in the lent list.
-- Quotes are from docs/FORMAT.md.
use Rattle.std.specs.Prelude.{ℕ, List, ℤ, length, Result}
use Rattle.frame.specs.declared.Refusal.TheVariants as refusal
use Rattle.guards.specs.Guards.{guards_under}
use Rattle.guards.specs.Judgement.{Judgement}
use Rattle.order.specs.Order.{out_after, reply_under}
use Rattle.displacement.specs.Displacement.{displacements}
use Rattle.frame.specs.declared.Refused.{Refused}

-- The reply and the list under a judgement: "They can be asked for with declared or inferred guards, and are refused as the serial order is,
-- but for 21 in the place of 15."
abbrev pub moves_under : Judgement → List ℕ → List ℕ → ℕ → Result ℕ Refused
moves_under j list ws room = reply_under refusal.MovesBuffer j list ws room

-- "entries past the recording's length are untouched"; a refusal changes no lent buffer.
unfoldable pub moves_out_under : Judgement → List ℕ → List ℕ → List ℤ → List ℤ
moves_out_under j list ws out = out_after (moves_under j list ws (length out)) (displacements (guards_under j list).table ws) out
