-- The numbers that answer: the refusal's number in the high 32 bits and its place in the low 32 (`packed`), or what is answered.
use Rattle.std.specs.Prelude.{ℕ, ◌+◌, ◌*◌, Result, Ok, Err, true, false, Bool}
use Rattle.frame.specs.declared.Refused.{Refused}
use Rattle.reply.specs.Reply.{packed, answered}
use Rattle.equal.specs.declared.Side.{Side}
use Rattle.equal.specs.declared.Side.TheVariants as side
use Rattle.equal.specs.declared.RefusedSide.{RefusedSide}

-- A refusal of the right side has its number plus 256 in the high 32 bits.
abbrev pub packed_side : Side → Refused → ℕ
packed_side side.Left r = packed r
packed_side side.Right r = packed r + 256 * 4294967296

-- 1 equal, 0 not.
abbrev pub equal_answer : Result Bool RefusedSide → ℕ
equal_answer (Ok true) = 1
equal_answer (Ok false) = 0
equal_answer (Err x) = packed_side x.side x.refused

abbrev pub order_answer : Result ℕ Refused → ℕ
order_answer = answered
