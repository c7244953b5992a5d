-- Displacements: one claim over whole recordings, about the definitions that the calls' contracts cite. What `moves::moves` answers and leaves
-- in the lent list is `moves_under`, `moves_out_under`.
-- Quotes are from docs/FORMAT.md.
use Rattle.std.specs.Prelude.{ℕ, ◌+◌, ◌<◌, ◌≤◌, ◌≡◌, List, ℤ, pos, nat_abs, ◌+ℤ◌, length, get_or, Ok}
use Rattle.frame.specs.declared.Refusal.TheVariants as refusal
use Rattle.guards.specs.Guards.{guards_under}
use Rattle.guards.specs.Judgement.{Judgement}
use Rattle.serial.specs.Order.{in_serial_order}
use Rattle.displacement.specs.Displacement.{displacements, total}
use Rattle.moves.specs.Moves.{moves_under, moves_out_under}
use Rattle.demand.specs.Demand.{Asked}

-- What the displacements of a recording are.
pub record Displaced (table ws : List ℕ) : Type 0 where
  -- "The word at place p of the recording stands in the serial order at place p plus its displacement." Of the words, and of any other list
  -- that has an element for each frame: with the places themselves, no other frame stands there.
  pub read_through : (xs : List ℕ) → length xs ≡ length ws → (p : ℕ) → p < length ws
      → (q : ℕ) × (pos q ≡ pos p +ℤ get_or (displacements table ws) p (pos 0)) × (get_or (in_serial_order table ws xs) q 0 ≡ get_or xs p 0)
  -- "The displacements add up to 0 for every recording that is not refused"
  pub total_zero : total (displacements table ws) ≡ pos 0
  -- "each lies below the recording's length in both directions"
  pub below : (p : ℕ) → p < length ws → nat_abs (get_or (displacements table ws) p (pos 0)) < length ws
  -- "the furthest that a frame moves is that length less 2"
  pub furthest : 1 < length ws → (p : ℕ) → p < length ws → nat_abs (get_or (displacements table ws) p (pos 0)) + 2 ≤ length ws

-- What a request is answered, as for the serial order; and the displacements of every recording that is not refused.
abbrev pub MovesTerm : Type 0
MovesTerm =
    ((j : Judgement) (list ws : List ℕ) (out : List ℤ)
    → Asked refusal.MovesBuffer (guards_under j list).reply (guards_under j list).table ws (displacements (guards_under j list).table ws) out
    (moves_under j list ws (length out)) (moves_out_under j list ws out))
    × ((j : Judgement) (list ws : List ℕ) (room n : ℕ) → moves_under j list ws room ≡ Ok n → Displaced (guards_under j list).table ws)
