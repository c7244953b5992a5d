-- The claim of displacements.
use Prim.Native.Nat.{ℕ, ◌+◌, ◌<◌, ◌≤◌}
use mathlib.Core.Path.{◌≡◌, sym, ap, ◌∙◌}
use mathlib.Core.Bool.{true}
use mathlib.Core.List.{List, map}
use native.Mathlib.Omega.{arith}
use lib.IntN.{ℤ, pos, nat_abs, ◌+ℤ◌, +ℤ_comm, -ℤ-+ℤ_cancel}
use lib.ListN.{length, get_or}
use Rattle.frame.specs.declared.Refusal.TheVariants as refusal
use Rattle.guards.specs.Guards.{guards_under}
use Rattle.rules.specs.Choice.{Reducible}
use Rattle.exchange.specs.Exchange.{Exchanges}
use Rattle.serial.specs.Order.{commits, in_serial_order, Closed}
use Rattle.orderlaws.proofs.Order.{map_units, order_permutes, commits_length, commit_place_lem}
use Rattle.order.proofs.Laws.{accepted_under}
use Rattle.displacement.specs.Displacement.{places, index_of, displacement, ordered_places, displacements}
use Rattle.displacement.proofs.Places.{places_length, places_alike, places_made, entry_of, shift_of, shift_below, shift_inner, total_zero}
use Rattle.displacement.proofs.Sorted.{after_first, before_last}
use Rattle.moves.specs.Moves.{moves_out_under}
use Rattle.demand.specs.Moves.{Displaced, MovesTerm}
use Rattle.demand.proofs.Demand.{asked_under}

module _ (table ws : List ℕ) (r : Reducible table ws) (c : Closed ws) where
  ordered : Exchanges (λ x y. true) (places ws) (ordered_places table ws)
  ordered = order_permutes table ws (places ws) (places_length 0 ws) r c

  -- the order of any elements, by the places
  by_places : (xs : List ℕ) → length xs ≡ length ws → in_serial_order table ws xs ≡ map (λ p. get_or xs p 0) (ordered_places table ws)
  by_places xs e =
      ap (λ (l : List ℕ). in_serial_order table ws l) (sym (places_made xs ws e)) ∙ sym (map_units (λ p. get_or xs p 0) (length ws) 0 (commits table ws) (places ws))

  -- neither end comes to the other
  far : 1 < length ws → (p : ℕ) → p < length ws → nat_abs (get_or (displacements table ws) p (pos 0)) + 2 ≤ length ws
  unfolding displacements
  far two p h =
      let own = rw (← k) at (commit_place_lem table ws r c) in
      let first = rw (k, alike) at (after_first ks own (rw k two)) in
      let q = shift_inner ws (ordered_places table ws) ordered first.0 first.1 first.2 (λ m e. omega (arith, (rw (k, alike) at (before_last ks own (rw k two) m (omega (arith, k)))).1)) p h in
      omega (arith, q)
    where
      ks : List ℕ
      ks = commits table ws

      k : length ks ≡ length ws
      k = commits_length table ws r

      alike : places ks ≡ places ws
      alike = places_alike 0 ks ws k

  displaced : Displaced table ws
  unfolding displacements
  displaced = record {
    read_through = λ xs e p h. (
      index_of p (ordered_places table ws),
      sym (ap (λ (z : ℤ). pos p +ℤ z) (shift_of ws (ordered_places table ws) ordered p h)
          ∙ (+ℤ_comm (pos p) (displacement (index_of p (ordered_places table ws)) p) ∙ -ℤ-+ℤ_cancel (pos (index_of p (ordered_places table ws))) (pos p))),
      rw (by_places xs e) (entry_of ws (ordered_places table ws) ordered xs p h),
    );
    total_zero = total_zero ws (ordered_places table ws) ordered;
    below = shift_below ws (ordered_places table ws) ordered;
    furthest = far;
  }

pub moves_term : MovesTerm
unfolding moves_out_under
moves_term = (
  λ j list ws out. asked_under refusal.MovesBuffer j list ws (displacements (guards_under j list).table ws) out,
  λ j list ws room n e. let a = accepted_under refusal.MovesBuffer j list ws room n e in
      displaced (guards_under j list).table ws a.reducibly a.closed,
)
