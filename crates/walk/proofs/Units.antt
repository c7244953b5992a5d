-- A unit's frames put into a table, one by one.
use Rattle.std.specs.Prelude.{Ok}
use Prim.Native.Nat.{ℕ, zero, suc, ◌+◌, ◌/◌, ◌%◌, ◌<◌, ◌≤◌}
use mathlib.Core.Path.{◌≡◌, refl, sym, ◌∙◌, ap}
use mathlib.Core.List.{List, [], ◌∷◌}
use native.Mathlib.Omega.{arith}
use native.Mathlib.Numerals.{add-one}
use borrow.Author.Tests.{eq-eqb, ne_eqb}
use lib.ListN.{length, get_or, drop}
use Rattle.frame.specs.Limits.{most_frames}
use Rattle.frame.specs.declared.Thread.{Thread}
use Rattle.soundness.specs.Soundness.{check_reply}
use Rattle.soundness.proofs.Laws.{sound_fits}
use Rattle.serial.specs.Walk.{depth_by, unit_from, unit_of}
use Rattle.serial.proofs.Units.{by_low, other_turn, own_turn, unit_over}
use Rattle.displacement.specs.Displacement.{places_from, places}
use Rattle.walk.specs.Laid.{laid}

-- a recording's places from place k on
places_from_lem : (i k : ℕ) (ws : List ℕ) → k < length ws → drop k (places_from i ws) ≡ (i + k) ∷ drop (suc k) (places_from i ws)
unfolding places_from
places_from_lem i k [] h = absurd (omega arith)
places_from_lem i zero (w ∷ ws) h = let e : i ≡ i + 0 = omega arith in ap (λ (p : ℕ). p ∷ places_from (i + 1) ws) e
places_from_lem i (suc k) (w ∷ ws) h =
    let e : i + 1 + k ≡ i + suc k = omega arith in
    places_from_lem (i + 1) k ws (omega arith) ∙ ap (λ (p : ℕ). p ∷ drop (suc k) (places_from (i + 1) ws)) e

places_on : (ws : List ℕ) (i : ℕ) → i < length ws → drop i (places ws) ≡ i ∷ drop (i + 1) (places ws)
places_on ws i h = let e : 0 + i ≡ i = omega arith in places_from_lem 0 i ws h ∙ rw (e, add-one i)

-- The loop over the unit of thread t that starts at place b and stands from place k on in the order: what it still has is to be put.
pub record UnitInv {A : Type 0} (put : ℕ → ℕ → ℕ → List A → List A) (ws : List ℕ) (b : ℕ) (t : Thread) (out₀ out : List A) (k at d i : ℕ) : Type 0 where
  pub low : d ≤ i
  pub place : k + length (unit_of ws (places ws) b t) ≡ at + length (unit_from t d (drop i ws) (drop i (places ws)))
  pub written : laid put ws k (unit_of ws (places ws) b t) out₀ ≡ laid put ws at (unit_from t d (drop i ws) (drop i (places ws))) out

-- The unit is written: the place behind it, and the table.
pub record UnitDone {A : Type 0} (put : ℕ → ℕ → ℕ → List A → List A) (ws : List ℕ) (b : ℕ) (t : Thread) (out₀ out : List A) (k at : ℕ) : Type 0 where
  pub place : at ≡ k + length (unit_of ws (places ws) b t)
  pub written : out ≡ laid put ws k (unit_of ws (places ws) b t) out₀

module _ {A : Type 0} {put : ℕ → ℕ → ℕ → List A → List A} {ws : List ℕ} where
  pub unit_begins : (out : List A) (b : ℕ) (t : Thread) (k : ℕ) → UnitInv put ws b t out out k k 0 b
  unfolding unit_of
  unit_begins out b t k = record { low = omega arith; place = refl; written = refl }

  module _ {b : ℕ} {t : Thread} {out₀ out : List A} {k at d i : ℕ} (inv : UnitInv put ws b t out₀ out k at d i) where
    pub unit_ends : length ws ≤ i → UnitDone put ws b t out₀ out k at
    unfolding laid
    unit_ends h =
        let e = unit_over ws (places ws) t d i h in
        record { place = omega (arith, rw e at inv.place); written = sym (rw e at inv.written) }

    module _ (s : check_reply ws ≡ (Ok tt)) (h : i < length ws) where
      pub passes_over : (get_or ws i 0 / 65536 % 256 ≡ t.0 → ⊥) → UnitInv put ws b t out₀ out k at d (i + 1)
      passes_over ne =
          let e = other_turn ws (places ws) i s h (places_on ws i h) t d ne in
          record { low = omega (arith, inv.low); place = rw (← e) inv.place; written = rw (← e) inv.written }

      -- the depth is low
      pub shallow : d < most_frames
      shallow = omega (arith, sound_fits ws s, inv.low)

      module _ (own : get_or ws i 0 / 65536 % 256 ≡ t.0) where
        -- the place in the order is one of the unit's
        pub in_unit : at < k + length (unit_of ws (places ws) b t)
        in_unit = omega (arith, inv.place, ap length (own_turn ws (places ws) i s h (places_on ws i h) t d own))

        module _ {d' : ℕ} (q : d' ≡ depth_by (get_or ws i 0 / 16777216) d) {out' : List A} (v : out' ≡ put at i (get_or ws i 0) out) where
          goes_on : (d' ≡ 0 → ⊥) → unit_from t d (drop i ws) (drop i (places ws)) ≡ i ∷ unit_from t d' (drop (i + 1) ws) (drop (i + 1) (places ws))
          goes_on ne = own_turn ws (places ws) i s h (places_on ws i h) t d own ∙ rw (← q, ne_eqb d' 0 ne)

          goes_last : d' ≡ 0 → unit_from t d (drop i ws) (drop i (places ws)) ≡ i ∷ []
          goes_last e = own_turn ws (places ws) i s h (places_on ws i h) t d own ∙ rw (← q, eq-eqb d' 0 e)

          pub puts : (d' ≡ 0 → ⊥) → UnitInv put ws b t out₀ out' k (at + 1) d' (i + 1)
          unfolding laid
          puts ne = record {
            low = omega (arith, inv.low, by_low (get_or ws i 0 / 16777216) d);
            place = omega (arith, inv.place, ap length (goes_on ne));
            written = rw v (rw (goes_on ne) at inv.written);
          }

          pub puts_last : d' ≡ 0 → UnitDone put ws b t out₀ out' k (at + 1)
          unfolding laid
          puts_last e = record {
            place = omega (arith, inv.place, ap length (goes_last e));
            written = rw v (sym (rw (goes_last e) at inv.written));
          }
