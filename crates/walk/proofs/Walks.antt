-- The walk, turn by turn: where it stands, and what it has written there.
use Rattle.std.specs.Prelude.{Ok, Option, None}
use Prim.Native.Nat.{ℕ, ◌+◌, ◌-◌, ◌<◌, ◌≤◌}
use mathlib.Core.Path.{◌≡◌, refl, sym, ap, ◌∙◌, subst}
use mathlib.Core.List.{List, [], ◌∷◌, ◌++◌}
use native.Mathlib.Omega.{arith}
use native.Mathlib.Numerals.{add-one}
use lib.ListN.{length, get_or, set, drop, drop_of_length-le, length-append}
use lib.Seq.{drop-cons}
use Rattle.laws.proofs.Lists.{get_or_filled, set_bounded}
use Rattle.frame.specs.Limits.{thread_count, lock_count}
use Rattle.frame.specs.Frame.{decode_word}
use Rattle.frame.specs.declared.Action.{Action}
use Rattle.frame.specs.declared.Action.TheVariants as action
use Rattle.frame.specs.declared.Frame.{Frame}
use Rattle.soundness.specs.Soundness.{nest}
use Rattle.commit.specs.Commit.{start_units, counted, visited, unit_start}
use Rattle.commit.specs.declared.Units.{Units}
use Rattle.serial.specs.Walk.{unit_in, walk_from, walk_of}
use Rattle.displacement.specs.Displacement.{places}
use Rattle.walk.specs.Laid.{laid}

-- an action is one block deeper at most
nest_low : (d : ℕ) (a : Action) → nest d a ≤ d + 1
nest_low d (action.Acquire l) = omega arith
nest_low d (action.Release l) = omega arith
nest_low d (action.Read v) = omega arith
nest_low d (action.Write v) = omega arith
nest_low d action.Begin = omega arith
nest_low d action.End = omega arith

-- every entry is at most n
abbrev Low : ℕ → List ℕ → Type 0
Low n l = (m : ℕ) → get_or l m 0 ≤ n

-- a store of at most one more
low_set : (n : ℕ) (l : List ℕ) (k x : ℕ) → x ≤ n + 1 → Low n l → Low (n + 1) (set l k x)
low_set n l k x h b m = set_bounded l k x m (n + 1) h (omega (arith, b m))

low_counted : (n : ℕ) (a : Action) (l : List ℕ) → Low n l → Low (n + 1) (counted a l)
low_counted n (action.Acquire l) cs b = low_set n cs l.0 (get_or cs l.0 0 + 1) (omega (arith, b l.0)) b
low_counted n (action.Release l) cs b = low_set n cs l.0 (get_or cs l.0 0 - 1) (omega (arith, b l.0)) b
low_counted n (action.Read v) cs b = λ m. omega (arith, b m)
low_counted n (action.Write v) cs b = λ m. omega (arith, b m)
low_counted n action.Begin cs b = λ m. omega (arith, b m)
low_counted n action.End cs b = λ m. omega (arith, b m)

-- Where a walk stands before place i: its units have room for one more.
pub record Stands (words : List ℕ) (x : Units) (i : ℕ) : Type 0 where
  pub within : i ≤ length words
  pub counts_low : Low i x.counts
  pub depths_low : Low i x.depths

pub stands_first : (words : List ℕ) → Stands words start_units 0
unfolding start_units
stands_first words = record {
  within = omega arith;
  counts_low = λ m. omega (arith, get_or_filled lock_count m 0);
  depths_low = λ m. omega (arith, get_or_filled thread_count m 0);
}

-- A walk over any element type, at the end and at the frame f of place i, which commits the unit that starts at m.
module _ {A : Type 0} (guards words : List ℕ) (xs : List A) (i : ℕ) where
  walk_over : (x : Units) → length words ≤ i → walk_from guards words xs i x (drop i words) ≡ []
  unfolding walk_from
  walk_over x h = rw (drop_of_length-le words h)

  module _ (h : i < length words) {f : Frame} (e : decode_word (get_or words i 0) ≡ Ok f) (x : Units) {m : (Option ℕ)} (s : m ≡ unit_start guards i f x) where
    walk_here : walk_from guards words xs i x (drop i words)
        ≡ unit_in m words xs f.thread ++ walk_from guards words xs (i + 1) (visited guards i f x) (drop (i + 1) words)
    unfolding walk_from
    walk_here = rw (drop-cons words i 0 h, e, add-one i, ← s)

pub stands_next : (guards : List ℕ) {words : List ℕ} (x : Units) {y : Units} {i : ℕ} (f : Frame) → Stands words x i → i < length words
    → y ≡ visited guards i f x → Stands words y (i + 1)
unfolding visited
stands_next guards {words} x {y} {i} f st h e = record {
  within = omega arith;
  counts_low = subst (λ (z : Units). Low (i + 1) z.counts) (sym e) (low_counted i f.action x.counts st.counts_low);
  depths_low = subst (λ (z : Units). Low (i + 1) z.depths) (sym e)
      (low_set i x.depths f.thread.0 (nest (get_or x.depths f.thread.0 0) f.action)
      (omega (arith, nest_low (get_or x.depths f.thread.0 0) f.action, st.depths_low f.thread.0)) st.depths_low);
}

-- What is put of places one after the other.
laid_append : {A : Type 0} (put : ℕ → ℕ → ℕ → List A → List A) (ws : List ℕ) (k : ℕ) (ps qs : List ℕ) (out : List A)
    → laid put ws k (ps ++ qs) out ≡ laid put ws (k + length ps) qs (laid put ws k ps out)
unfolding laid
laid_append put ws k [] qs out = let e : k ≡ k + 0 = omega arith in rw (← e)
laid_append put ws k (p ∷ ps) qs out =
    let e : k + 1 + length ps ≡ k + length (p ∷ ps) = omega arith in
    laid_append put ws (k + 1) ps qs (put k p (get_or ws p 0) out) ∙ rw e

pub record WalkInv {A : Type 0} (put : ℕ → ℕ → ℕ → List A → List A) (words guards : List ℕ) (out₀ out : List A) (units : Units) (at i : ℕ) : Type 0 where
  pub stands : Stands words units i
  pub place : length (walk_of guards words (places words)) ≡ at + length (walk_from guards words (places words) i units (drop i words))
  pub written : laid put words 0 (walk_of guards words (places words)) out₀ ≡ laid put words at (walk_from guards words (places words) i units (drop i words)) out

module _ {A : Type 0} {put : ℕ → ℕ → ℕ → List A → List A} {words guards : List ℕ} where
  pub walk_begins : (out : List A) → WalkInv put words guards out out start_units 0 0
  walk_begins out = record { stands = stands_first words; place = omega arith; written = refl }

  module _ {out₀ out : List A} {units : Units} {at i : ℕ} (inv : WalkInv put words guards out₀ out units at i) where
    pub walk_ends : length words ≤ i → out ≡ laid put words 0 (walk_of guards words (places words)) out₀
    unfolding laid
    walk_ends h = sym (rw (walk_over guards words (places words) i units h) at inv.written)

    module _ (h : i < length words) {f : Frame} (e : decode_word (get_or words i 0) ≡ Ok f) {m : (Option ℕ)} (s : m ≡ unit_start guards i f units) where
      abbrev unit : List ℕ
      unit = unit_in m words (places words) f.thread

      abbrev rest : List ℕ
      rest = walk_from guards words (places words) (i + 1) (visited guards i f units) (drop (i + 1) words)

      abbrev on_here : walk_from guards words (places words) i units (drop i words) ≡ unit ++ rest
      on_here = walk_here guards words (places words) i h e units s

      -- the unit's places are among those of the order
      pub unit_within : at + length unit ≤ length (walk_of guards words (places words))
      unit_within = omega (arith, inv.place, ap length on_here, length-append unit rest)

      pub walk_next : {units' : Units} → units' ≡ visited guards i f units → {n : ℕ} {out' : List A} → n ≡ at + length unit → out' ≡ laid put words at unit out → WalkInv put words guards out₀ out' units' n (i + 1)
      walk_next t {n} {out'} en eo = record {
        stands = stands_next guards units f inv.stands h t;
        place = rw t (omega (arith, en, inv.place, ap length on_here, length-append unit rest));
        written = rw (t, en, eo) (inv.written ∙ (ap (λ (l : List ℕ). laid put words at l out) on_here ∙ laid_append put words at unit rest out));
      }

    -- the frame commits no unit
    pub walk_skips : i < length words → {f : Frame} → decode_word (get_or words i 0) ≡ Ok f → None ≡ unit_start guards i f units
        → {units' : Units} → units' ≡ visited guards i f units → WalkInv put words guards out₀ out units' at (i + 1)
    unfolding laid
    walk_skips h e s t = walk_next h e s t (omega arith) refl
