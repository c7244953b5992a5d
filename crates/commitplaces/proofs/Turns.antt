-- The walk, turn by turn.
use Rattle.std.specs.Prelude.{Ok, Err, Option}
use Prim.Native.Nat.{ℕ, ◌+◌, ◌<◌, ◌≤◌}
use mathlib.Core.Path.{◌≡◌, refl, sym}
use mathlib.Core.List.{List}
use native.Mathlib.Numerals.{add-one}
use lib.ListN.{length, get_or, drop, drop_of_length-le}
use lib.Seq.{drop-cons}
use Rattle.frame.specs.Frame.{decode_word}
use Rattle.frame.specs.declared.Frame.{Frame}
use Rattle.frame.specs.declared.Refusal.{Refusal}
use Rattle.commit.specs.Commit.{start_units, visited, unit_start}
use Rattle.commit.specs.declared.Units.{Units}
use Rattle.walk.proofs.Walks.{Stands, stands_first, stands_next}
use Rattle.commitplaces.specs.CommitPlaces.{noted, commits_from, commits_of}

pub record Inv (words guards t₀ t : List ℕ) (units : Units) (i : ℕ) : Type 0 where
  pub stands : Stands words units i
  pub written : commits_of guards words t₀ ≡ commits_from guards i units (drop i words) t

pub begins : (words guards t : List ℕ) → Inv words guards t t start_units 0
begins words guards t = record { stands = stands_first words; written = refl }

module _ {words guards t₀ t : List ℕ} {units : Units} {i : ℕ} (inv : Inv words guards t₀ t units i) where
  pub done : length words ≤ i → t ≡ commits_of guards words t₀
  unfolding commits_from
  done h = sym (rw (drop_of_length-le words {i = i} h) at inv.written)

  module _ (h : i < length words) where
    -- a word that is no frame
    pub stops : {r : Refusal} → decode_word (get_or words i 0) ≡ Err r → t ≡ commits_of guards words t₀
    unfolding commits_from
    stops e = sym (rw (drop-cons words i 0 h, e) at inv.written)

    pub next : {f : Frame} → decode_word (get_or words i 0) ≡ Ok f → {m : (Option ℕ)} → m ≡ unit_start guards i f units
        → {units' : Units} → units' ≡ visited guards i f units → {t' : List ℕ} → t' ≡ noted m i t → Inv words guards t₀ t' units' (i + 1)
    unfolding commits_from
    next {f} e {m} s v {t'} n = record {
      stands = stands_next guards units f inv.stands h v;
      written = rw (v, n, s, add-one i) (rw (drop-cons words i 0 h, e, add-one i) at inv.written);
    }
