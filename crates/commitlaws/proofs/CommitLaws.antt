-- The table of commits has the commits of the serial order. In this order: the entry of the place that the walk is at; every entry; the claims.
use Rattle.std.specs.Prelude.{Ok, Result}
use Prim.Native.Nat.{ℕ, suc, ◌+◌, ◌-◌, ◌≤◌, ◌<◌}
use mathlib.Core.Path.{◌≡◌, refl, sym, ap, ◌∙◌, subst}
use mathlib.Core.Bool.{Bool, true, false}
use mathlib.Core.List.{List, ◌∷◌}
use native.Mathlib.Omega.{arith}
use native.Mathlib.Numerals.{add-one}
use borrow.Author.Tests.{eqb-true, eqb-false, eq-eqb, ltb-true, ltb-false, lt-ltb, le-ltb, le-leb}
use lib.Dec.{eqb, ltb}
use lib.ListN.{length, get_or, drop, length-drop, get_or-eq_default}
use Rattle.laws.proofs.Logic.{never, by_test}
use Rattle.laws.proofs.Lists.{rest_of, nothing_left}
use Rattle.frame.specs.Limits.{most_frames}
use Rattle.frame.specs.Frame.{decode_word, InRange}
use Rattle.frame.specs.declared.Frame.{Frame}
use Rattle.frame.proofs.Laws.{decoded_in_range}
use Rattle.guards.specs.Guards.{guards_under}
use Rattle.guards.specs.Judgement.{Judgement}
use Rattle.soundness.specs.Soundness.{stepped, step_frame, start}
use Rattle.soundness.specs.declared.State.{State}
use Rattle.soundness.specs.declared.Level.{Level}
use Rattle.instrumented.specs.Rules.{Judging}
use Rattle.exchange.specs.Exchange.{frames_of}
use Rattle.commit.specs.Commit.{start_units, visited, unit_start}
use Rattle.commit.specs.declared.Units.{Units}
use Rattle.pass.specs.Pass.{start_judging, full_sets}
use Rattle.pass.proofs.Judgement.{judgement_fits, judgement_sound}
use Rattle.serial.specs.Order.{commits, depth_after}
use Rattle.rules.specs.Choice.{Reducible}
use Rattle.reduction.proofs.Run as run
use Rattle.reduction.proofs.Run.{thread_of, Run, onto, commit_place, key_of, keyed}
use Rattle.reduction.proofs.Sort.{keys}
use Rattle.orderlaws.proofs.View.{view_of, OneFrame}
use Rattle.orderlaws.proofs.Recording.{Pass, end, on, frames_first, start_view, commits_keys}
use Rattle.orderlaws.proofs.Walk.{Kept, kept_next, kept_start}
use Rattle.orderlaws.proofs.Order.{reducible_pass}
use Rattle.orderlaws.proofs.Open.{Reached, reached_depth, reached_next}
use Rattle.commitplaces.specs.CommitPlaces.{noted, commits_from, commits_of, commit_places}
use Rattle.unitcommits.specs.UnitCommits.{commits_under, commits_out_under}
use Rattle.commitlaws.specs.CommitLaws.{Starts, Commits, CommitPlacesAreCommits, CallsLeaveCommits}
use Rattle.commitlaws.proofs.Entries.{Marks, entry, from, marks_here, marks_next, settled_next, starts_next, stays, noted_long, walk_long, quiet, owned, pending}
use Rattle.frame.specs.declared.Refusal.{Refusal}

-- The entry of place p, of a table t that became `left`.
abbrev Left : List ℕ → List ℕ → ℕ → List ℕ → List ℕ → Type 0
Left guards all p t left =
    (Starts all p → get_or left p 0 ≡ entry (length all) (get_or (commits guards all) p 0) (get_or t p 0))
    × ((Starts all p → ⊥) → get_or left p 0 ≡ get_or t p 0)

module _ (guards all : List ℕ) {i w : ℕ} {s n : State} {j k : Judging} {x : Units} {f : Frame} {l : Level} {ws : List ℕ} (t : List ℕ)
    (d : decode_word w ≡ Ok f) (g : step_frame f s ≡ stepped (Ok l) n) (o : OneFrame guards i f s j n k) (rest : Pass guards (suc i) n k ws)
    (e : drop i all ≡ w ∷ ws) (h : Kept s j x) (reached : Reached all i s) (below : Marks (λ v b. b < i) s j x) where
  r : InRange f
  r = decoded_in_range w f d

  -- The entry of the frame's own place.
  entry_here : get_or (commits guards all) i 0 ≡ key_of guards (view_of s j) i f (frames_of ws) → length all ≡ suc i + length ws → i < length t
      → Left guards all i t (commits_from guards (suc i) (visited guards i f x) ws (noted (unit_start guards i f x) i t))
  entry_here key long lt = go (eqb (get_or s.depths (thread_of f) 0) 0) refl
    where
      q : (i < length all) × (get_or all i 0 ≡ w) × (drop (suc i) all ≡ ws)
      q = rest_of all i w ws e

      is : decode_word (get_or all i 0) ≡ Ok f
      is = ap decode_word q.1 ∙ d

      t' : List ℕ
      t' = noted (unit_start guards i f x) i t

      only : Marks (λ v b. b ≡ i → v ≡ thread_of f) n k (visited guards i f x)
      only = marks_next guards r g o h (λ v b. b ≡ i → v ≡ thread_of f) (λ v y z. absurd (let a = below v y in omega arith)) (λ z y. refl)

      go : (b : Bool) → eqb (get_or s.depths (thread_of f) 0) 0 ≡ b → Left guards all i t (commits_from guards (suc i) (visited guards i f x) ws t')
      go true z =
          let from_here : from guards r g o h ≡ i = rw z in
          let none : eqb ((view_of s j).committed (thread_of f)) 0 ≡ true = rw z in (
            λ y. owned guards i (length all) t r g o h rest lt (omega arith) q.0 from_here none only
                (λ a. pending guards i (length all) (thread_of f) t' rest (kept_next guards r g o h) (rw (noted_long (unit_start guards i f x) i t) lt) (omega arith) long only
                (settled_next guards r g o h (thread_of f) ∙ a) (starts_next guards r g o h (thread_of f) ∙ rw (eq-eqb (thread_of f) (thread_of f) refl) from_here)
                ∙ ap (λ (c : Run). entry (length all) (commit_place guards (thread_of f) c (suc i) (frames_of ws)) (get_or t' i 0)) o.run)
                ∙ sym (ap (λ (c : ℕ). entry (length all) c (get_or t i 0)) (key ∙ rw (none, eq-eqb (thread_of f) (thread_of f) refl))),
            λ y. absurd (y (record { within = q.0; frame = f; is = is; outside = reached_depth all i s reached (thread_of f) ∙ eqb-true _ _ z })),
          )
      go false z =
          let inside : get_or s.depths (thread_of f) 0 ≡ 0 → ⊥ = eqb-false _ _ z in
          let elsewhere : Marks (λ v b. b ≡ i → ⊥) s j x = λ v y c. let a = below v y in omega arith in (
            λ y. let same : y.frame ≡ f = let c : ◌≡◌ {A = Result Frame Refusal} (Ok y.frame) (Ok f) = sym y.is ∙ is in cc in
                absurd (inside (sym (reached_depth all i s reached (thread_of f)) ∙ (ap (λ (c : Frame). depth_after all (thread_of c) i) (sym same) ∙ y.outside))),
            λ y. quiet guards i t' rest (kept_next guards r g o h) (omega arith) (marks_next guards r g o h (λ v b. b ≡ i → ⊥) elsewhere (λ c a. inside c))
                ∙ stays guards r g o h i t (marks_here guards r g o h (λ v b. b ≡ i → ⊥) elsewhere (λ c a. inside c)),
          )

-- Every entry from the walk's place on.
ahead : (guards all : List ℕ) (p : ℕ) {i : ℕ} {s : State} {j : Judging} {x : Units} {ws : List ℕ} (t : List ℕ) → Pass guards i s j ws → drop i all ≡ ws
    → Kept s j x → Reached all i s → drop i (commits guards all) ≡ keys (keyed guards (view_of s j) i (frames_of ws)) → Marks (λ v b. b < i) s j x
    → p < length t → i ≤ p → Left guards all p t (commits_from guards i x ws t)
unfolding commits_from
ahead guards all p t (end {i = i}) e h reached c below lt le =
    (λ y. absurd (let a = y.within in omega (arith, nothing_left all i e)), λ y. refl)
ahead guards all p {x = x} t (on {i = i} {s = s} {j = j} {w = w} {ws = ws} {f = f} {n = n} {k = k} d g a o rest) e h reached c below lt le =
    rw (d, add-one i)
    (by_test (ltb i p)
    (λ z. later z
    (ahead guards all p t' rest q.2 (kept_next guards range g o h) (reached_next all i w ws s n f e d g reached)
    (ks.2 ∙ ap (λ (y : Run). keys (keyed guards y (suc i) (frames_of ws))) (sym o.run)) below'
    (rw (noted_long (unit_start guards i f x) i t) lt) (omega (arith, ltb-true i p z))))
    (λ z. let same : i ≡ p = omega (arith, ltb-false i p z) in
    subst (λ (m : ℕ). Left guards all m t (commits_from guards (suc i) (visited guards i f x) ws t')) same
    (entry_here guards all t d g o rest e h reached below ks.1 long (omega arith))))
  where
    range : InRange f
    range = decoded_in_range w f d

    t' : List ℕ
    t' = noted (unit_start guards i f x) i t

    q : (i < length all) × (get_or all i 0 ≡ w) × (drop (suc i) all ≡ ws)
    q = rest_of all i w ws e

    long : length all ≡ suc i + length ws
    long = let y : length all - i ≡ suc (length ws) = sym (length-drop i all) ∙ ap length e in omega (arith, q.0)

    ks : (i < length (commits guards all)) × (get_or (commits guards all) i 0 ≡ key_of guards (view_of s j) i f (frames_of ws))
        × (drop (suc i) (commits guards all) ≡ keys (keyed guards (onto guards (view_of s j) i f) (suc i) (frames_of ws)))
    ks = rest_of (commits guards all) i (key_of guards (view_of s j) i f (frames_of ws)) (keys (keyed guards (onto guards (view_of s j) i f) (suc i) (frames_of ws)))
        (c ∙ ap (λ (l : List Frame). keys (keyed guards (view_of s j) i l)) (frames_first w f ws d))

    below_i : Marks (λ v b. b < suc i) s j x
    below_i v y = let b = below v y in omega arith

    below' : Marks (λ v b. b < suc i) n k (visited guards i f x)
    below' = marks_next guards range g o h (λ v b. b < suc i) below_i (λ y. omega arith)

    -- the frame before p leaves its entry
    later : ltb i p ≡ true → Left guards all p t' (commits_from guards (suc i) (visited guards i f x) ws t')
        → Left guards all p t (commits_from guards (suc i) (visited guards i f x) ws t')
    later z ih =
        let old : get_or t' p 0 ≡ get_or t p 0 = stays guards range g o h p t
        (λ y b. let m = marks_here guards range g o h (λ v b. b < suc i) below_i (λ y. omega arith) y in omega (arith, ltb-true i p z)) in
        (λ y. ih.0 y ∙ ap (λ (m : ℕ). entry (length all) (get_or (commits guards all) p 0) m) old, λ y. ih.1 y ∙ old)

module _ (guards ws t : List ℕ) (red : Reducible guards ws) where
  -- a reducible recording is not too long
  not_too_long : commit_places guards ws t ≡ commits_of guards ws t
  not_too_long = rw (le-leb (length ws) most_frames (judgement_fits guards full_sets ws (Ok tt) red))

  keeps_length : length (commit_places guards ws t) ≡ length t
  keeps_length = ap length not_too_long ∙ walk_long guards 0 start_units ws t

  -- at the start every thread is outside
  none_marked : Marks (λ v b. b < 0) start (start_judging full_sets) start_units
  none_marked v y = let z : false ≡ true = sym y ∙ ap (λ (x : Run). run.settled x v) start_view in never (cc)

  in_table : (p : ℕ) → p < length t → Left guards ws p t (commit_places guards ws t)
  in_table p lt = subst (λ (l : List ℕ). Left guards ws p t l) (sym not_too_long)
      (ahead guards ws p t (reducible_pass guards ws red) refl (kept_start (start_judging full_sets)) (λ l. refl)
      (commits_keys guards (reducible_pass guards ws red) ∙ ap (λ (x : Run). keys (keyed guards x 0 (frames_of ws))) (sym start_view))
      none_marked lt (omega arith))

  -- beyond the table nothing is read, before or after
  beyond : (p : ℕ) → length t ≤ p → get_or (commit_places guards ws t) p 0 ≡ get_or t p 0
  beyond p le = get_or-eq_default (commit_places guards ws t) 0 (omega (arith, keeps_length)) ∙ sym (get_or-eq_default t 0 le)

  commits_noted : (p : ℕ) → p < length t → Starts ws p → get_or (commits guards ws) p 0 < length ws
      → get_or (commit_places guards ws t) p 0 ≡ get_or (commits guards ws) p 0 + 1
  commits_noted p lt y c = (in_table p lt).0 y ∙ rw (lt-ltb (get_or (commits guards ws) p 0) (length ws) c)

  open_kept : (p : ℕ) → Starts ws p → length ws ≤ get_or (commits guards ws) p 0 → get_or (commit_places guards ws t) p 0 ≡ get_or t p 0
  open_kept p y c = by_test (ltb p (length t))
      (λ z. (in_table p (ltb-true p (length t) z)).0 y ∙ rw (le-ltb (get_or (commits guards ws) p 0) (length ws) c))
      (λ z. beyond p (ltb-false p (length t) z))

  others_kept : (p : ℕ) → (Starts ws p → ⊥) → get_or (commit_places guards ws t) p 0 ≡ get_or t p 0
  others_kept p y = by_test (ltb p (length t)) (λ z. (in_table p (ltb-true p (length t) z)).1 y) (λ z. beyond p (ltb-false p (length t) z))

pub commit_places_are_commits : CommitPlacesAreCommits
commit_places_are_commits guards ws t red = record {
  as_long = keeps_length guards ws t red;
  committed = commits_noted guards ws t red;
  uncommitted = open_kept guards ws t red;
  others = others_kept guards ws t red;
}

-- a list that is accepted, and a recording that is sound: the reply, and what is left
module _ (j : Judgement) (list ws t : List ℕ) (n : ℕ) (read : (guards_under j list).reply ≡ Ok n) (red : Reducible (guards_under j list).table ws) where
  replies : commits_under j list ws ≡ Ok (length ws)
  unfolding commits_under
  replies = rw (read, judgement_sound (guards_under j list).table full_sets ws (Ok tt) red)

  leaves : commits_out_under j list ws t ≡ commit_places (guards_under j list).table ws t
  unfolding commits_out_under
  leaves = rw (read, judgement_sound (guards_under j list).table full_sets ws (Ok tt) red)

pub calls_leave_commits : CallsLeaveCommits
calls_leave_commits j list ws t n read red = record {
  reply = replies j list ws t n read red;
  table = subst (λ (l : List ℕ). Commits (guards_under j list).table ws t l) (sym (leaves j list ws t n read red))
      (commit_places_are_commits (guards_under j list).table ws t red);
}
