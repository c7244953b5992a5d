-- What the walk leaves in one entry of the table. In this order: the starts of units that have not committed, as a frame leaves them; the unit
-- that a frame commits; an entry that no such unit has; the entry of one.
use Rattle.std.specs.Prelude.{Result, Ok, Err, Option, Some, None}
use Prim.Native.Nat.{ℕ, suc, ◌+◌, ◌≤◌, ◌<◌}
use mathlib.Core.Path.{◌≡◌, refl, sym, ap, ◌∙◌, subst}
use mathlib.Core.Bool.{Bool, true, false, cond, not, ◌&&◌, ◌||◌}
use mathlib.Core.List.{List, [], ◌∷◌}
use native.Mathlib.Omega.{arith}
use native.Mathlib.Numerals.{add-one}
use borrow.Author.Tests.{eqb-true, eqb-false, eq-eqb, ne_eqb, lt-ltb, le-ltb}
use lib.Dec.{eqb, ltb}
use lib.ListN.{length, get_or, length-set}
use lib.Seq.{get_or-set_same, get_or-set_other}
use Rattle.laws.proofs.Logic.{never, by_test}
use Rattle.laws.proofs.Lists.{get_or_set}
use Rattle.frame.specs.Frame.{decode_word, InRange}
use Rattle.frame.specs.declared.Frame.{Frame}
use Rattle.frame.proofs.Laws.{decoded_in_range}
use Rattle.soundness.specs.Soundness.{stepped, step_frame, nest}
use Rattle.soundness.specs.declared.State.{State}
use Rattle.soundness.specs.declared.Level.{Level}
use Rattle.instrumented.specs.Rules.{Judging}
use Rattle.exchange.specs.Exchange.{frames_of}
use Rattle.commit.specs.Commit.{start_in, visited, unit_start}
use Rattle.commit.specs.declared.Units.{Units}
use Rattle.reduction.proofs.Run as run
use Rattle.reduction.proofs.Run.{thread_of, Run, onto, commit_place, seen}
use Rattle.orderlaws.proofs.View.{view_of, OneFrame}
use Rattle.orderlaws.proofs.Recording.{Pass, end, on}
use Rattle.orderlaws.proofs.Walk.{Kept, kept_next, commits_are}
use Rattle.commitplaces.specs.CommitPlaces.{noted, commits_from}
use Rattle.frame.specs.declared.Refusal.{Refusal}

-- a thread that is neither outside nor after commit
unsettled : (a b : Bool) → (a || not b) ≡ false → (a ≡ false) × (b ≡ true)
unsettled true b e = never (cc)
unsettled false true e = (refl, refl)
unsettled false false e = never (cc)

-- a commit that is none after a frame was none before it
none_before : (z a : Bool) (i c : ℕ) → z ≡ false → eqb (cond z 0 (cond (a && eqb c 0) (suc i) c)) 0 ≡ true → eqb c 0 ≡ true
none_before z a i c e q = by_test (eqb c 0) (λ y. y) (λ y. go a (rw (e, y) at q))
  where
    go : (a : Bool) → eqb (cond (a && false) (suc i) c) 0 ≡ true → eqb c 0 ≡ true
    go true p = p
    go false p = p

-- Q holds of each thread whose unit has not committed and of the place where that unit starts.
abbrev pub Marks : (ℕ → ℕ → Type 0) → State → Judging → Units → Type 0
Marks Q s j x = (v : ℕ) → run.settled (view_of s j) v ≡ false → Q v (get_or x.starts v 0)

-- the mark of the unit that a frame commits
mark_commits : (b i : ℕ) (a z m : Bool) (c : ℕ) → not m ≡ eqb c 0
    → cond m None (cond (a || z) (Some b) None)
    ≡ cond (eqb c 0 && (z || not (eqb (cond z 0 (cond (a && eqb c 0) (suc i) c)) 0))) (Some b) None
mark_commits b i a z true c e = rw (← e)
mark_commits b i true true false c e = rw (← e)
mark_commits b i true false false c e = rw (← e, ne_eqb (suc i) 0 (λ k. omega arith))
mark_commits b i false true false c e = rw (← e)
mark_commits b i false false false c e = rw (← e)

-- an entry after a unit is noted: of another start; where none commits; of its own
noted_other : (c z : Bool) (b i p : ℕ) (t : List ℕ) → (c ≡ true → b ≡ p → ⊥) → get_or (noted (cond (c && z) (Some b) None) i t) p 0 ≡ get_or t p 0
noted_other true true b i p t a = get_or-set_other t b p (i + 1) 0 (λ e. a refl (sym e))
noted_other true false b i p t a = refl
noted_other false z b i p t a = refl

noted_none : (c z : Bool) (b i p : ℕ) (t : List ℕ) → z ≡ false → get_or (noted (cond (c && z) (Some b) None) i t) p 0 ≡ get_or t p 0
noted_none true z b i p t e = rw e
noted_none false z b i p t e = refl

noted_own : (c z : Bool) (b i p : ℕ) (t : List ℕ) → p < length t → c ≡ true → z ≡ true → b ≡ p → get_or (noted (cond (c && z) (Some b) None) i t) p 0 ≡ i + 1
noted_own c z b i p t l ec ez eb = rw (ec, ez, eb) (get_or-set_same t p (i + 1) 0 l)

-- What an entry is to be: one more than the unit's commit c where that is in the recording of length m, and else what it was.
abbrev pub entry : ℕ → ℕ → ℕ → ℕ
entry m c old = cond (ltb c m) (c + 1) old

pub noted_long : (m : Option ℕ) (i : ℕ) (t : List ℕ) → length (noted m i t) ≡ length t
noted_long (Some b) i t = length-set t b (i + 1)
noted_long None i t = refl

module _ (guards : List ℕ) {i : ℕ} {s n : State} {j k : Judging} {x : Units} {f : Frame} {l : Level} (r : InRange f)
    (g : step_frame f s ≡ stepped (Ok l) n) (o : OneFrame guards i f s j n k) (h : Kept s j x) where
  -- where the unit of the frame starts
  abbrev pub from : ℕ
  from = start_in (get_or s.depths (thread_of f) 0) i (get_or x.starts (thread_of f) 0)

  -- What holds of the starts, and of this place where the frame starts a unit: it holds of the start of the frame's unit, and after the frame.
  pub marks_here : (Q : ℕ → ℕ → Type 0) → Marks Q s j x → (get_or s.depths (thread_of f) 0 ≡ 0 → Q (thread_of f) i) → eqb ((view_of s j).committed (thread_of f)) 0 ≡ true
      → Q (thread_of f) from
  marks_here Q m a c = by_test (eqb (get_or s.depths (thread_of f) 0) 0)
      (λ z. rw z (a (eqb-true _ _ z)))
      (λ z. let e : run.settled (view_of s j) (thread_of f) ≡ false = rw z (rw z at (ap not c)) in rw z (m (thread_of f) e))

  -- a thread that another thread's frame leaves as it was, and the frame's own
  other_settled : (v : ℕ) → eqb v (thread_of f) ≡ false → run.settled (onto guards (view_of s j) i f) v ≡ run.settled (view_of s j) v
  other_settled v q = rw q

  own_settled : run.settled (onto guards (view_of s j) i f) (thread_of f) ≡ false → eqb ((view_of s j).committed (thread_of f)) 0 ≡ true
  own_settled e =
      let q = unsettled (eqb (nest (get_or s.depths (thread_of f) 0) f.action) 0)
      (eqb (run.commit_after (nest (get_or s.depths (thread_of f) 0) f.action) ((view_of s j).committed (thread_of f)) i (seen guards (view_of s j) f)) 0)
      (rw (eq-eqb (thread_of f) (thread_of f) refl) at e) in
      none_before (eqb (nest (get_or s.depths (thread_of f) 0) f.action) 0) (run.committing (seen guards (view_of s j) f)) i ((view_of s j).committed (thread_of f)) q.0 q.1

  -- thread by thread after the frame
  pub settled_next : (v : ℕ) → run.settled (view_of n k) v ≡ run.settled (onto guards (view_of s j) i f) v
  settled_next v = ap (λ (y : Run). run.settled y v) o.run

  pub starts_next : (v : ℕ) → get_or (visited guards i f x).starts v 0 ≡ cond (eqb v (thread_of f)) from (get_or x.starts v 0)
  unfolding visited
  starts_next v = get_or_set x.starts (thread_of f) _ v (omega (arith, h.starts_long, r.thread)) ∙ rw h.depths_are

  pub marks_next : (Q : ℕ → ℕ → Type 0) → Marks Q s j x → (get_or s.depths (thread_of f) 0 ≡ 0 → Q (thread_of f) i) → Marks Q n k (visited guards i f x)
  marks_next Q m a v e = by_test (eqb v (thread_of f))
      (λ q. subst (λ (y : ℕ). Q v y) (sym (starts_next v ∙ rw q))
      (subst (λ (y : ℕ). Q y from) (sym (eqb-true v (thread_of f) q))
      (marks_here Q m a (own_settled (ap (λ (y : ℕ). run.settled (onto guards (view_of s j) i f) y) (sym (eqb-true v (thread_of f) q)) ∙ (sym (settled_next v) ∙ e))))))
      (λ q. subst (λ (y : ℕ). Q v y) (sym (starts_next v ∙ rw q)) (m v (sym (other_settled v q) ∙ (sym (settled_next v) ∙ e))))

  -- the unit that the frame commits
  unit_start_lem : unit_start guards i f x ≡ cond (eqb ((view_of s j).committed (thread_of f)) 0 && run.settled (onto guards (view_of s j) i f) (thread_of f)) (Some from) None
  unfolding unit_start
  unit_start_lem =
      rw (commits_are guards f g h, h.depths_are, eq-eqb (thread_of f) (thread_of f) refl)
      (mark_commits from i (run.committing (seen guards (view_of s j) f)) (eqb (nest (get_or s.depths (thread_of f) 0) f.action) 0)
      (get_or x.committed (thread_of f) false) ((view_of s j).committed (thread_of f)) (h.committed_is (thread_of f)))

  -- an entry that is not of the frame's unit; one where the unit does not commit; the unit's where it does
  pub stays : (p : ℕ) (t : List ℕ) → (eqb ((view_of s j).committed (thread_of f)) 0 ≡ true → from ≡ p → ⊥)
      → get_or (noted (unit_start guards i f x) i t) p 0 ≡ get_or t p 0
  stays p t a = rw unit_start_lem (noted_other (eqb ((view_of s j).committed (thread_of f)) 0) (run.settled (onto guards (view_of s j) i f) (thread_of f)) from i p t a)

  open_stays : (p : ℕ) (t : List ℕ) → run.settled (onto guards (view_of s j) i f) (thread_of f) ≡ false
      → get_or (noted (unit_start guards i f x) i t) p 0 ≡ get_or t p 0
  open_stays p t e =
      rw unit_start_lem (noted_none (eqb ((view_of s j).committed (thread_of f)) 0) (run.settled (onto guards (view_of s j) i f) (thread_of f)) from i p t e)

  commits_here : (p : ℕ) (t : List ℕ) → p < length t → eqb ((view_of s j).committed (thread_of f)) 0 ≡ true
      → run.settled (onto guards (view_of s j) i f) (thread_of f) ≡ true → from ≡ p → get_or (noted (unit_start guards i f x) i t) p 0 ≡ i + 1
  commits_here p t l c e q =
      rw unit_start_lem (noted_own (eqb ((view_of s j).committed (thread_of f)) 0) (run.settled (onto guards (view_of s j) i f) (thread_of f)) from i p t l c e q)

-- The table keeps its length.
pub walk_long : (guards : List ℕ) (i : ℕ) (x : Units) (ws t : List ℕ) → length (commits_from guards i x ws t) ≡ length t
unfolding commits_from
walk_long guards i x [] t = refl
walk_long guards i x (w ∷ ws) t = go (decode_word w) refl (λ f. walk_long guards (i + 1) (visited guards i f x) ws (noted (unit_start guards i f x) i t))
  where
    go : (q : Result Frame Refusal) → decode_word w ≡ q
        → ((f : Frame) → length (commits_from guards (i + 1) (visited guards i f x) ws (noted (unit_start guards i f x) i t)) ≡ length (noted (unit_start guards i f x) i t))
        → length (commits_from guards i x (w ∷ ws) t) ≡ length t
    go (Ok f) e ih = rw e (ih f ∙ noted_long (unit_start guards i f x) i t)
    go (Err y) e ih = rw e

module _ (guards : List ℕ) (p : ℕ) where
  -- An entry that no unit has that is still to commit.
  pub quiet : {i : ℕ} {s : State} {j : Judging} {x : Units} {ws : List ℕ} (t : List ℕ) → Pass guards i s j ws → Kept s j x → p < i
      → Marks (λ v b. b ≡ p → ⊥) s j x → get_or (commits_from guards i x ws t) p 0 ≡ get_or t p 0
  unfolding commits_from
  quiet t end h l m = refl
  quiet {x = x} t (on {i = i} {s = s} {j = j} {w = w} {ws = ws} {f = f} {n = n} {k = k} d g a o rest) h l m =
      let r = decoded_in_range w f d in
      rw (d, add-one i)
      (quiet (noted (unit_start guards i f x) i t) rest (kept_next guards r g o h) (omega arith)
      (marks_next guards r g o h (λ v b. b ≡ p → ⊥) m (λ z e. omega arith))
      ∙ stays guards r g o h p t (marks_here guards r g o h (λ v b. b ≡ p → ⊥) m (λ z e. omega arith)))

  -- The frame's own unit, which starts at p: it commits with the frame, or is still to commit.
  module _ (whole : ℕ) {i : ℕ} {s n : State} {j k : Judging} {x : Units} {f : Frame} {l : Level} {ws : List ℕ} (t : List ℕ) (r : InRange f)
      (g : step_frame f s ≡ stepped (Ok l) n) (o : OneFrame guards i f s j n k) (h : Kept s j x) where
    pub owned : Pass guards (suc i) n k ws → p < length t → p ≤ i → i < whole → from guards r g o h ≡ p → eqb ((view_of s j).committed (thread_of f)) 0 ≡ true
        → Marks (λ v b. b ≡ p → v ≡ thread_of f) n k (visited guards i f x)
        → (run.settled (onto guards (view_of s j) i f) (thread_of f) ≡ false
        → get_or (commits_from guards (suc i) (visited guards i f x) ws (noted (unit_start guards i f x) i t)) p 0
        ≡ entry whole (commit_place guards (thread_of f) (onto guards (view_of s j) i f) (suc i) (frames_of ws)) (get_or (noted (unit_start guards i f x) i t) p 0))
        → get_or (commits_from guards (suc i) (visited guards i f x) ws (noted (unit_start guards i f x) i t)) p 0
        ≡ entry whole (cond (run.settled (onto guards (view_of s j) i f) (thread_of f)) i (commit_place guards (thread_of f) (onto guards (view_of s j) i f) (suc i) (frames_of ws))) (get_or t p 0)
    owned rest lt le lw e c m ih = by_test (run.settled (onto guards (view_of s j) i f) (thread_of f))
        (λ z. quiet (noted (unit_start guards i f x) i t) rest (kept_next guards r g o h) (omega arith) (gone z)
        ∙ (commits_here guards r g o h p t lt c z e ∙ sym (ap (λ (b : Bool). entry whole (cond b i C) (get_or t p 0)) z ∙ rw (lt-ltb i whole lw))))
        (λ z. ih z ∙ (ap (λ (y : ℕ). entry whole C y) (open_stays guards r g o h p t z) ∙ sym (ap (λ (b : Bool). entry whole (cond b i C) (get_or t p 0)) z)))
      where
        C : ℕ
        C = commit_place guards (thread_of f) (onto guards (view_of s j) i f) (suc i) (frames_of ws)

        -- after its commit no unit has the entry
        gone : run.settled (onto guards (view_of s j) i f) (thread_of f) ≡ true → Marks (λ v b. b ≡ p → ⊥) n k (visited guards i f x)
        gone z v q b =
            let y : false ≡ true = sym q ∙ (settled_next guards r g o h v ∙ (ap (λ (a : ℕ). run.settled (onto guards (view_of s j) i f) a) (m v q b) ∙ z)) in
            never (cc)

  -- The entry of a unit of thread u that is still to commit.
  pub pending : (whole u : ℕ) {i : ℕ} {s : State} {j : Judging} {x : Units} {ws : List ℕ} (t : List ℕ) → Pass guards i s j ws → Kept s j x → p < length t → p < i
      → whole ≡ i + length ws → Marks (λ v b. b ≡ p → v ≡ u) s j x → run.settled (view_of s j) u ≡ false → get_or x.starts u 0 ≡ p
      → get_or (commits_from guards i x ws t) p 0 ≡ entry whole (commit_place guards u (view_of s j) i (frames_of ws)) (get_or t p 0)
  unfolding commits_from
  pending whole u t (end {i = i}) h lt le w m e b = rw (le-ltb i whole (omega arith))
  pending whole u {x = x} t (on {i = i} {s = s} {j = j} {w = w} {ws = ws} {f = f} {n = n} {k = k} d g a o rest) h lt le ew m e b =
      let later : run.settled (onto guards (view_of s j) i f) u ≡ false → get_or (visited guards i f x).starts u 0 ≡ p → After (get_or t' p 0) =
      λ z y. pending whole u t' rest (kept_next guards r g o h) (rw (noted_long (unit_start guards i f x) i t) lt) (omega arith) (omega arith) m'
      (settled_next guards r g o h u ∙ z) y
      ∙ ap (λ (c : Run). entry whole (commit_place guards u c (suc i) (frames_of ws)) (get_or t' p 0)) o.run in
      rw (d, add-one i) (go (eqb (thread_of f) u) refl later)
    where
      r : InRange f
      r = decoded_in_range w f d

      t' : List ℕ
      t' = noted (unit_start guards i f x) i t

      m' : Marks (λ v b. b ≡ p → v ≡ u) n k (visited guards i f x)
      m' = marks_next guards r g o h (λ v b. b ≡ p → v ≡ u) m (λ z y. absurd (omega arith))

      left : ℕ
      left = get_or (commits_from guards (suc i) (visited guards i f x) ws t') p 0

      placed : ℕ → ℕ
      placed v = commit_place guards v (onto guards (view_of s j) i f) (suc i) (frames_of ws)

      -- the rest, where the unit is still to commit
      After : ℕ → Type 0
      After old = left ≡ entry whole (placed u) old

      go : (b : Bool) → eqb (thread_of f) u ≡ b
          → (run.settled (onto guards (view_of s j) i f) u ≡ false → get_or (visited guards i f x).starts u 0 ≡ p → After (get_or t' p 0))
          → left ≡ entry whole (cond (b && run.settled (onto guards (view_of s j) i f) u) i (placed u)) (get_or t p 0)
      go true q later =
          let same : thread_of f ≡ u = eqb-true (thread_of f) u q in
          let z = unsettled (eqb (get_or s.depths u 0) 0) (eqb ((view_of s j).committed u) 0) e in
          let here : from guards r g o h ≡ p = rw same (rw z.0 b) in
          subst (λ (v : ℕ). left ≡ entry whole (cond (run.settled (onto guards (view_of s j) i f) v) i (placed v)) (get_or t p 0)) same
          (owned whole t r g o h rest lt (omega arith) (omega arith) here (rw same z.1) (λ v y c. m' v y c ∙ sym same)
          (λ y. subst (λ (v : ℕ). left ≡ entry whole (placed v) (get_or t' p 0)) (sym same)
          (later (ap (λ (v : ℕ). run.settled (onto guards (view_of s j) i f) v) (sym same) ∙ y)
          (starts_next guards r g o h u ∙ rw (eq-eqb u (thread_of f) (sym same)) here))))
      go false q later =
          let ne : eqb u (thread_of f) ≡ false = ne_eqb u (thread_of f) (λ z. eqb-false _ _ q (sym z)) in
          later (other_settled guards r g o h u ne ∙ e) (starts_next guards r g o h u ∙ rw ne b)
          ∙ ap (λ (y : ℕ). entry whole (placed u) y)
          (stays guards r g o h p t (λ c y. eqb-false _ _ q (marks_here guards r g o h (λ v b. b ≡ p → v ≡ u) m (λ z c. absurd (omega arith)) c y)))
