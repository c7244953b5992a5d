-- A recording that the pass judges reducible, frame by frame: its run, its keys and its units are those of the run that the states stand for.
-- In this order: the pass; the run does not go wrong; commits and the serial order; depths; units; the end.
use Rattle.std.specs.Prelude.{Result, Ok}
use Prim.Native.Nat.{ℕ, zero, suc, pred, ◌+◌, ◌-◌}
use mathlib.Core.Path.{◌≡◌, refl, sym, ap, ◌∙◌, subst}
use mathlib.Core.Bool.{Bool, true, false, cond, not, ◌&&◌, ◌||◌}
use mathlib.Core.List.{List, [], ◌∷◌}
use native.Mathlib.Omega.{arith}
use native.Mathlib.Numerals.{add-one}
use lib.Dec.{eqb}
use lib.ListN.{length, get_or, length-map}
use Rattle.turn.specs.Turn.{judge_frame}
use Rattle.pass.specs.Pass.{Ended, judge_from, start_judging, full_sets}
use Rattle.frame.specs.Limits.{thread_count, lock_count}
use Rattle.laws.proofs.Lists.{get_or_filled}
use Rattle.frame.proofs.Laws.{decoded_in_range}
use Rattle.frame.specs.Frame.{decode_word}
use Rattle.frame.specs.declared.Thread.{Thread}
use Rattle.frame.specs.declared.Frame.{Frame}
use Rattle.frame.specs.declared.Action.{Action}
use Rattle.reply.specs.Reply.{reducible, Verdict}
use Rattle.soundness.specs.Soundness.{stepped, step_frame, check_from, start, nest}
use Rattle.soundness.specs.declared.State.{State}
use Rattle.soundness.specs.declared.Level.{Level}
use Rattle.instrumented.specs.Rules.{outside, before, after, Judging, judged, phase_of}
use Rattle.operation.specs.Operation.{operation_of}
use Rattle.rules.proofs.Choice.{goes, goes_on}
use Rattle.exchange.specs.Exchange.{frame_of, frames_of}
use Rattle.serial.specs.Order.{Point, commit_from, commit_in, commits_from, commits, unit_at, units_from, in_serial_order, settled}
use Rattle.serial.specs.Walk.{mine, other, unit_from, on_own}
use Rattle.reduction.proofs.Run as run
use Rattle.reduction.proofs.Run.{thread_of, Run, begin, sound, Keyed, onto, Good, commit_place, key_of, keyed_by, keyed, depth_at}
use Rattle.reduction.proofs.Sort.{frames, keys, bucket, buckets}
use Rattle.reduction.proofs.Serial.{order_by, frames_append, depth_next}
use Rattle.reduction.proofs.Units as units
use Rattle.orderlaws.proofs.View.{view_of, Long, Declared, OneFrame, run_equal, one_frame}
use Rattle.frame.specs.declared.Refusal.{Refusal}

abbrev pub point : State → Judging → Point
point s j = record { state = s; judging = j }

-- A pass that goes on to the end, with what each frame does.
pub data Pass (guards : List ℕ) : ℕ → State → Judging → List ℕ → Type 0 where
  end : {i : ℕ} {s : State} {j : Judging} → Pass guards i s j []
  on : {i : ℕ} {s : State} {j : Judging} {w : ℕ} {ws : List ℕ} {f : Frame} {x : Level} {n : State} {k : Judging} → decode_word w ≡ Ok f
      → step_frame f s ≡ stepped (Ok x) n → judge_frame guards i f s j ≡ judged (Ok tt) k
      → OneFrame guards i f s j n k → Pass guards (suc i) n k ws → Pass guards i s j (w ∷ ws)

pub pass_made : (guards : List ℕ) (i : ℕ) (s : State) (j : Judging) (ws : List ℕ) → (judge_from guards i s j ws).reply ≡ reducible → Long s j
    → Pass guards i s j ws
pass_made guards i s j [] e z = end
pass_made guards i s j (w ∷ ws) e z =
    let g = goes guards i s j w ws e in
    let p : step_frame g.frame s ≡ stepped (Ok g.level) (step_frame g.frame s).state =
    ap (λ (x : Result Level Refusal). stepped x (step_frame g.frame s).state) g.sound in
    let q : judge_frame guards i g.frame s j ≡ judged (Ok tt) (judge_frame guards i g.frame s j).judging =
    ap (λ (x : Verdict). judged x (judge_frame guards i g.frame s j).judging) g.right in
    let o = one_frame guards i g.frame s (step_frame g.frame s).state j (judge_frame guards i g.frame s j).judging g.level z (decoded_in_range w g.frame g.is) p q in
    let r : (judge_from guards (i + 1) (step_frame g.frame s).state (judge_frame guards i g.frame s j).judging ws).reply ≡ reducible =
    sym (ap (λ (x : Ended). x.reply) (goes_on guards i s j w ws g)) ∙ e in
    on g.is p q o (pass_made guards (suc i) (step_frame g.frame s).state (judge_frame guards i g.frame s j).judging ws
    (subst (λ (x : ℕ). (judge_from guards x (step_frame g.frame s).state (judge_frame guards i g.frame s j).judging ws).reply ≡ reducible) (add-one i) r) o.long)

-- the start
pub start_long : Long start (start_judging full_sets)
unfolding start start_judging
start_long = record { owners_long = refl; counts_long = refl; depths_long = refl; begins_long = refl; commits_long = refl }

pub start_view : view_of start (start_judging full_sets) ≡ begin
unfolding start start_judging
start_view = run_equal (λ m. get_or_filled lock_count m 0) (λ m. get_or_filled lock_count m 0) (λ t. get_or_filled thread_count t 0) (λ t. rw (get_or_filled thread_count t 0))

-- the phases
settled_view : (s : State) (j : Judging) (t : ℕ)
    → settled (phase_of (get_or s.depths t 0) (get_or j.begins t 0) (get_or j.commits t 0)) ≡ run.settled (view_of s j) t
settled_view s j t = go (eqb (get_or s.depths t 0) 0) (eqb (get_or j.commits t 0) 0) refl
  where
    go : (p q : Bool) → eqb (get_or j.commits t 0) 0 ≡ q
        → settled (cond p outside (cond q (before (get_or j.begins t 0)) (after (get_or j.begins t 0) (get_or j.commits t 0 - 1))))
        ≡ (p || not (eqb (cond p 0 (get_or j.commits t 0)) 0))
    go true q e = refl
    go false true e = rw e
    go false false e = rw e

pub less_one : (c : ℕ) → c - 1 ≡ pred c
less_one c = omega arith

commit_in_lem : (d b c x : ℕ) → commit_in (phase_of d b c) x ≡ cond (eqb (cond (eqb d 0) 0 c) 0) x (pred (cond (eqb d 0) 0 c))
commit_in_lem d b c x = go (eqb d 0) (eqb c 0) refl
  where
    go : (p q : Bool) → eqb c 0 ≡ q → commit_in (cond p outside (cond q (before b) (after b (c - 1)))) x ≡ cond (eqb (cond p 0 c) 0) x (pred (cond p 0 c))
    go true q e = refl
    go false true e = rw e
    go false false e = rw e (less_one c)

pub frames_first : (w : ℕ) (f : Frame) (ws : List ℕ) → decode_word w ≡ Ok f → frames_of (w ∷ ws) ≡ f ∷ frames_of ws
frames_first w f ws d = rw d

-- the elements of a commit
units_at : {A : Type 0} (guards : List ℕ) (c : ℕ) (s : Run) (n : ℕ) (l : List Frame) (xs : List A)
    → unit_at c (keys (keyed guards s n l)) xs ≡ frames (bucket c (keyed_by guards s n l xs))
unfolding unit_at
units_at guards c s n [] xs = refl
units_at guards c s n (f ∷ l) [] = refl
units_at {A} guards c s n (f ∷ l) (x ∷ xs) = go (eqb (key_of guards s n f l) c) (units_at guards c (onto guards s n f) (suc n) l xs)
  where
    rest : List (Keyed A)
    rest = bucket c (keyed_by guards (onto guards s n f) (suc n) l xs)

    more : List A
    more = unit_at c (keys (keyed guards (onto guards s n f) (suc n) l)) xs

    go : (b : Bool) → more ≡ frames rest → cond b (x ∷ more) more ≡ frames (cond b (record { key = key_of guards s n f l; frame = x } ∷ rest) rest)
    go true ih = ap (λ (y : List A). x ∷ y) ih
    go false ih = ih

units_from_lem : {A : Type 0} (guards : List ℕ) (m c : ℕ) (s : Run) (n : ℕ) (l : List Frame) (xs : List A)
    → units_from m c (keys (keyed guards s n l)) xs ≡ frames (buckets m c (keyed_by guards s n l xs))
unfolding units_from
units_from_lem guards zero c s n l xs = refl
units_from_lem guards (suc m) c s n l xs =
    rw (add-one c, frames_append (bucket c (keyed_by guards s n l xs)) (buckets m (suc c) (keyed_by guards s n l xs)))
    (rw (units_at guards c s n l xs, units_from_lem guards m (suc c) s n l xs))

module _ (guards : List ℕ) where
  -- The run of a reducible recording does not go wrong, where no guard is inferred.
  pub pass_good : ((x : Level) (a : Action) → Declared (operation_of guards x a)) → {i : ℕ} {s : State} {j : Judging} {ws : List ℕ} → Pass guards i s j ws
      → Good guards (view_of s j) i (frames_of ws)
  pass_good h end = tt
  pass_good h (on {i = i} {ws = ws} {f = f} d g a o rest) =
      rw d (o.passes, o.rightly (h _ f.action), subst (λ (x : Run). Good guards x (suc i) (frames_of ws)) o.run (pass_good h rest))

  -- the commit of a thread's unit
  place : (t : Thread) {i : ℕ} {s : State} {j : Judging} {ws : List ℕ} → Pass guards i s j ws
      → commit_from guards t i (point s j) ws ≡ commit_place guards t.0 (view_of s j) i (frames_of ws)
  unfolding commit_from
  place t end = refl
  place t (on {i = i} {ws = ws} {f = f} {n = n} {k = k} d g a o rest) =
      rw (d, a, g, add-one i)
      (ap (λ (b : Bool). cond (eqb (thread_of f) t.0 && b) i (commit_from guards t (suc i) (point n k) ws)) (settled_view n k t.0)
      ∙ (ap (λ (m : ℕ). cond (eqb (thread_of f) t.0 && run.settled (view_of n k) t.0) i m) (place t rest)
      ∙ ap (λ (x : Run). cond (eqb (thread_of f) t.0 && run.settled x t.0) i (commit_place guards t.0 x (suc i) (frames_of ws))) o.run))

  -- The commits are the keys.
  pass_keys : {i : ℕ} {s : State} {j : Judging} {ws : List ℕ} → Pass guards i s j ws
      → commits_from guards i (point s j) ws ≡ keys (keyed guards (view_of s j) i (frames_of ws))
  unfolding commits_from
  pass_keys end = refl
  pass_keys (on {i = i} {s = s} {j = j} {w = w} {ws = ws} {f = f} {n = n} {k = k} d g a o rest) =
      let begun : commits_from guards i (point s j) (w ∷ ws) ≡ commit_in (phase_of (get_or s.depths (thread_of f) 0) (get_or j.begins (thread_of f) 0) (get_or j.commits (thread_of f) 0))
      (commit_from guards f.thread i (point s j) (w ∷ ws)) ∷ commits_from guards (suc i) (point n k) ws = rw (d, a, g, add-one i) in
      begun
      ∙ (ap (λ (x : ℕ). x ∷ commits_from guards (suc i) (point n k) ws) first
      ∙ (ap (λ (x : List ℕ). key_of guards (view_of s j) i f (frames_of ws) ∷ x) (pass_keys rest)
      ∙ (ap (λ (x : Run). key_of guards (view_of s j) i f (frames_of ws) ∷ keys (keyed guards x (suc i) (frames_of ws))) o.run
      ∙ sym (ap (λ (l : List Frame). keys (keyed guards (view_of s j) i l)) (frames_first w f ws d)))))
    where
      first : commit_in (phase_of (get_or s.depths (thread_of f) 0) (get_or j.begins (thread_of f) 0) (get_or j.commits (thread_of f) 0))
          (commit_from guards f.thread i (point s j) (w ∷ ws)) ≡ key_of guards (view_of s j) i f (frames_of ws)
      first =
          commit_in_lem (get_or s.depths (thread_of f) 0) (get_or j.begins (thread_of f) 0) (get_or j.commits (thread_of f) 0)
          (commit_from guards f.thread i (point s j) (w ∷ ws))
          ∙ ap (λ (x : ℕ). cond (eqb ((view_of s j).committed (thread_of f)) 0) x (pred ((view_of s j).committed (thread_of f))))
          (place f.thread (on d g a o rest) ∙ ap (λ (l : List Frame). commit_place guards (thread_of f) (view_of s j) i l) (frames_first w f ws d))

  pub commits_keys : {ws : List ℕ} → Pass guards 0 start (start_judging full_sets) ws → commits guards ws ≡ keys (keyed guards begin 0 (frames_of ws))
  commits_keys {ws} p = pass_keys p ∙ ap (λ (x : Run). keys (keyed guards x 0 (frames_of ws))) start_view

  -- The serial order by the words' commits is that by the frames', over any element type.
  pub order_by_lem : {A : Type 0} {ws : List ℕ} (xs : List A) → Pass guards 0 start (start_judging full_sets) ws
      → in_serial_order guards ws xs ≡ order_by guards (frames_of ws) xs
  order_by_lem {A} {ws} xs p =
      ap (λ (x : List ℕ). units_from (length ws) 0 x xs) (commits_keys p)
      ∙ (units_from_lem guards (length ws) 0 begin 0 (frames_of ws) xs
      ∙ ap (λ (m : ℕ). frames (buckets m 0 (keyed_by guards begin 0 (frames_of ws) xs))) (sym (length-map ws frame_of)))

  -- a thread's depth after a frame
  pub depth_now : (t : ℕ) {i : ℕ} {s n : State} {j k : Judging} (f : Frame) → OneFrame guards i f s j n k
      → get_or n.depths t 0 ≡ cond (eqb (thread_of f) t) (nest (get_or s.depths t 0) f.action) (get_or s.depths t 0)
  depth_now t {i} {s} {n} {j} {k} f o = ap (λ (x : Run). x.depth t) o.run ∙ depth_next guards t (view_of s j) i f

  -- The depths at the end.
  pub pass_depth : (t : ℕ) {i : ℕ} {s : State} {j : Judging} {ws : List ℕ} → Pass guards i s j ws
      → depth_at t (get_or s.depths t 0) (frames_of ws) ≡ get_or (check_from i s ws).state.depths t 0
  unfolding check_from
  pass_depth t end = refl
  pass_depth t (on {i = i} {ws = ws} {f = f} d g a o rest) =
      rw (d, g, add-one i) (ap (λ (x : ℕ). depth_at t x (frames_of ws)) (sym (depth_now t f o)) ∙ pass_depth t rest)

  -- The unit of a thread, from a place at which its frames are listed.
  pub unit_frames : {A : Type 0} (t : Thread) {i : ℕ} {s : State} {j : Judging} {ws : List ℕ} (xs : List A) → Pass guards i s j ws
      → unit_from t (get_or s.depths t.0 0) ws xs ≡ units.unit_from t.0 (get_or s.depths t.0 0) (frames_of ws) xs
  unfolding unit_from
  unit_frames t xs end = refl
  unit_frames t [] (on d g a o rest) = refl
  unit_frames {A} t (x ∷ xs) (on {s = s} {j = j} {w = w} {ws = ws} {f = f} {n = n} d g a o rest) =
      rw d (go (eqb (thread_of f) t.0) refl (unit_frames t xs rest))
    where
      m : ℕ
      m = get_or s.depths t.0 0

      same : ℕ → Type 0
      same d = unit_from t d ws xs ≡ units.unit_from t.0 d (frames_of ws) xs

      after_own : eqb (thread_of f) t.0 ≡ true → get_or n.depths t.0 0 ≡ nest m f.action
      after_own e = depth_now t.0 f o ∙ rw e

      after_other : eqb (thread_of f) t.0 ≡ false → get_or n.depths t.0 0 ≡ m
      after_other e = depth_now t.0 f o ∙ rw e

      go : (b : Bool) → eqb (thread_of f) t.0 ≡ b → same (get_or n.depths t.0 0)
          → on_own (cond b (mine (nest m f.action)) other) x m (λ e. unit_from t e ws xs)
          ≡ cond b (x ∷ cond (eqb (nest m f.action) 0) [] (units.unit_from t.0 (nest m f.action) (frames_of ws) xs))
          (units.unit_from t.0 m (frames_of ws) xs)
      go true e ih = ap (λ (l : List A). x ∷ cond (eqb (nest m f.action) 0) [] l) (subst same (after_own e) ih)
      go false e ih = subst same (after_other e) ih

  -- The end of the walk is that of the check.
  pub pass_end : {i : ℕ} {s : State} {j : Judging} {ws : List ℕ} → Pass guards i s j ws → (judge_from guards i s j ws).state ≡ (check_from i s ws).state
  unfolding judge_from check_from
  pass_end end = refl
  pass_end (on {i = i} d g a o rest) = rw (d, a, g, add-one i) (pass_end rest)

  pub pass_end_long : {i : ℕ} {s : State} {j : Judging} {ws : List ℕ} → Pass guards i s j ws → Long s j → length (check_from i s ws).state.depths ≡ thread_count
  unfolding check_from
  pass_end_long end z = z.depths_long
  pass_end_long (on {i = i} d g a o rest) z = rw (d, g, add-one i) (pass_end_long rest o.long)
