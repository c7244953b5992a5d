-- Laws of soundness: how a pass goes on from place i, by what the frame there does, what a sound recording is, how an acquire and a release
-- lead on, and where another recording is refused.
use Rattle.std.specs.Prelude.{Result, Ok, Err}
use Prim.Native.Nat.{ℕ, zero, suc, ◌+◌, ◌-◌, ◌≤◌, ◌<◌}
use mathlib.Core.Path.{◌≡◌, refl, sym, ap, ◌∙◌, subst}
use mathlib.Core.Bool.{Bool, true, false, cond}
use mathlib.Core.List.{List, [], ◌∷◌}
use native.Mathlib.Omega.{arith}
use native.Mathlib.Numerals.{add-one}
use lib.ListN.{length, get_or, drop, drop_of_length-le}
use lib.Seq.{drop-cons}
use lib.Dec.{eqb, leb, ltb}
use borrow.Author.Tests.{le-ltb, ltb-false, leb-true, leb-false, eqb-true}
use Rattle.frame.specs.Refusal.{refused_at}
use Rattle.frame.specs.Limits.{most_frames, most_held}
use Rattle.std.specs.Result.{IsOk}
use Rattle.std.proofs.Common.{rules}
use Rattle.laws.proofs.Logic.{never}
use Rattle.frame.specs.Frame.{decode_word, frame_at}
use Rattle.frame.proofs.Laws.{at_err}
use Rattle.frame.specs.declared.Frame.{Frame}
use Rattle.frame.specs.declared.Lock.{Lock}
use Rattle.frame.specs.declared.Action.TheVariants.{Acquire, Release}
use Rattle.frame.specs.declared.Refused.{Refused}
use Rattle.frame.specs.declared.Refusal.{Refusal}
use Rattle.frame.specs.declared.Refusal.TheVariants as refusal
use Rattle.soundness.specs.declared.Level.{Level}
use Rattle.soundness.specs.declared.Level.TheVariants.{Outer, Inner}
use Rattle.soundness.specs.Soundness.{owner_of, count_of, with_count, with_owner, Stepped, stepped, step_action, step_frame, step_decoded, on_outcome, checked, Checked, check_from, check_reply, start}
use Rattle.soundness.specs.declared.State.{State}

pub check_short : (ws : List ℕ) → length ws ≤ most_frames → check_reply ws ≡ (check_from 0 start ws).reply
check_short ws h = rw (le-ltb most_frames (length ws) h)

module _ (ws : List ℕ) (i : ℕ) (s : State) where
  pub check_end : length ws ≤ i → check_from i s (drop i ws) ≡ checked (Ok tt) s
  unfolding check_from
  check_end h = rw (drop_of_length-le ws h)

  module _ (h : i < length ws) where
    opened : check_from i s (drop i ws)
        ≡ on_outcome (step_decoded (decode_word (get_or ws i 0)) s).outcome (step_decoded (decode_word (get_or ws i 0)) s).state i (λ n. check_from (i + 1) n (drop (i + 1) ws))
    unfolding check_from
    opened = rw (drop-cons ws i 0 h, add-one i)

    -- the word does not decode
    pub check_bad : (r : Refusal) → decode_word (get_or ws i 0) ≡ Err r → check_from i s (drop i ws) ≡ checked (Err (refused_at r i)) s
    check_bad r e = opened ∙ rw e

    -- the same of the frame at that place
    pub check_refused : {x : Refused} → frame_at ws i ≡ Err x → check_from i s (drop i ws) ≡ checked (Err x) s
    check_refused e = let b = at_err ws i e in check_bad b.0 b.1 ∙ ap (λ (y : Refused). checked (Err y) s) (sym b.2)

    module _ (f : Frame) (n : State) (e : decode_word (get_or ws i 0) ≡ Ok f) where
      -- the frame is refused
      pub check_fail : (r : Refusal) → step_frame f s ≡ stepped (Err r) n → check_from i s (drop i ws) ≡ checked (Err (refused_at r i)) n
      check_fail r g = opened ∙ rw (e, g)

      -- the frame passes
      pub check_next : {x : Level} → step_frame f s ≡ stepped (Ok x) n → check_from i s (drop i ws) ≡ check_from (i + 1) n (drop (i + 1) ws)
      check_next g = opened ∙ rw (e, g)

-- a sound recording has at most 4,096 frames
pub sound_fits : (ws : List ℕ) → check_reply ws ≡ (Ok tt) → length ws ≤ most_frames
sound_fits ws e = go (ltb most_frames (length ws)) refl
  where
    go : (t : Bool) → ltb most_frames (length ws) ≡ t → length ws ≤ most_frames
    go true q =
        let f : ◌≡◌ {A = Result Unit Refused} (Err (refused_at refusal.TooLong most_frames)) (Ok tt) = rw q at e in
        never (cc)
    go false q = ltb-false most_frames (length ws) q

-- The first of frames that are sound.
pub record First (i : ℕ) (s : State) (w : ℕ) (ws : List ℕ) : Type 0 where
  pub frame : Frame
  pub level : Level
  pub next : State
  pub is : decode_word w ≡ Ok frame
  pub passes : step_frame frame s ≡ stepped (Ok level) next
  pub rest : (check_from (i + 1) next ws).reply ≡ (Ok tt)

pub sound_first : (i : ℕ) (s : State) (w : ℕ) (ws : List ℕ) → (check_from i s (w ∷ ws)).reply ≡ (Ok tt) → First i s w ws
unfolding check_from
sound_first i s w ws c = decode_case (decode_word w) refl
  where
    step_case : (f : Frame) → decode_word w ≡ Ok f → (o : Result Level Refusal) (n : State) → step_frame f s ≡ stepped o n → First i s w ws
    step_case f d (Ok x) n g = record { frame = f; level = x; next = n; is = d; passes = g; rest = rw (d, g) at c }
    step_case f d (Err b) n g = let y : ◌≡◌ {A = Result Unit Refused} (Err (refused_at b i)) (Ok tt) = rw (d, g) at c in never (cc)

    decode_case : (x : Result Frame Refusal) → decode_word w ≡ x → First i s w ws
    decode_case (Ok f) d = step_case f d (step_frame f s).outcome (step_frame f s).state refl
    decode_case (Err b) d = let y : ◌≡◌ {A = Result Unit Refused} (Err (refused_at b i)) (Ok tt) = rw d at c in never (cc)

-- no word of a sound recording fails to decode
no_bad : {A : Type 0} {b : Refusal} (i : ℕ) (s : State) (ws : List ℕ) → (check_from i s ws).reply ≡ (Ok tt)
    → (k : ℕ) → k < length ws → decode_word (get_or ws k 0) ≡ Err b → A
no_bad i s [] c k h d = absurd (omega arith)
no_bad {b = b} i s (w ∷ ws) c zero h d =
    let q = sound_first i s w ws c in
    let y : ◌≡◌ {A = Result Frame Refusal} (Err b) (Ok q.frame) = sym d ∙ q.is in
    never (cc)
no_bad i s (w ∷ ws) c (suc k) h d = let q = sound_first i s w ws c in no_bad (i + 1) q.next ws q.rest k (omega arith) d

pub sound_not_bad : {A : Type 0} {b : Refusal} (ws : List ℕ) → check_reply ws ≡ (Ok tt) → (k : ℕ) → k < length ws → decode_word (get_or ws k 0) ≡ Err b → A
sound_not_bad ws c = no_bad 0 start ws (sym (check_short ws (sound_fits ws c)) ∙ c)

-- a refused step is no step on
no_step : {A : Type 0} {x : Level} (r : Refusal) (s n : State) → stepped (Err r) s ≡ stepped (Ok x) n → A
no_step {x = x} r s n e = let f : ◌≡◌ {A = Result Level Refusal} (Err r) (Ok x) = ap (λ (y : Stepped). y.outcome) e in never (cc)

-- what a step on shows where a test holds it up: the test's answer, and the state that it leads to
pub spared : {x : Level} (b : Bool) (r : Refusal) (s m n : State) → cond b (stepped (Err r) s) (stepped (Ok Outer) m) ≡ stepped (Ok x) n
    → (b ≡ false) × (n ≡ m)
spared true r s m n e = no_step r s n e
spared false r s m n e = (refl, sym (ap (λ (z : Stepped). z.state) e))

module _ (t : ℕ) (l : Lock) (s : State) where
  -- An acquire and a release that pass: what they show of the lock, and where they lead.
  pub data Acquired : Level → State → Type 0 where
    took : owner_of l s ≡ 0 → Acquired Outer (with_owner l (t + 1) 1 s)
    took_again : owner_of l s ≡ t + 1 → count_of l s < most_held → Acquired Inner (with_count l (count_of l s + 1) s)

  pub data Released : Level → State → Type 0 where
    freed : owner_of l s ≡ t + 1 → count_of l s ≤ 1 → Released Outer (with_owner l 0 0 s)
    let_go : owner_of l s ≡ t + 1 → 1 < count_of l s → Released Inner (with_count l (count_of l s - 1) s)

  same_step : {x y : Level} {m n : State} (P : Level → State → Type 0) → stepped (Ok y) m ≡ stepped (Ok x) n → P y m → P x n
  same_step {x} {y} {m} {n} P e p =
      let a : y ≡ x = same_level (ap (λ (z : Stepped). z.outcome) e) in
      subst (λ (k : State). P x k) (ap (λ (z : Stepped). z.state) e) (subst (λ (k : Level). P k m) a p)
    where
      same_level : {x y : Level} → ◌≡◌ {A = Result Level Refusal} (Ok y) (Ok x) → y ≡ x
      same_level e = cc

  pub acquired : {x : Level} {n : State} → step_action t (Acquire l) s ≡ stepped (Ok x) n → Acquired x n
  unfolding step_action
  acquired {x} {n} e = go (eqb (owner_of l s) 0) (eqb (owner_of l s) (t + 1)) (leb most_held (count_of l s)) refl refl refl e
    where
      go : (a b d : Bool) → eqb (owner_of l s) 0 ≡ a → eqb (owner_of l s) (t + 1) ≡ b → leb most_held (count_of l s) ≡ d
          → cond a (stepped (Ok Outer) (with_owner l (t + 1) 1 s))
          (cond b
          (cond d (stepped (Err refusal.TooOften) s) (stepped (Ok Inner) (with_count l (count_of l s + 1) s)))
          (stepped (Err refusal.LockTaken) s))
          ≡ stepped (Ok x) n
          → Acquired x n
      go true b d p q r f = same_step Acquired f (took (eqb-true _ _ p))
      go false true true p q r f = no_step _ s n f
      go false true false p q r f = same_step Acquired f (took_again (eqb-true _ _ q) (leb-false most_held (count_of l s) r))
      go false false d p q r f = no_step _ s n f

  pub released : {x : Level} {n : State} → step_action t (Release l) s ≡ stepped (Ok x) n → Released x n
  unfolding step_action
  released {x} {n} e = go (eqb (owner_of l s) (t + 1)) (leb (count_of l s) 1) refl refl e
    where
      go : (a b : Bool) → eqb (owner_of l s) (t + 1) ≡ a → leb (count_of l s) 1 ≡ b
          → cond a
          (cond b (stepped (Ok Outer) (with_owner l 0 0 s)) (stepped (Ok Inner) (with_count l (count_of l s - 1) s)))
          (stepped (Err refusal.LockNotHeld) s)
          ≡ stepped (Ok x) n
          → Released x n
      go true true p q f = same_step Released f (freed (eqb-true _ _ p) (leb-true (count_of l s) 1 q))
      go true false p q f = same_step Released f (let_go (eqb-true _ _ p) (leb-false (count_of l s) 1 q))
      go false b p q f = no_step _ s n f

-- the place of a refusal, 0 of none
abbrev place_of : Result Unit Refused → ℕ
place_of (Ok _) = 0
place_of (Err r) = r.place

outcome_place : (o : Result Level Refusal) (s : State) (i m : ℕ) (rest : State → Checked) → i ≤ m → ((n : State) → place_of (rest n).reply ≤ m)
    → place_of (on_outcome o s i rest).reply ≤ m
outcome_place (Ok x) s i m rest h f = f s
outcome_place (Err r) s i m rest h f = h

from_place : (i : ℕ) (s : State) (ws : List ℕ) (m : ℕ) → i + length ws ≤ m → place_of (check_from i s ws).reply ≤ m
unfolding check_from
from_place i s [] m h = omega arith
from_place i s (w ∷ ws) m h =
    outcome_place (step_decoded (decode_word w) s).outcome (step_decoded (decode_word w) s).state i m (λ n. check_from (i + 1) n ws) (omega arith)
    (λ n. from_place (i + 1) n ws m (omega arith))

-- a recording is refused at a frame, or at 4,096
pub check_place : (ws : List ℕ) (r : Refused) → check_reply ws ≡ Err r → r.place ≤ most_frames
check_place ws r e = rw e at (go (ltb most_frames (length ws)) refl)
  where
    go : (t : Bool) → ltb most_frames (length ws) ≡ t → place_of (check_reply ws) ≤ most_frames
    go true q = rw q (omega arith)
    go false q = rw q (from_place 0 start ws most_frames (omega (arith, ltb-false most_frames (length ws) q)))

-- so what the word at a place decodes to is a frame
pub sound_decodes : (ws : List ℕ) → check_reply ws ≡ (Ok tt) → (k : ℕ) → k < length ws → (q : Result Frame Refusal) → q ≡ decode_word (get_or ws k 0) → IsOk q
sound_decodes ws c k h (Ok f) e = search rules
sound_decodes ws c k h (Err r) e = sound_not_bad ws c k h (sym e)
