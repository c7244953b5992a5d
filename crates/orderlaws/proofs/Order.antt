-- The serial order of a reducible, closed recording. In this order: chosen locks change no key; the pass of a reducible recording; exchanges
-- lead to the order, of words that all decode; in it no other thread's frame is inside a block; the walk is the order; which recordings are
-- closed.
use Rattle.std.specs.Prelude.{Result, Ok, Option, Some, None}
use Prim.Native.Nat.{ℕ, zero, suc, ◌+◌, ◌≤◌, ◌<◌}
use mathlib.Core.Path.{◌≡◌, refl, sym, ap, ◌∙◌, subst}
use mathlib.Core.Bool.{Bool, true, false, cond}
use mathlib.Core.List.{List, [], ◌∷◌, ◌++◌, map, map-append}
use native.Mathlib.Omega.{arith}
use borrow.Author.Tests.{eqb-true, ltb-true, ltb-false}
use lib.Dec.{eqb, ltb}
use lib.ListN.{length, get_or, length-map, get_or-eq_default}
use Rattle.pass.specs.Pass.{Ended, start_judging, full_sets, judge_from, judgement, earlier, open_begin, first_open_from, first_open, open_at_end}
use Rattle.frame.specs.Limits.{thread_count}
use Rattle.laws.proofs.Logic.{never, either, from_here, by_test}
use Rattle.frame.specs.declared.Frame.{Frame}
use Rattle.frame.specs.declared.Action.{Action}
use Rattle.soundness.specs.Soundness.{check_from, start, nest}
use Rattle.soundness.specs.declared.State.{State}
use Rattle.soundness.specs.declared.Level.{Level}
use Rattle.operation.specs.Operation.{operation_of}
use Rattle.operation.specs.declared.Operation.{Operation}
use Rattle.operation.specs.declared.Operation.TheVariants.{Acquire, Release, Protected, Unprotected, Inferred, Begin, End}
use Rattle.pass.proofs.Judgement.{judgement_pass, judgement_sound}
use Rattle.rules.specs.Choice.{Reducible, Choice, choose}
use Rattle.rules.proofs.Choice.{chosen, operation_chosen, inferred_is_some_choice}
use Rattle.exchange.specs.Exchange.{Exchanges, independent_words, frame_of, frames_of}
use Rattle.exchange.specs.Independent.{independent}
use Rattle.exchange.proofs.Exchange.{exchanges_length}
use Rattle.exchange.proofs.Frames.{AllDecode, sound_all_decode, frames_words, apart_words}
use Rattle.serial.specs.Order.{commits, unit_at, units_from, in_serial_order, serial_words, Closed, contiguous_at, Contiguous}
use Rattle.serial.specs.Walk.{walk_of}
use Rattle.reduction.proofs.Run as run
use Rattle.reduction.proofs.Run.{thread_of, Run, begin, Good, depth_at, put}
use Rattle.reduction.proofs.Serial.{Serial, serial_order, serial_exchanges, serial_permutes, serial_serial}
use Rattle.reduction.proofs.Commits.{keys_length, commits_own}
use Rattle.reduction.proofs.Units.{walk, serial_walk}
use Rattle.reduction.proofs.Alike.{Alike, alike_same, alike_inferred, serial_order_alike}
use Rattle.orderlaws.proofs.View.{Declared}
use Rattle.orderlaws.proofs.Recording.{Pass, pass_made, start_long, start_view, pass_good, commits_keys, order_by_lem, pass_depth, pass_end, pass_end_long}
use Rattle.orderlaws.proofs.Walk.{pass_walk}
use Rattle.frame.specs.declared.Refusal.{Refusal}

-- an operation under the chosen locks does the same to locks, depths and commits, and is under no inferred guard
alike_chosen : (locks : List ℕ) (o : Operation) → Alike o (chosen locks o)
alike_chosen locks (Acquire l) = alike_same (Acquire l)
alike_chosen locks (Release l) = alike_same (Release l)
alike_chosen locks (Protected m) = alike_same (Protected m)
alike_chosen locks Unprotected = alike_same Unprotected
alike_chosen locks (Inferred v) = alike_inferred v (record { 0 = get_or locks v.0 0 })
alike_chosen locks Begin = alike_same Begin
alike_chosen locks End = alike_same End

declared_chosen : (locks : List ℕ) (o : Operation) → Declared (chosen locks o)
declared_chosen locks (Acquire l) = tt
declared_chosen locks (Release l) = tt
declared_chosen locks (Protected m) = tt
declared_chosen locks Unprotected = tt
declared_chosen locks (Inferred v) = tt
declared_chosen locks Begin = tt
declared_chosen locks End = tt

module _ (guards locks : List ℕ) (c : Choice locks) where
  choice_alike : (x : Level) (a : Action) → Alike (operation_of guards x a) (operation_of (choose guards locks) x a)
  choice_alike x a =
      subst (λ (o : Operation). Alike (operation_of guards x a) o) (sym (operation_chosen guards locks c x a)) (alike_chosen locks (operation_of guards x a))

  choice_declared : (x : Level) (a : Action) → Declared (operation_of (choose guards locks) x a)
  choice_declared x a = subst Declared (sym (operation_chosen guards locks c x a)) (declared_chosen locks (operation_of guards x a))

-- The pass of a reducible recording.
pub reducible_pass : (guards ws : List ℕ) → Reducible guards ws → Pass guards 0 start (start_judging full_sets) ws
reducible_pass guards ws r =
    pass_made guards 0 start (start_judging full_sets) ws
    (sym (ap (λ (x : Ended). x.reply) (judgement_pass guards full_sets ws (judgement_sound guards full_sets ws (Ok tt) r))) ∙ r) start_long

-- where all blocks are closed, they are over frames
closed_frames : (guards ws : List ℕ) → Reducible guards ws → Closed ws → run.Closed (frames_of ws)
closed_frames guards ws r c t =
    ap (λ (d : ℕ). depth_at t d (frames_of ws)) (sym (ap (λ (x : Run). x.depth t) start_view)) ∙ (pass_depth guards t (reducible_pass guards ws r) ∙ c t)

-- words that all decode: in a list of both, of a commit, of units
both_decode : (l r : List ℕ) → AllDecode l → AllDecode r → AllDecode (l ++ r)
both_decode [] r a b = b
both_decode (w ∷ l) r a b = (a.0, both_decode l r a.1 b)

at_decode : (c : ℕ) (ks xs : List ℕ) → AllDecode xs → AllDecode (unit_at c ks xs)
unfolding unit_at
at_decode c [] xs a = tt
at_decode c (k ∷ ks) [] a = tt
at_decode c (k ∷ ks) (x ∷ xs) a =
    either AllDecode (eqb k c) {x = x ∷ unit_at c ks xs} {y = unit_at c ks xs} (a.0, at_decode c ks xs a.1) (at_decode c ks xs a.1)

from_decode : (n c : ℕ) (ks xs : List ℕ) → AllDecode xs → AllDecode (units_from n c ks xs)
unfolding units_from
from_decode zero c ks xs a = tt
from_decode (suc n) c ks xs a = both_decode (unit_at c ks xs) (units_from n (c + 1) ks xs) (at_decode c ks xs a) (from_decode n (c + 1) ks xs a)

reducible_decode : (guards ws : List ℕ) → Reducible guards ws → AllDecode ws
reducible_decode guards ws r = sound_all_decode ws (judgement_sound guards full_sets ws (Ok tt) r)

order_decode : (guards ws : List ℕ) → Reducible guards ws → AllDecode (serial_words guards ws)
order_decode guards ws r = from_decode (length ws) 0 (commits guards ws) ws (reducible_decode guards ws r)

-- The serial order of what a function makes of the elements: of a commit, of units.
map_at : {A B : Type 0} (g : A → B) (c : ℕ) (ks : List ℕ) (xs : List A) → map g (unit_at c ks xs) ≡ unit_at c ks (map g xs)
unfolding unit_at
map_at g c [] xs = refl
map_at g c (k ∷ ks) [] = refl
map_at {A} {B} g c (k ∷ ks) (x ∷ xs) = go (eqb k c) (map_at g c ks xs)
  where
    go : (b : Bool) → map g (unit_at c ks xs) ≡ unit_at c ks (map g xs)
        → map g (cond b (x ∷ unit_at c ks xs) (unit_at c ks xs)) ≡ cond b (g x ∷ unit_at c ks (map g xs)) (unit_at c ks (map g xs))
    go true e = ap (λ (l : List B). g x ∷ l) e
    go false e = e

pub map_units : {A B : Type 0} (g : A → B) (n c : ℕ) (ks : List ℕ) (xs : List A) → map g (units_from n c ks xs) ≡ units_from n c ks (map g xs)
unfolding units_from
map_units g zero c ks xs = refl
map_units g (suc n) c ks xs =
    map-append g (unit_at c ks xs) (units_from n (c + 1) ks xs) ∙ rw (map_at g c ks xs, map_units g n (c + 1) ks xs)

-- so the frames of the serial order are the serial order of the frames
order_frames : (guards ws : List ℕ) → Reducible guards ws → frames_of (serial_words guards ws) ≡ serial_order guards (frames_of ws)
order_frames guards ws r =
    map_units frame_of (length ws) 0 (commits guards ws) ws ∙ order_by_lem guards (frames_of ws) (reducible_pass guards ws r)

-- Exchanges lead to the serial order of a reducible, closed recording: of its frames
frames_exchanged : (guards ws : List ℕ) → Reducible guards ws → Closed ws
    → Exchanges independent (frames_of ws) (frames_of (serial_words guards ws))
frames_exchanged guards ws r c =
    let k = (inferred_is_some_choice guards ws).0 r in
    let good : Good (choose guards k.0) begin 0 (frames_of ws) =
    subst (λ (x : Run). Good (choose guards k.0) x 0 (frames_of ws)) start_view
    (pass_good (choose guards k.0) (choice_declared guards k.0 k.1) (reducible_pass (choose guards k.0) ws k.2)) in
    subst (λ (l : List Frame). Exchanges independent (frames_of ws) l)
    (sym (order_frames guards ws r ∙ serial_order_alike guards (choose guards k.0) (choice_alike guards k.0 k.1) (frames_of ws)))
    (serial_exchanges (choose guards k.0) (frames_of ws) good (closed_frames guards ws r c))

-- and of its words
pub order_exchanges : (guards ws : List ℕ) → Reducible guards ws → Closed ws → Exchanges independent_words ws (serial_words guards ws)
order_exchanges guards ws r c =
    let all = reducible_decode guards ws r in
    apart_words all (frames_words ws (serial_words guards ws) all (order_decode guards ws r) (frames_exchanged guards ws r c))

-- It has as many words as the recording.
pub order_length : (guards ws : List ℕ) → Reducible guards ws → Closed ws → length (serial_words guards ws) ≡ length ws
order_length guards ws r c = sym (exchanges_length independent_words (order_exchanges guards ws r c))

serial_contiguous : (d e : ℕ → ℕ) (ws : List ℕ) → AllDecode ws → ((u : ℕ) → d u ≡ e u) → Serial d (frames_of ws) → Contiguous e ws
unfolding Contiguous
serial_contiguous d e [] a h s = tt
serial_contiguous d e (w ∷ ws) a h s = subst (λ (x : Result Frame Refusal). contiguous_at x e (λ z. Contiguous z ws)) (sym a.0) (
  λ u ne. sym (h u) ∙ s.0 u ne,
  serial_contiguous (put d t (nest (d t) (frame_of w).action)) (λ u. cond (eqb u t) (nest (e u) (frame_of w).action) (e u)) ws a.1
      (λ u. by_test (eqb u t)
      (λ q. rw q (ap (λ (x : ℕ). nest x (frame_of w).action) (ap d (sym (eqb-true _ _ q)) ∙ h u)))
      (λ q. rw q (h u)))
      s.1,
)
  where
    t : ℕ
    t = thread_of (frame_of w)

-- In it no other thread's frame is inside a block.
pub order_contiguous : (guards ws : List ℕ) → Reducible guards ws → Closed ws → Contiguous (λ t. 0) (serial_words guards ws)
order_contiguous guards ws r c =
    serial_contiguous (λ t. 0) (λ t. 0) (serial_words guards ws) (order_decode guards ws r) (λ u. refl)
    (subst (λ (l : List Frame). Serial (λ t. 0) l) (sym (order_frames guards ws r))
    (serial_serial guards (frames_of ws) (closed_frames guards ws r c)))

-- The code's walk of a reducible, closed recording gives its serial order, over any element type.
pub walk_is_order : {A : Type 0} (guards ws : List ℕ) (xs : List A) → length xs ≡ length ws → Reducible guards ws → Closed ws
    → walk_of guards ws xs ≡ in_serial_order guards ws xs
walk_is_order {A} guards ws xs e r c =
    let p = reducible_pass guards ws r in
    let none : ℕ → List A = λ t. [] in
    pass_walk guards xs p
    ∙ (ap (λ (x : Run). walk guards x (λ t. []) none 0 (frames_of ws) xs) start_view
    ∙ (serial_walk guards (frames_of ws) xs (e ∙ sym (length-map ws frame_of)) (closed_frames guards ws r c) ∙ sym (order_by_lem guards xs p)))

-- It has the elements of the recording, each once: exchanges of any neighbours lead to it.
pub order_permutes : {A : Type 0} (guards ws : List ℕ) (xs : List A) → length xs ≡ length ws → Reducible guards ws → Closed ws
    → Exchanges (λ x y. true) xs (in_serial_order guards ws xs)
order_permutes {A} guards ws xs e r c =
    subst (λ (l : List A). Exchanges (λ x y. true) xs l) (sym (order_by_lem guards xs (reducible_pass guards ws r)))
    (serial_permutes guards (frames_of ws) xs (e ∙ sym (length-map ws frame_of)) (closed_frames guards ws r c))

-- A recording has a commit for each frame; it is one of its places, and that of the frame there.
pub commits_length : (guards ws : List ℕ) → Reducible guards ws → length (commits guards ws) ≡ length ws
commits_length guards ws r =
    ap length (commits_keys guards (reducible_pass guards ws r)) ∙ (keys_length guards begin 0 (frames_of ws) ∙ length-map ws frame_of)

pub commit_place_lem : (guards ws : List ℕ) → Reducible guards ws → Closed ws → (p : ℕ) → p < length ws
    → (get_or (commits guards ws) p 0 < length ws) × (get_or (commits guards ws) (get_or (commits guards ws) p 0) 0 ≡ get_or (commits guards ws) p 0)
commit_place_lem guards ws r c p h =
    rw (commits_keys guards (reducible_pass guards ws r), ← length-map ws frame_of)
    (commits_own guards (frames_of ws) (closed_frames guards ws r c) p (omega (arith, length-map ws frame_of)))

-- the earlier of two places is absent where both are, and an open begin where no block is open
earlier_absent : (x y : Option ℕ) → earlier x y ≡ None → (x ≡ None) × (y ≡ None)
earlier_absent None y e = (refl, e)
earlier_absent (Some x) None e = never (cc)
earlier_absent (Some x) (Some y) e = go (ltb y x) e
  where
    go : (b : Bool) → cond b (Some y) (Some x) ≡ None → (Some x ≡ None) × (Some y ≡ None)
    go true q = never (cc)
    go false q = never (cc)

open_absent : (d b : ℕ) → open_begin d b ≡ None → d ≡ 0
open_absent d b e = by_test (eqb d 0) (λ q. eqb-true d 0 q) (λ q. let y : Some b ≡ None = rw q at e in never (cc))

none_open : (n k : ℕ) (m : Option ℕ) (depths begins : List ℕ) → first_open_from n k m depths begins ≡ None
    → (m ≡ None) × ((u : ℕ) → k ≤ u → u < k + n → get_or depths u 0 ≡ 0)
unfolding first_open_from
none_open zero k m depths begins e = (e, λ u p q. absurd (omega arith))
none_open (suc n) k m depths begins e =
    let ih = none_open n (k + 1) (earlier m (open_begin (get_or depths k 0) (get_or begins k 0))) depths begins e in
    let q = earlier_absent m (open_begin (get_or depths k 0) (get_or begins k 0)) ih.0 in (
      q.0,
      from_here (λ u. get_or depths u 0 ≡ 0) k (k + suc n) (open_absent (get_or depths k 0) (get_or begins k 0) q.1) (λ u p l. ih.1 u p (omega arith)),
    )

-- The end of a pass.
abbrev pub last_of : List ℕ → List ℕ → Ended
last_of guards ws = judge_from guards 0 start (start_judging full_sets) ws

-- A reducible recording of which no begin is open at its end is closed.
module _ (guards ws : List ℕ) (r : Reducible guards ws) where
  pub end_depth : (t : ℕ) → get_or (last_of guards ws).state.depths t 0 ≡ get_or (check_from 0 start ws).state.depths t 0
  end_depth t = ap (λ (x : State). get_or x.depths t 0) (pass_end guards (reducible_pass guards ws r))

  pub open_last : open_at_end (judgement guards full_sets ws) ≡ first_open (last_of guards ws).state (last_of guards ws).judging
  open_last =
      let p = judgement_pass guards full_sets ws (judgement_sound guards full_sets ws (Ok tt) r) in
      ap open_at_end p ∙ rw (sym (ap (λ (x : Ended). x.reply) p) ∙ r)

  pub closed_open : open_at_end (judgement guards full_sets ws) ≡ None → Closed ws
  closed_open e t = by_test (ltb t thread_count)
      (λ q. sym (end_depth t) ∙ (none_open thread_count 0 None (last_of guards ws).state.depths (last_of guards ws).judging.begins (sym open_last ∙ e)).1 t (omega arith) (omega (arith, ltb-true t thread_count q)))
      (λ q. let l : length (check_from 0 start ws).state.depths ≡ thread_count = pass_end_long guards (reducible_pass guards ws r) start_long in
      get_or-eq_default (check_from 0 start ws).state.depths 0 (omega (arith, ltb-false t thread_count q)))
