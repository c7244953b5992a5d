-- Units, commits and the serial order of a recording. In this order: the state of a pass, the commit of each frame's unit, the order by
-- commits over any element type, closed recordings and open blocks, what a serial order is asked to be.
-- Quotes are from docs/FORMAT.md.
use Rattle.std.specs.Prelude.{ℕ, zero, suc, ◌+◌, ◌≤◌, ◌<◌, ◌≡◌, Bool, true, false, cond, ◌&&◌, List, [], ◌∷◌, ◌++◌, eqb, length, get_or, take, Result, Ok, Err}
use Rattle.frame.specs.Frame.{decode_word}
use Rattle.frame.specs.declared.Thread.{Thread}
use Rattle.frame.specs.declared.Frame.{Frame}
use Rattle.soundness.specs.Soundness.{nest, step_frame, check_from, start}
use Rattle.soundness.specs.declared.State.{State}
use Rattle.instrumented.specs.Rules.{Phase, outside, before, after, Judging, phase_at}
use Rattle.turn.specs.Turn.{judge_frame}
use Rattle.pass.specs.Pass.{start_judging, full_sets}
use Rattle.frame.specs.declared.Refusal.{Refusal}

-- The state of a judging pass: locks and depths, and where the threads stand.
pub record Point : Type 0 where
  pub state : State
  pub judging : Judging

abbrev pub start_point : Point
start_point = record { state = start; judging = start_judging full_sets }

-- The point after frame f at place i.
abbrev pub next : List ℕ → ℕ → Frame → Point → Point
next guards i f p = record { state = (step_frame f p.state).state; judging = (judge_frame guards i f p.state p.judging).judging }

abbrev pub phase_of_thread : Thread → Point → Phase
phase_of_thread t p = phase_at (get_or p.state.depths t.0 0) t p.judging

-- Outside or after commit.
abbrev pub settled : Phase → Bool
settled outside = true
settled (before b) = false
settled (after b c) = true

-- The commit of the unit that thread t, outside or before commit, is in or comes to next: "the frame that took it after commit, or its end if
-- none did; a single frame is its own commit", so its first frame from place i on that leaves it outside or after commit.
abbrev pub on_frame : Result Frame Refusal → Thread → ℕ → List ℕ → Point → (Point → ℕ) → ℕ
on_frame (Ok f) t i guards p rest =
    cond (eqb f.thread.0 t.0 && settled (phase_of_thread t (next guards i f p))) i (rest (next guards i f p))
on_frame (Err r) t i guards p rest = i

unfoldable pub commit_from : List ℕ → Thread → ℕ → Point → List ℕ → ℕ
commit_from guards t i p [] = i
commit_from guards t i p (w ∷ ws) = on_frame (decode_word w) t i guards p (λ n. commit_from guards t (i + 1) n ws)

-- The commit of the unit of a frame of thread t at place i: where the thread is after commit, that commit; else the one to come.
abbrev pub commit_in : Phase → ℕ → ℕ
commit_in outside c = c
commit_in (before b) c = c
commit_in (after b k) c = k

-- The commit of each frame's unit, by place.
abbrev pub on_word : Result Frame Refusal → ℕ → List ℕ → Point → List ℕ → (Point → List ℕ) → List ℕ
on_word (Ok f) i guards p ws rest =
    commit_in (phase_of_thread f.thread p) (commit_from guards f.thread i p ws) ∷ rest (next guards i f p)
on_word (Err r) i guards p ws rest = []

unfoldable pub commits_from : List ℕ → ℕ → Point → List ℕ → List ℕ
commits_from guards i p [] = []
commits_from guards i p (w ∷ ws) = on_word (decode_word w) i guards p (w ∷ ws) (λ n. commits_from guards (i + 1) n ws)

abbrev pub commits : List ℕ → List ℕ → List ℕ
commits guards ws = commits_from guards 0 start_point ws

-- The elements whose unit commits at c, in recorded order.
unfoldable pub unit_at : {A : Type 0} → ℕ → List ℕ → List A → List A
unit_at c [] xs = []
unit_at c (k ∷ ks) [] = []
unit_at c (k ∷ ks) (x ∷ xs) = cond (eqb k c) (x ∷ unit_at c ks xs) (unit_at c ks xs)

-- The units that commit at the n places from c on.
unfoldable pub units_from : {A : Type 0} → ℕ → ℕ → List ℕ → List A → List A
units_from zero c ks xs = []
units_from (suc n) c ks xs = unit_at c ks xs ++ units_from n (c + 1) ks xs

-- "The serial order lists the units by the place of their commit, lowest first, each with its frames in recorded order." Over any element
-- type: xs has an element for each frame.
abbrev pub in_serial_order : {A : Type 0} → List ℕ → List ℕ → List A → List A
in_serial_order guards ws xs = units_from (length ws) 0 (commits guards ws) xs

abbrev pub serial_words : List ℕ → List ℕ → List ℕ
serial_words guards ws = in_serial_order guards ws ws

-- "All blocks are closed if every depth is 0 after the last frame."
abbrev pub Closed : List ℕ → Type 0
Closed ws = (t : ℕ) → get_or (check_from 0 start ws).state.depths t 0 ≡ 0

-- Thread t's depth after the first i frames.
abbrev pub depth_after : List ℕ → ℕ → ℕ → ℕ
depth_after ws t i = get_or (check_from 0 start (take i ws)).state.depths t 0

-- "Its outermost begin raises the depth from 0 to 1": thread t's block that begins at place b is still open at the end, since the depth is 0
-- before b, and at no place behind b is it 0 again.
pub record Open (ws : List ℕ) (t b : ℕ) : Type 0 where
  pub within : b < length ws
  pub raised : depth_after ws t b ≡ 0
  pub stays : (i : ℕ) → b < i → i ≤ length ws → depth_after ws t i ≡ 0 → ⊥

-- "smallest place of an open outermost begin"
pub record FirstOpen (ws : List ℕ) (b : ℕ) : Type 0 where
  pub thread : ℕ
  pub is_open : Open ws thread b
  pub smallest : (t c : ℕ) → Open ws t c → b ≤ c

-- "no other thread's frame inside a block" (the paper's figure 6): at each frame every other thread is outside its blocks. `depth` has the
-- depth of each thread before the first frame. A word that is no frame is in no such order.
abbrev pub contiguous_at : Result Frame Refusal → (ℕ → ℕ) → ((ℕ → ℕ) → Type 0) → Type 0
contiguous_at (Ok f) depth rest =
    ((u : ℕ) → (u ≡ f.thread.0 → ⊥) → depth u ≡ 0) × rest (λ u. cond (eqb u f.thread.0) (nest (depth u) f.action) (depth u))
contiguous_at (Err r) depth rest = ⊥

unfoldable pub Contiguous : (ℕ → ℕ) → List ℕ → Type 0
Contiguous depth [] = Unit {0}
Contiguous depth (w ∷ ws) = contiguous_at (decode_word w) depth (λ d. Contiguous d ws)
