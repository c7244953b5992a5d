-- The serial order as the code writes it: a walk of the recording that lists each unit where it commits. It does not judge. That this is the
-- serial order of a reducible, closed recording, over any element type, is a law.
-- Quotes are from docs/FORMAT.md.
use Rattle.std.specs.Prelude.{ℕ, ◌+◌, ◌-◌, cond, List, [], ◌∷◌, ◌++◌, eqb, drop, Result, Ok, Err, Option, Some, None}
use Rattle.frame.specs.Frame.{decode_word}
use Rattle.frame.specs.declared.Thread.{Thread}
use Rattle.frame.specs.declared.Frame.{Frame}
use Rattle.soundness.specs.Soundness.{nest}
use Rattle.commit.specs.Commit.{start_units, visited, unit_start}
use Rattle.commit.specs.declared.Units.{Units}
use Rattle.frame.specs.declared.Refusal.{Refusal}

-- A frame seen by a thread: its own, with the depth after it, or another's.
pub data Own : Type 0 where
  mine : ℕ → Own
  other : Own

-- A frame seen by thread t, inside d open blocks.
abbrev pub own_frame : Result Frame Refusal → Thread → ℕ → Own
own_frame (Err r) t d = other
own_frame (Ok f) t d = cond (eqb f.thread.0 t.0) (mine (nest d f.action)) other

-- A thread's depth after its frame, by the frame's operation: 5 is a begin, 6 an end.
abbrev pub depth_by : ℕ → ℕ → ℕ
depth_by op d = cond (eqb op 5) (d + 1) (cond (eqb op 6) (d - 1) d)

abbrev pub on_own : {A : Type 0} → Own → A → ℕ → (ℕ → List A) → List A
on_own other x d rest = rest d
on_own (mine e) x d rest = x ∷ cond (eqb e 0) [] (rest e)

-- Over any element type, as the serial order is: xs has an element for each frame of the recording. The elements of the frames of thread t,
-- inside d open blocks, up to the first that leaves it outside all blocks.
unfoldable pub unit_from : {A : Type 0} → Thread → ℕ → List ℕ → List A → List A
unit_from t d [] xs = []
unit_from t d (w ∷ ws) [] = []
unit_from t d (w ∷ ws) (x ∷ xs) = on_own (own_frame (decode_word w) t d) x d (λ e. unit_from t e ws xs)

-- The unit of thread t that starts at place b.
unfoldable pub unit_of : {A : Type 0} → List ℕ → List A → ℕ → Thread → List A
unit_of ws xs b t = unit_from t 0 (drop b ws) (drop b xs)

abbrev pub unit_in : {A : Type 0} → Option ℕ → List ℕ → List A → Thread → List A
unit_in (Some b) all xs t = unit_of all xs b t
unit_in None all xs t = []

abbrev pub on_frame : {A : Type 0} → Result Frame Refusal → (Frame → List A) → List A
on_frame (Ok f) rest = rest f
on_frame (Err r) rest = []

-- The units that commit from place i on, with the units as they are there.
unfoldable pub walk_from : {A : Type 0} → List ℕ → List ℕ → List A → ℕ → Units → List ℕ → List A
walk_from guards all xs i x [] = []
walk_from guards all xs i x (w ∷ ws) =
    on_frame (decode_word w) λ f. unit_in (unit_start guards i f x) all xs f.thread ++ walk_from guards all xs (i + 1) (visited guards i f x) ws

abbrev pub walk_of : {A : Type 0} → List ℕ → List ℕ → List A → List A
walk_of guards ws xs = walk_from guards ws xs 0 start_units ws

abbrev pub walk_words : List ℕ → List ℕ → List ℕ
walk_words guards ws = walk_of guards ws ws
