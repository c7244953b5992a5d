-- Where each unit of a recording commits, in a table by the place where it starts.
use Rattle.std.specs.Prelude.{ℕ, ◌+◌, cond, List, [], ◌∷◌, leb, length, set, Result, Ok, Err, Option, Some, None}
use Rattle.frame.specs.Limits.{most_frames}
use Rattle.frame.specs.Frame.{decode_word}
use Rattle.frame.specs.declared.Frame.{Frame}
use Rattle.commit.specs.Commit.{start_units, visited, unit_start}
use Rattle.commit.specs.declared.Units.{Units}
use Rattle.frame.specs.declared.Refusal.{Refusal}

-- The unit that starts at b commits at i: that place, plus 1 (`set` beyond the end changes nothing).
abbrev pub noted : Option ℕ → ℕ → List ℕ → List ℕ
noted (Some b) i t = set t b (i + 1)
noted None i t = t

abbrev pub on_frame : Result Frame Refusal → List ℕ → (Frame → List ℕ) → List ℕ
on_frame (Ok f) t rest = rest f
on_frame (Err r) t rest = t

-- The units that commit from place i on, with the units as they are there, up to a word that is no frame.
unfoldable pub commits_from : List ℕ → ℕ → Units → List ℕ → List ℕ → List ℕ
commits_from guards i x [] t = t
commits_from guards i x (w ∷ ws) t =
    on_frame (decode_word w) t λ f. commits_from guards (i + 1) (visited guards i f x) ws (noted (unit_start guards i f x) i t)

abbrev pub commits_of : List ℕ → List ℕ → List ℕ → List ℕ
commits_of guards ws t = commits_from guards 0 start_units ws t

-- "A recording is 0 to 4,096 frames" (docs/FORMAT.md).
abbrev pub commit_places : List ℕ → List ℕ → List ℕ → List ℕ
commit_places guards ws t = cond (leb (length ws) most_frames) (commits_of guards ws t) t
