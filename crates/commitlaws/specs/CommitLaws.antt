-- The table of commits has the commits of the serial order: what `commitplaces::write_commits` leaves is `commit_places`, what the calls by a
-- judgement answer and leave is `commits_under`, `commits_out_under`; the commits are `commits` of serial/Order. In this order: where units
-- start; a table before and after; the two claims.
-- Quotes are from docs/FORMAT.md.
use Rattle.std.specs.Prelude.{ℕ, ◌+◌, ◌≤◌, ◌<◌, ◌≡◌, List, length, get_or, Ok}
use Rattle.frame.specs.Frame.{decode_word}
use Rattle.frame.specs.declared.Frame.{Frame}
use Rattle.guards.specs.Guards.{guards_under}
use Rattle.guards.specs.Judgement.{Judgement}
use Rattle.serial.specs.Order.{commits, depth_after}
use Rattle.rules.specs.Choice.{Reducible}
use Rattle.commitplaces.specs.CommitPlaces.{commit_places}
use Rattle.unitcommits.specs.UnitCommits.{commits_under, commits_out_under}

-- The frame at place i of the recording ws starts a unit: its thread is outside all blocks before it.
pub record Starts (ws : List ℕ) (i : ℕ) : Type 0 where
  pub within : i < length ws
  pub frame : Frame
  pub is : decode_word (get_or ws i 0) ≡ Ok frame
  pub outside : depth_after ws frame.thread.0 i ≡ 0

-- The table t, and what is left in it: the commits of the recording ws with the guards, by the places where the units start.
pub record Commits (guards ws t left : List ℕ) : Type 0 where
  -- The table keeps its length.
  pub as_long : length left ≡ length t
  -- "for each unit that commits, at the place where it starts, its commit plus 1": the commit of the serial order, within the recording.
  pub committed : (i : ℕ) → i < length t → Starts ws i → get_or (commits guards ws) i 0 < length ws → get_or left i 0 ≡ get_or (commits guards ws) i 0 + 1
  -- Where a unit starts that does not commit, as its block is still open, the entry is what it was.
  pub uncommitted : (i : ℕ) → Starts ws i → length ws ≤ get_or (commits guards ws) i 0 → get_or left i 0 ≡ get_or t i 0
  -- Every other entry, inside blocks and beyond the recording, is what it was.
  pub others : (i : ℕ) → (Starts ws i → ⊥) → get_or left i 0 ≡ get_or t i 0

-- For every recording that is reducible with the guards, with blocks still open or not, and every table.
abbrev pub CommitPlacesAreCommits : Type 0
CommitPlacesAreCommits = (guards ws t : List ℕ) → Reducible guards ws → Commits guards ws t (commit_places guards ws t)

-- What a call for commits answers and leaves, under the guards of its list.
pub record CommitsLeft (j : Judgement) (list ws t : List ℕ) : Type 0 where
  -- The reply is the recording's length.
  pub reply : commits_under j list ws ≡ Ok (length ws)
  -- The table has the commits.
  pub table : Commits (guards_under j list).table ws t (commits_out_under j list ws t)

-- The same of the calls, where the guard list is accepted and the recording is reducible with its guards.
abbrev pub CallsLeaveCommits : Type 0
CallsLeaveCommits =
    (j : Judgement) (list ws t : List ℕ) (n : ℕ) → (guards_under j list).reply ≡ Ok n → Reducible (guards_under j list).table ws
    → CommitsLeft j list ws t
