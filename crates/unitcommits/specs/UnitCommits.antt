-- What the calls for commits answer, and what they leave in the lent table.
-- Quotes are from docs/FORMAT.md.
use Rattle.std.specs.Prelude.{ℕ, List, length, Result, Ok, Err}
use Rattle.guards.specs.Guards.{guards_under}
use Rattle.guards.specs.Judgement.{Judgement}
use Rattle.soundness.specs.Soundness.{check_reply}
use Rattle.order.specs.Order.{on_list}
use Rattle.commitplaces.specs.CommitPlaces.{commit_places}
use Rattle.frame.specs.declared.Refused.{Refused}

-- The recording's refusal, or its length.
abbrev pub reply_of : Result Unit Refused → ℕ → Result ℕ Refused
reply_of (Err x) n = Err x
reply_of (Ok tt) n = Ok n

abbrev pub checked_reply : List ℕ → Result ℕ Refused
checked_reply ws = reply_of (check_reply ws) (length ws)

-- A refusal changes no lent buffer.
abbrev pub out_of : Result Unit Refused → List ℕ → List ℕ → List ℕ
out_of (Err x) new old = old
out_of (Ok tt) new old = new

abbrev pub checked_out : List ℕ → List ℕ → List ℕ → List ℕ
checked_out guards ws t = out_of (check_reply ws) (commit_places guards ws t) t

-- "A guard list is checked before the recording."
unfoldable pub commits_under : Judgement → List ℕ → List ℕ → Result ℕ Refused
commits_under j list ws = on_list (guards_under j list).reply (checked_reply ws)

abbrev pub out_on_list : Result ℕ Refused → List ℕ → List ℕ → List ℕ
out_on_list (Ok n) new old = new
out_on_list (Err x) new old = old

unfoldable pub commits_out_under : Judgement → List ℕ → List ℕ → List ℕ → List ℕ
commits_out_under j list ws t = out_on_list (guards_under j list).reply (checked_out (guards_under j list).table ws t) t
