-- Laws of the verdicts: copying a table, and what the inferred verdict answers and leaves by the judgement's reply.
use Rattle.std.specs.Prelude.{Result, Ok, Err}
use Prim.Native.Nat.{ℕ, ◌≤◌, ◌<◌}
use mathlib.Core.Path.{◌≡◌, refl}
use mathlib.Core.List.{List, ◌++◌}
use borrow.Author.Tests.{lt-ltb, le-ltb}
use lib.ListN.{length, drop}
use Rattle.frame.specs.Limits.{variable_count, most_frames}
use Rattle.laws.proofs.Logic.{never}
use Rattle.frame.specs.declared.Refused.{Refused}
use Rattle.frame.specs.declared.Refusal.TheVariants as refusal
use Rattle.reply.specs.Reply.{refused, Reply, Verdict}
use Rattle.guards.specs.Guards.{inferred_guards, guards_under}
use Rattle.guards.specs.Judgement.{Judgement}
use Rattle.pass.proofs.Judgement.{judgement_fits}
use Rattle.pass.specs.Pass.{full_sets}
use Rattle.verdict.specs.Verdict.{verdict_under, with_table, inferred_end, inferred_reply, inferred_sets}

-- a table with an entry for each variable is never refused
pub own_table : (r : Reply) → r ≡ with_table r variable_count
own_table (Err x) = refl
own_table (Ok v) = refl

-- a refused recording
module _ (ws table : List ℕ) (x : Refused) (e : (inferred_end ws).reply ≡ Err x) where
  pub refused_reply : (n : ℕ) → inferred_reply ws n ≡ Err x
  unfolding inferred_reply
  refused_reply n = rw e

  pub refused_sets : inferred_sets ws table ≡ table
  unfolding inferred_sets
  refused_sets = rw (refused_reply (length table))

-- a judged recording
module _ (ws table : List ℕ) (v : Verdict) (e : (inferred_end ws).reply ≡ Ok v) where
  module _ (short : length table < variable_count) where
    pub short_reply : inferred_reply ws (length table) ≡ refused refusal.SetTable variable_count
    unfolding inferred_reply
    short_reply = rw (e, lt-ltb (length table) variable_count short)

    pub short_sets : inferred_sets ws table ≡ table
    unfolding inferred_sets
    short_sets = rw short_reply

  module _ (room : variable_count ≤ length table) where
    pub judged_reply : inferred_reply ws (length table) ≡ Ok v
    unfolding inferred_reply
    judged_reply = rw (e, le-ltb (length table) variable_count room)

    pub judged_sets : inferred_sets ws table ≡ (inferred_end ws).judging.sets ++ drop variable_count table
    unfolding inferred_sets
    judged_sets = rw judged_reply

-- a recording that gets a verdict has at most as many frames as a recording may have
pub verdict_fits : (j : Judgement) (list ws : List ℕ) (v : Verdict) → verdict_under j list ws ≡ Ok v → length ws ≤ most_frames
unfolding verdict_under
verdict_fits j list ws v e = go (guards_under j list).reply refl
  where
    go : (q : Result ℕ Refused) → (guards_under j list).reply ≡ q → length ws ≤ most_frames
    go (Ok n) f = judgement_fits (guards_under j list).table full_sets ws v (rw f at e)
    go (Err x) f =
        let g : ◌≡◌ {A = Reply} (Err x) (Ok v) = rw f at e in
        never (cc)

pub inferred_fits : (ws : List ℕ) (n : ℕ) (v : Verdict) → inferred_reply ws n ≡ Ok v → length ws ≤ most_frames
unfolding inferred_reply
inferred_fits ws n v e = go (inferred_end ws).reply refl
  where
    go : (r : Reply) → (inferred_end ws).reply ≡ r → length ws ≤ most_frames
    go (Ok w) f = judgement_fits inferred_guards full_sets ws w f
    go (Err x) f =
        let g : ◌≡◌ {A = Reply} (Err x) (Ok v) = rw f at e in
        never (cc)
