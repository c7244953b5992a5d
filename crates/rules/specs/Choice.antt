-- The claim that ties inferred guards to declared ones: "With inferred guards a recording is reducible exactly if it is so with some choice
-- of one lock for each accessed variable as its declared guard." It is stated over guards of all three kinds.
-- Quotes are from docs/FORMAT.md.
use Rattle.std.specs.Prelude.{ℕ, ◌<◌, ◌≡◌, cond, ◌↔◌, List, [], ◌∷◌, ltb, length, get_or, drop}
use Rattle.guards.specs.Guards.{unprotected_code}
use Rattle.frame.specs.Limits.{lock_count, variable_count}
use Rattle.reply.specs.Reply.{reducible}
use Rattle.pass.specs.Pass.{full_sets, judgement}
use Rattle.verdict.specs.Verdict.{inferred_reply}

-- "A recording is reducible with given guards if none of its frames is refused and none goes wrong under the rules of the verdict."
abbrev pub Reducible : List ℕ → List ℕ → Type 0
Reducible guards ws = (judgement guards full_sets ws).reply ≡ reducible

-- A lock for each variable. Those of variables that no frame accesses are of no account.
pub record Choice (locks : List ℕ) : Type 0 where
  pub long : length locks ≡ variable_count
  pub small : (x : ℕ) → get_or locks x 0 < lock_count

-- The guards with the chosen lock in place of each guard that is inferred (a code above 64).
abbrev pub choose : List ℕ → List ℕ → List ℕ
choose [] locks = []
choose (c ∷ guards) locks = cond (ltb unprotected_code c) (get_or locks 0 0) c ∷ choose guards (drop 1 locks)

-- Term 2's second sentence, over whole recordings, both directions.
abbrev pub InferredIsSomeChoice : Type 0
InferredIsSomeChoice =
    (guards ws : List ℕ)
    → (Reducible guards ws ↔ (locks : List ℕ) × Choice locks × Reducible (choose guards locks) ws)

-- The same for the inferred verdict, where every guard is inferred and the chosen locks are the declared guards.
abbrev pub InferredVerdictIsSomeChoice : Type 0
InferredVerdictIsSomeChoice =
    (ws : List ℕ)
    → (inferred_reply ws variable_count ≡ reducible ↔ (locks : List ℕ) × Choice locks × Reducible locks ws)
