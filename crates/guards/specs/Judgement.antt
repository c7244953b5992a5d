-- How guards are given: declared by a guard list, or all inferred.
use Rattle.std.specs.Prelude.{ℕ, List, []}
use Rattle.guards.specs.declared.Judgement.{Judgement as Given}
use Rattle.guards.specs.declared.Judgement.TheVariants as given

pub data Judgement : Type 0 where
  Declared : Judgement
  Inferred : Judgement

-- What a judgement of the code says of it, and its list: none where guards are inferred.
abbrev pub way_of : Given → Judgement
way_of (given.Declared l) = Declared
way_of given.Inferred = Inferred

abbrev pub list_of : Given → List ℕ
list_of (given.Declared l) = l.now
list_of given.Inferred = []
