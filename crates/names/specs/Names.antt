-- The names of kinds and refusals: those that include/trace_check.h gives their numbers, in lower case and with blanks.
use Rattle.std.specs.Prelude.{ℕ, ◌+◌, ◌-◌, ◌<◌, cond, List, [], ◌∷◌, eqb, ltb, length, get_or, Option, Some, None, IfSome}
use Prim.Native.String.{String}
use Rattle.output.specs.Output.{bytes}

-- The kinds 0 to 4, then the refusals 1 to 21.
abbrev pub names : List String
names =
    "reducible" ∷ "guard not held" ∷ "unprotected access after commit" ∷ "acquire after commit" ∷ "candidate set emptied"
    ∷ "malformed line" ∷ "too many frames" ∷ "words too short" ∷ "operation out of range" ∷ "thread out of range" ∷ "object out of range"
    ∷ "lock held by other" ∷ "lock not held" ∷ "nesting too deep" ∷ "no open block" ∷ "guard out of range" ∷ "variable already named"
    ∷ "not reducible" ∷ "block still open" ∷ "output too short" ∷ "sets too short" ∷ "line too short" ∷ "not a verdict line"
    ∷ "text too short" ∷ "too many holds" ∷ "moves too short" ∷ []

-- What has no place among them has an empty name.
unfoldable pub name_at : Option ℕ → List ℕ
name_at (Some n) = bytes (get_or names n "")
name_at None = []

-- The place of a refusal's name, by its number.
abbrev pub refusal_place : ℕ → Option ℕ
refusal_place n = cond (eqb n 0) None (cond (ltb 21 n) None (Some (n + 4)))

-- The place of a kind's name; "Refusal n: kind 80 hexadecimal plus n" (docs/FORMAT.md).
abbrev pub kind_place : ℕ → Option ℕ
kind_place k = cond (ltb k 5) (Some k) (cond (ltb k 128) None (refusal_place (k - 128)))

abbrev pub refusal_name : ℕ → List ℕ
refusal_name n = name_at (refusal_place n)

abbrev pub kind_name : ℕ → List ℕ
kind_name k = name_at (kind_place k)

-- A place in the table, or none.
abbrev pub IsPlace : Option ℕ → Type 0
IsPlace p = IfSome p (λ n. n < length names)
