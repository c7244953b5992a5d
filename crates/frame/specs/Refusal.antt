-- The numbers of the table of refusals in docs/FORMAT.md.
use Rattle.std.specs.Prelude.{ℕ, ◌-◌, cond, List, [], ◌∷◌, eqb, ltb, length, get_or, Result, Ok, Err}
use Rattle.frame.specs.declared.Refusal.{Refusal}
use Rattle.frame.specs.declared.Refusal.TheVariants as refusal
use Rattle.frame.specs.declared.Refused.{Refused}
use Rattle.frame.specs.declared.UnknownRefusal.{UnknownRefusal}

abbrev pub refusal_number : Refusal → ℕ
refusal_number refusal.Line = 1
refusal_number refusal.TooLong = 2
refusal_number refusal.WordBuffer = 3
refusal_number refusal.Operation = 4
refusal_number refusal.Thread = 5
refusal_number refusal.Object = 6
refusal_number refusal.LockTaken = 7
refusal_number refusal.LockNotHeld = 8
refusal_number refusal.TooDeep = 9
refusal_number refusal.NoOpenBlock = 10
refusal_number refusal.GuardRange = 11
refusal_number refusal.GuardRepeated = 12
refusal_number refusal.Irreducible = 13
refusal_number refusal.OpenBlock = 14
refusal_number refusal.OutputBuffer = 15
refusal_number refusal.SetTable = 16
refusal_number refusal.LineBuffer = 17
refusal_number refusal.VerdictLine = 18
refusal_number refusal.TextBuffer = 19
refusal_number refusal.TooOften = 20
refusal_number refusal.MovesBuffer = 21

-- "A refusal is its number and place."
abbrev pub refused_at : Refusal → ℕ → Refused
refused_at r p = record { reason = r; place = p }

-- The refusals in the order of their numbers, and the one of a number from 1 on.
abbrev pub refusals : List Refusal
refusals =
    refusal.Line ∷ refusal.TooLong ∷ refusal.WordBuffer ∷ refusal.Operation ∷ refusal.Thread ∷ refusal.Object ∷ refusal.LockTaken
    ∷ refusal.LockNotHeld ∷ refusal.TooDeep ∷ refusal.NoOpenBlock ∷ refusal.GuardRange ∷ refusal.GuardRepeated ∷ refusal.Irreducible
    ∷ refusal.OpenBlock ∷ refusal.OutputBuffer ∷ refusal.SetTable ∷ refusal.LineBuffer ∷ refusal.VerdictLine ∷ refusal.TextBuffer
    ∷ refusal.TooOften ∷ refusal.MovesBuffer ∷ []

abbrev pub refusal_by : ℕ → Refusal
refusal_by n = get_or refusals (n - 1) refusal.Line

-- The refusal of any number: there is none of 0, nor above the last.
abbrev pub refusal_named : ℕ → Result Refusal UnknownRefusal
refusal_named n =
    cond (eqb n 0) (Err (record { 0 = n })) (cond (ltb (length refusals) n) (Err (record { 0 = n })) (Ok (refusal_by n)))
