-- The numbers of the kinds of violation, short names for replies, and a refusal as one number.
-- Quotes are from docs/FORMAT.md.
use Rattle.std.specs.Prelude.{ℕ, ◌+◌, ◌-◌, ◌*◌, cond, List, [], ◌∷◌, eqb, ltb, length, get_or, Result, Ok, Err}
use Rattle.frame.specs.Refusal.{refusal_number, refused_at}
use Rattle.frame.specs.declared.Refusal.{Refusal}
use Rattle.frame.specs.declared.Refused.{Refused}
use Rattle.reply.specs.declared.Kind.{Kind}
use Rattle.reply.specs.declared.Kind.TheVariants as kind
use Rattle.reply.specs.declared.UnknownKind.{UnknownKind}
use Rattle.reply.specs.declared.Violation.{Violation}

-- A verdict, `reply::Verdict` of the code: reducible, or the violation.
abbrev pub Verdict : Type 0
Verdict = Result Unit Violation

-- What a judgement answers, `reply::Reply` of the code: the refusal, or the verdict.
abbrev pub Reply : Type 0
Reply = Result Verdict Refused

-- "1: guard not held .. 2: unprotected access after commit .. 3: acquire after commit .. 4: candidate set emptied"
abbrev pub kind_number : Kind → ℕ
kind_number kind.GuardNotHeld = 1
kind_number kind.UnprotectedAfterCommit = 2
kind_number kind.AcquireAfterCommit = 3
kind_number kind.SetEmptied = 4

-- The kinds in the order of their numbers, and the one of a number from 1 on.
abbrev pub kinds : List Kind
kinds = kind.GuardNotHeld ∷ kind.UnprotectedAfterCommit ∷ kind.AcquireAfterCommit ∷ kind.SetEmptied ∷ []

abbrev pub kind_by : ℕ → Kind
kind_by n = get_or kinds (n - 1) kind.GuardNotHeld

-- The kind of any number: there is none of 0, nor above the last.
abbrev pub kind_named : ℕ → Result Kind UnknownKind
kind_named n = cond (eqb n 0) (Err (record { 0 = n })) (cond (ltb (length kinds) n) (Err (record { 0 = n })) (Ok (kind_by n)))

-- "A refusal is its number and place."
abbrev pub refused : Refusal → ℕ → Reply
refused r p = Err (refused_at r p)

abbrev pub reducible : Reply
reducible = Ok (Ok tt)

abbrev pub violated : Violation → Reply
violated v = Ok (Err v)

-- A number that answers: the refusal's number in the high 32 bits and its place in the low 32; or no refusal, and the count answered.
abbrev pub packed : Refused → ℕ
packed r = refusal_number r.reason * 4294967296 + r.place

abbrev pub answered : Result ℕ Refused → ℕ
answered (Ok n) = n
answered (Err r) = packed r
