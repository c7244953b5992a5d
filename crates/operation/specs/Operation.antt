-- An action as the rules see it, by the guard of the variable that it accesses.
-- Quotes are from docs/FORMAT.md.
use Rattle.std.specs.Prelude.{ℕ, List, get_or}
use Rattle.frame.specs.declared.Lock.{Lock}
use Rattle.frame.specs.declared.Variable.{Variable}
use Rattle.frame.specs.declared.Action.{Action}
use Rattle.frame.specs.declared.Action.TheVariants as action
use Rattle.guards.specs.Guards.{guard_of}
use Rattle.guards.specs.declared.Guard.{Guard}
use Rattle.guards.specs.declared.Guard.TheVariants as guard
use Rattle.soundness.specs.declared.Level.{Level}
use Rattle.soundness.specs.declared.Level.TheVariants as level
use Rattle.operation.specs.declared.Operation.{Operation}
use Rattle.operation.specs.declared.Operation.TheVariants.{Acquire, Release, Protected, Unprotected, Inferred, Begin, End}

-- An action as the rules see it, by the guard of the variable that it accesses; `guards` has the code of each variable's guard.
abbrev pub guarded_access : Guard → Variable → Operation
guarded_access (guard.Locked m) v = Protected m
guarded_access guard.Unprotected v = Unprotected
guarded_access guard.Inferred v = Inferred v

abbrev pub access_of : List ℕ → Variable → Operation
access_of guards v = guarded_access (guard_of (get_or guards v.0 0)) v

-- "An inner acquire and an inner release move both ways": they are to the rules what an access is under that very lock, which its thread
-- holds.
abbrev pub at_level : Level → Operation → Lock → Operation
at_level level.Outer o l = o
at_level level.Inner o l = Protected l

abbrev pub operation_of : List ℕ → Level → Action → Operation
operation_of guards x (action.Acquire l) = at_level x (Acquire l) l
operation_of guards x (action.Release l) = at_level x (Release l) l
operation_of guards x (action.Read v) = access_of guards v
operation_of guards x (action.Write v) = access_of guards v
operation_of guards x action.Begin = Begin
operation_of guards x action.End = End
