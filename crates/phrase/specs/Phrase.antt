-- What sentences name. Lines count from 1 and places, in brackets, from 0.
use Rattle.std.specs.Prelude.{ℕ, ◌+◌, cond, List, ◌++◌, eqb, Result, Ok, Err}
use Rattle.frame.specs.declared.Action.{Action}
use Rattle.frame.specs.declared.Action.TheVariants as action
use Rattle.frame.specs.declared.Variable.{Variable}
use Rattle.output.specs.Output.{bytes, decimal}
use Rattle.phrase.specs.declared.Source.{Source}
use Rattle.phrase.specs.declared.Source.TheVariants as source
use Rattle.frame.specs.declared.Refusal.{Refusal}
use Rattle.frame.specs.declared.Frame.{Frame}

-- What the numbers of `enum trace_source` (include/trace_library.h) name.
abbrev pub source_named : ℕ → Source
source_named n =
    cond (eqb n 0) source.Recording
    (cond (eqb n 1) source.GuardList (cond (eqb n 2) source.Left (cond (eqb n 3) source.Right source.Text)))

-- SOURCE: "of a kept line also the text" (docs/TOOL.md).
unfoldable pub source_text : Source → List ℕ
source_text source.Recording = bytes "the recording"
source_text source.GuardList = bytes "the guard list"
source_text source.Left = bytes "the left recording"
source_text source.Right = bytes "the right recording"
source_text source.Text = bytes "the text"

-- "line LINE [PLACE]": "PLACE is a place counted from 0, LINE that place plus 1; both are decimal" (docs/TOOL.md)
unfoldable pub line_text : ℕ → List ℕ
line_text p = bytes "line " ++ (decimal (p + 1) ++ (bytes " [" ++ (decimal p ++ bytes "]")))

unfoldable pub action_text : Action → List ℕ
action_text (action.Acquire l) = bytes "acquire of lock " ++ decimal l.0
action_text (action.Release l) = bytes "release of lock " ++ decimal l.0
action_text (action.Read v) = bytes "read of variable " ++ decimal v.0
action_text (action.Write v) = bytes "write of variable " ++ decimal v.0
action_text action.Begin = bytes "begin"
action_text action.End = bytes "end"

-- What a frame does.
unfoldable pub decoded_text : Result Frame Refusal → List ℕ
decoded_text (Ok f) = action_text f.action
decoded_text (Err r) = bytes "no frame"

abbrev pub accessed : Action → Variable
accessed (action.Acquire l) = record { 0 = 0 }
accessed (action.Release l) = record { 0 = 0 }
accessed (action.Read v) = v
accessed (action.Write v) = v
accessed action.Begin = record { 0 = 0 }
accessed action.End = record { 0 = 0 }

-- The variable that a frame reads or writes; 0 where there is none, which no sentence shows.
abbrev pub variable_in : Result Frame Refusal → Variable
variable_in (Ok f) = accessed f.action
variable_in (Err r) = record { 0 = 0 }
