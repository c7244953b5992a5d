-- Which frames are independent, by what their actions name.
-- Quotes are from docs/FORMAT.md.
use Rattle.std.specs.Prelude.{Bool, true, false, not, ◌&&◌, eqb}
use Rattle.frame.specs.declared.Lock.{Lock}
use Rattle.frame.specs.declared.Variable.{Variable}
use Rattle.frame.specs.declared.Action.{Action}
use Rattle.frame.specs.declared.Action.TheVariants.{Acquire, Release, Read, Write, Begin, End}
use Rattle.frame.specs.declared.Frame.{Frame}

-- What an action names. "Begin and end touch neither."
pub data Named : Type 0 where
  lock : Lock → Named
  variable : Variable → Named
  neither : Named

abbrev pub named : Action → Named
named (Acquire m) = lock m
named (Release m) = lock m
named (Read x) = variable x
named (Write x) = variable x
named Begin = neither
named End = neither

abbrev pub same_named : Named → Named → Bool
same_named (lock m) (lock k) = eqb m.0 k.0
same_named (lock m) (variable y) = false
same_named (lock m) neither = false
same_named (variable x) (lock k) = false
same_named (variable x) (variable y) = eqb x.0 y.0
same_named (variable x) neither = false
same_named neither n = false

abbrev pub is_read : Action → Bool
is_read (Acquire m) = false
is_read (Release m) = false
is_read (Read x) = true
is_read (Write x) = false
is_read Begin = false
is_read End = false

-- The two name the same lock or the same variable, and do not both read it. "Reads of one variable by different threads are independent
-- too; a read and a write of one variable are not, nor are two writes."
abbrev pub clash : Action → Action → Bool
clash a b = not (is_read a && is_read b) && same_named (named a) (named b)

-- "Two frames are independent if their threads differ and they do not name the same lock or the same variable. Begin and end touch neither.
-- Reads of one variable by different threads are independent too; a read and a write of one variable are not, nor are two writes. Frames of
-- one thread keep their sequence."
abbrev pub independent : Frame → Frame → Bool
independent f g = not (eqb f.thread.0 g.thread.0) && not (clash f.action g.action)
