-- Invariant: writing the locks from the next on behind what is written writes the whole list.
use Prim.Native.Nat.{◌-◌}
use Rattle.frame.specs.Limits.{lock_count}
use Rattle.output.specs.declared.Text.{Text}
use Rattle.output.specs.Output.{listed, Appended}
use Rattle.output.proofs.Text.put_listed.Given as goal

abbrev pub invariant-loop-lock : goal.invariant-loop-lock
invariant-loop-lock l = (text : Text) → Appended l.self text (listed (lock_count - l.lock) l.lock l.rest) → Appended l.initial.self text (listed lock_count 0 l.set)
