-- Invariant: the earliest of all threads is that of the threads from t on and the least so far.
use Rattle.std.specs.Prelude.{None}
use Prim.Native.Nat.{◌-◌}
use mathlib.Core.Path.{◌≡◌}
use Rattle.frame.specs.Limits.{thread_count}
use Rattle.pass.specs.Pass.{first_open_from}
use Rattle.pass.proofs.earliest_open.Given as goal

abbrev pub invariant-loop-t : goal.invariant-loop-t
invariant-loop-t l = first_open_from thread_count 0 None l.depths l.begins ≡ first_open_from (thread_count - l.t) l.t l.least l.depths l.begins
