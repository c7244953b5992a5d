-- Invariant: scanning the whole text is scanning it from line i on, and the words of the first i lines are written.
use Prim.Native.Nat.{◌-◌}
use mathlib.Core.Path.{◌≡◌}
use mathlib.Core.List.{◌++◌}
use lib.ListN.{drop}
use Rattle.frame.specs.Limits.{most_frames}
use Rattle.text.specs.Text.{scan_from, words_to}
use Rattle.text.proofs.read_into.Given as goal

abbrev pub invariant-loop-i : goal.invariant-loop-i
invariant-loop-i l = record {
  rest : scan_from most_frames l.s 0 ≡ scan_from (most_frames - l.i) l.s l.i;
  words : l.words ≡ words_to l.s l.i ++ drop l.i l.initial.words;
}
