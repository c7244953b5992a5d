use Prim.Native.Nat.{◌+◌}
use mathlib.Core.Path.{◌≡◌}
use mathlib.Core.List.{[], ◌∷◌, ◌++◌}
use native.Mathlib.Omega.{arith}
use native.Mathlib.Numerals.{add-one}
use lib.ListN.{take, get_or}
use lib.Seq.{take-suc}
use Rattle.output.proofs.Laws.{appended_none, appended_more}
use Rattle.output.proofs.Text.put_text.Goals as goal

pub loop-byte-init : goal.loop-byte-init
loop-byte-init c = appended_none _

pub loop-byte-preserved : goal.loop-byte-preserved
loop-byte-preserved c =
    let i = c.loop-byte.byte-index in
    let t = c.args.text.now in
    let e : take (i + 1) t ≡ take i t ++ (get_or t i 0 ∷ []) = rw (add-one i) (take-suc t i 0 (omega arith)) in
    rw e (appended_more c.loop-byte.invariant c.put_byte.ensures)
