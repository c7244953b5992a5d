use Prim.Native.Nat.{◌+◌}
use mathlib.Core.Path.{◌≡◌}
use mathlib.Core.List.{[], ◌∷◌}
use native.Mathlib.Omega.{arith}
use native.Mathlib.Numerals.{add-one}
use lib.ListN.{drop, get_or, drop_of_length-le}
use lib.Seq.{drop-cons}
use Rattle.output.proofs.Laws.{appended_none, appended_more}
use Rattle.sentence.specs.Sentence.{filled}
use Rattle.sentence.proofs.say.Goals as goal

pub loop-byte-init : goal.loop-byte-init
loop-byte-init c = λ text x. x

pub loop-byte-preserved : goal.loop-byte-preserved
unfolding filled
loop-byte-preserved c =
    let i = c.loop-byte.byte-index in
    let t = c.args.sentence.now in
    let e : drop i t ≡ get_or t i 0 ∷ drop (i + 1) t = rw (add-one i) (drop-cons t i 0 (omega arith)) in
    λ text x. c.loop-byte.invariant text (rw e (appended_more c.put_piece.ensures x))

pub returns : goal.returns
unfolding filled
returns c =
    let l = c.loop-byte in
    let e : drop l.byte-index c.args.sentence.now ≡ [] = drop_of_length-le c.args.sentence.now {i = l.byte-index} (omega arith) in
    l.invariant l.out (rw e (appended_none l.out))
