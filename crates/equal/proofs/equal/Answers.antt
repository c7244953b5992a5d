-- The replies of the two checks decide, and then the comparison.
use Rattle.std.specs.Prelude.{Ok, Err}
use Rattle.std.proofs.Common.{rules}
use mathlib.Core.Path.{◌≡◌}
use Rattle.soundness.specs.Soundness.{check_reply}
use Rattle.equal.specs.declared.Side.TheVariants.{Left, Right}
use Rattle.equal.proofs.Sides.{was_ok, was_err}
use Rattle.equal.proofs.equal.Goals as goal

pub returns-in_err-left : goal.returns-in_err-left
returns-in_err-left c =
    let l = was_err _ Left c.sound.result c.map_err.ensures.cases (λ e d p. search rules) c.in_err-left.was in
    let q : c.from_residual.result ≡ Err c.in_err-left.field-0.0 = search rules in
    rw (q, l.2, rw l.1 at c.sound.ensures.err)

pub returns-in_err-right : goal.returns-in_err-right
returns-in_err-right c =
    let l = was_ok _ c.sound.result c.map_err.ensures.cases c.in_ok-left.was in
    let o : check_reply c.args.left.now ≡ Ok tt = rw (rw l at c.sound.ensures.ok) at c.in_ok-left.left.is_sound in
    let r = was_err _ Right c.sound-2.result c.map_err-2.ensures.cases (λ e d p. search rules) c.in_err-right.was in
    let q : c.from_residual-in_err-right.result ≡ Err c.in_err-right.field-0.0 = search rules in
    rw (q, r.2, o, rw r.1 at c.sound-2.ensures.err)

pub returns : goal.returns
returns c =
    let l = was_ok _ c.sound.result c.map_err.ensures.cases c.in_ok-left.was in
    let r = was_ok _ c.sound-2.result c.map_err-2.ensures.cases c.in_ok-right.was in
    let lw = rw l at c.sound.ensures.ok in
    let rw' = rw r at c.sound-2.ensures.ok in
    let o : check_reply c.args.left.now ≡ Ok tt = rw lw at c.in_ok-left.left.is_sound in
    let p : check_reply c.args.right.now ≡ Ok tt = rw rw' at c.in_ok-right.right.is_sound in
    rw (o, p, c.same.ensures, lw, rw')
