use Rattle.std.specs.Prelude.{Ok}
use mathlib.Core.Path.{sym, ◌∙◌}
use native.Mathlib.Omega.{arith}
use lib.ListN.{length}
use Rattle.pass.specs.Pass.{full_sets}
use Rattle.pass.proofs.Judgement.{judgement_sound, judgement_fits}
use Rattle.order.specs.Order.{reply_under, written_under}
use Rattle.order.proofs.Laws.{accepted, walked, walk_long}
use Rattle.order.proofs.write.Goals as goal

pub invariant_of-write : goal.invariant_of-write
invariant_of-write g c =
    let ws = c.args.words.now in
    let guards = c.guards.new.table in
    let a = accepted g.E.Entry.SHORT guards ws _ _ (sym (rw c.SHORT.ensures at c.check.ensures) ∙ c.in_ok-count.was) in
    record { is_sound = judgement_sound guards full_sets ws (Ok tt) a.reducibly }

pub write-requires : goal.write-requires
write-requires g c =
    let ws = c.args.words.now in
    let guards = c.guards.new.table in
    let a = accepted g.E.Entry.SHORT guards ws _ _ (sym (rw c.SHORT.ensures at c.check.ensures) ∙ c.in_ok-count.was) in
    let long = walk_long guards ws a.reducibly a.closed in
    λ o p h k. g.met.E.Entry.enough o p (length ws) (length c.args.table.now) (judgement_fits guards full_sets ws (Ok tt) a.reducibly) a.fits (omega (arith, h, long)) k

pub returns-clause-contents : goal.returns-clause-contents
unfolding reply_under written_under
returns-clause-contents g c =
    let guards = c.guards.new.table in
    let read = sym c.guards.ensures.reply ∙ c.in_ok-guards.was in
    let done = sym (rw c.SHORT.ensures at c.check.ensures) ∙ c.in_ok-count.was in
    let a = accepted g.E.Entry.SHORT guards c.args.words.now _ _ done in
    rw (read, ← c.guards.ensures.table, done) (c.write.ensures ∙ rw (walked guards c.args.words.now a.reducibly a.closed))
