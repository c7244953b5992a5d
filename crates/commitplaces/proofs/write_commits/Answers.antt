use Prim.Native.Nat.{◌≤◌}
use mathlib.Core.Path.{refl, sym, ◌∙◌}
use native.Mathlib.Omega.{arith}
use borrow.Author.Tests.{le-leb}
use lib.ListN.{length}
use lib.Seq.{set_out}
use Rattle.frame.specs.Limits.{most_frames}
use Rattle.frame.proofs.Laws.{decoded_in_range}
use Rattle.commitplaces.proofs.Turns.{begins, done, stops, next}
use Rattle.commitplaces.proofs.write_commits.Goals as goal
use Rattle.commitplaces.proofs.write_commits.Goals.{in-Some+then-start-commits, in-Some+else-start-commits, in_default-visit}

pub loop-i-init : goal.loop-i-init
loop-i-init c = rw c.new-units.ensures (begins _ _ _)

pub returns-in_default : goal.returns-in_default
returns-in_default c =
    let fits : length c.args.words.now ≤ most_frames = omega (arith, c.if-words-gt-MOST.false) in
    rw (le-leb _ _ fits) (stops c.loop-i.invariant c.loop-i-test.true (sym c.try_from.ensures ∙ c.in_default.is))

pub visit-requires-clause-in_range : goal.visit-requires-clause-in_range
visit-requires-clause-in_range c = decoded_in_range _ _ (sym c.try_from.ensures ∙ c.in-Ok.is)

pub loop-i-preserved : goal.loop-i-preserved
loop-i-preserved c =
    let l = c.loop-i in
    let d = sym c.try_from.ensures ∙ c.in-Ok.is in
    let v = c.visit.ensures in
    elim c.match-visit.branch [
      | in-Some+then-start-commits w ↦ rw w.commits-is (next l.invariant c.loop-i-test.true d (sym w.in-Some.is ∙ v.start) v.units refl)
      | in-Some+else-start-commits w ↦ rw w.commits-is (next l.invariant c.loop-i-test.true d (sym w.in-Some.is ∙ v.start) v.units (sym (set_out _ _ _ w.if-start-commits.false)))
      | in_default-visit w ↦ rw w.commits-is (next l.invariant c.loop-i-test.true d (sym w.in_default-visit.is ∙ v.start) v.units refl)
    ]

pub returns : goal.returns
returns c =
    let short : length c.args.words.now ≤ most_frames = omega (arith, c.if-words-gt-MOST.false) in
    rw (le-leb _ _ short) (done c.loop-i.invariant c.loop-i-test.false)
