use mathlib.Core.Path.{sym, ◌∙◌}
use native.Mathlib.Omega.{arith}
use Rattle.matching.proofs.Passing.{passing_more, passed_mine, passed_all}
use Rattle.matching.proofs.find.Goals as goal

pub loop-i-init : goal.loop-i-init
loop-i-init c = record { onward = omega arith; within = omega arith; passed = λ k a b. absurd (omega arith) }

pub returns-then-words-i : goal.returns-then-words-i
returns-then-words-i c =
    (c.loop-i-test.true, passed_mine c.args.sound.is_sound c.loop-i.invariant c.loop-i-test.true (c.if-words-i.true ∙ c.from-number.ensures))

pub loop-i-preserved : goal.loop-i-preserved
loop-i-preserved c =
    passing_more c.args.sound.is_sound c.loop-i.invariant c.loop-i-test.true (λ e. c.if-words-i.false (e ∙ sym c.from-number.ensures))

pub returns : goal.returns
returns c = passed_all c.args.sound.is_sound c.loop-i.invariant c.loop-i-test.false
