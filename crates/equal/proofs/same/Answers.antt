use mathlib.Core.Path.{sym, ◌∙◌}
use native.Mathlib.Omega.{arith}
use borrow.Author.Tests.{ltb-true, ltb-false}
use Rattle.frame.proofs.Laws.{decoded_in_range}
use Rattle.exchange.proofs.Exchange.{exchanges_length}
use Rattle.exchange.proofs.Frames.{apart}
use Rattle.equal.proofs.Exchanges.{no}
use Rattle.equal.proofs.Walk.{walk_start, walk_end, missing, words_differ, too_early, go_on}
use Rattle.equal.proofs.same.Goals as goal

pub returns-then-left-right : goal.returns-then-left-right
returns-then-left-right c = rw (no _ _ (λ x. c.if-left-right.true (exchanges_length apart x)))

pub loop-i-init : goal.loop-i-init
loop-i-init c = rw c.new-lasts.ensures (walk_start _ _ c.if-left-right.false)

pub bounds-next-t : goal.bounds-next-t
bounds-next-t c =
    let f = c.frame-frame.ensures in
    rw c.from-t.ensures (decoded_in_range _ _ f).thread

pub returns-in_default : goal.returns-in_default
returns-in_default c =
    let f = c.frame-frame.ensures in
    rw (missing c.loop-i.invariant c.loop-i-test.true f (rw c.from-t.ensures at c.in_default.ensures) (omega arith))

pub returns-then-right-place : goal.returns-then-right-place
returns-then-right-place c =
    let f = c.frame-frame.ensures in
    rw (words_differ c.loop-i.invariant c.loop-i-test.true f (rw c.from-t.ensures at c.in-Some.ensures.1) c.if-right-place.true)

pub note-requires : goal.note-requires
note-requires c =
    let f = c.frame-frame.ensures in
    (decoded_in_range _ _ f).object

pub returns-then-not-note : goal.returns-then-not-note
returns-then-not-note c =
    let f = c.frame-frame.ensures in
    rw (too_early c.loop-i.invariant c.loop-i-test.true f (rw c.from-t.ensures at c.in-Some.ensures.1) (ltb-false _ _ (sym c.note.ensures.below ∙ c.if-not-note.true)))

pub bounds-next-t-in-loop-i : goal.bounds-next-t-in-loop-i
bounds-next-t-in-loop-i c =
    let f = c.frame-frame.ensures in
    rw c.from-t.ensures (decoded_in_range _ _ f).thread

pub loop-i-preserved : goal.loop-i-preserved
loop-i-preserved c =
    let f = c.frame-frame.ensures in
    rw c.from-t.ensures
    (go_on c.loop-i.invariant c.loop-i-test.true f (rw c.from-t.ensures at c.in-Some.ensures.1) c.in-Some.ensures.0 c.if-right-place.false
    (ltb-true _ _ (sym c.note.ensures.below ∙ c.if-not-note.false)) c.note.ensures.noted)

pub returns : goal.returns
returns c = rw (walk_end c.args.left.is_sound c.loop-i.invariant c.loop-i-test.false)
