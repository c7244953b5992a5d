use mathlib.Core.Path.{◌≡◌}
use native.Mathlib.Omega.{arith}
use Rattle.std.proofs.Common.{rules}
use Rattle.frame.specs.Limits.{most_frames}
use Rattle.text.specs.Text.{words_to}
use Rattle.text.proofs.Laws.{scan_line, full_reached, line_word, words_turn, reached_behind}
use Rattle.text.proofs.read_into.Goals as goal

pub loop-i-init : goal.loop-i-init
unfolding words_to
loop-i-init c = search rules

pub returns-in_err-w-clause-reply : goal.returns-in_err-w-clause-reply
returns-in_err-w-clause-reply c =
    let e = scan_line c.args.s.now c.loop-i.i c.loop-i-test.true in
    search (rules, e)

pub returns-in_default-clause-reply : goal.returns-in_default-clause-reply
returns-in_default-clause-reply c =
    let e = scan_line c.args.s.now c.loop-i.i c.loop-i-test.true in
    search (rules, e)

pub bounds-words-i : goal.bounds-words-i
bounds-words-i c =
    let r = reached_behind c.args.s.now c.loop-i.i c.in-Some.w c.loop-i-test.true c.loop-i.invariant.rest (search rules) in
    omega (arith, r)

pub loop-i-preserved : goal.loop-i-preserved
loop-i-preserved c =
    let l = c.loop-i in
    let s = c.args.s.now in
    let e = scan_line s l.i c.loop-i-test.true in
    let w = line_word s l.i c.in-Some.w (search rules) in
    let r = reached_behind s l.i c.in-Some.w c.loop-i-test.true l.invariant.rest (search rules) in
    record {
      rest = search (rules, e);
      words = rw l.invariant.words (words_turn s c.args.words.now l.i c.in-Some.w (omega (arith, r)) w);
    }

pub returns-clause-contents : goal.returns-clause-contents
returns-clause-contents c =
    let e : c.loop-i.i ≡ most_frames = omega arith in
    rw (c.full.ensures, full_reached c.args.s.now) (rw e at c.loop-i.invariant.words)
