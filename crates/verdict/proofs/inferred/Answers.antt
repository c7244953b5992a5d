use Rattle.std.specs.Prelude.{Err}
use Rattle.std.proofs.Common.{rules}
use mathlib.Core.Path.{◌≡◌, sym, ◌∙◌}
use lib.ListN.{length}
use Rattle.std.proofs.lemmas.List.{length-take-le}
use Rattle.frame.specs.Limits.{variable_count}
use Rattle.guards.specs.Guards.{inferred_guards}
use Rattle.pass.proofs.Judgement.{judged_left}
use Rattle.pass.specs.Pass.{full_sets}
use Rattle.verdict.proofs.Laws.{refused_reply, refused_sets, short_reply, short_sets, judged_reply, judged_sets}
use Rattle.verdict.proofs.inferred.Goals as goal

pub returns-in_err-verdict : goal.returns-in_err-verdict
unfolding inferred_guards full_sets
returns-in_err-verdict c =
    let a = c.args in
    let q : c.from_residual.result ≡ Err c.in_err-verdict.field-0.0 = search rules in
    let e = sym c.judge_recording.ensures.reply ∙ c.in_err-verdict.was in
    record {
      reply = q ∙ sym (refused_reply a.words.now a.sets.now _ e (length a.sets.now));
      contents = sym (refused_sets a.words.now a.sets.now _ e);
    }

pub returns-then-sets-lt-VARIABLES : goal.returns-then-sets-lt-VARIABLES
unfolding inferred_guards full_sets
returns-then-sets-lt-VARIABLES c =
    let a = c.args in
    let e = sym c.judge_recording.ensures.reply ∙ c.in_ok-verdict.was in
    record {
      reply = rw c.at.ensures (sym (short_reply a.words.now a.sets.now _ e c.if-sets-lt-VARIABLES.true));
      contents = sym (short_sets a.words.now a.sets.now _ e c.if-sets-lt-VARIABLES.true);
    }

pub copy_from_slice-requires : goal.copy_from_slice-requires
copy_from_slice-requires c =
    length-take-le variable_count c.args.sets.now c.if-sets-lt-VARIABLES.false ∙ sym c.judge_recording.array_long

pub returns : goal.returns
unfolding inferred_guards full_sets
returns c =
    let a = c.args in
    let j = c.judge_recording in
    let e = sym j.ensures.reply ∙ c.in_ok-verdict.was in
    let s = j.ensures.contents ∙ judged_left inferred_guards full_sets a.words.now _ e in
    record {
      reply = sym (judged_reply a.words.now a.sets.now _ e c.if-sets-lt-VARIABLES.false);
      contents = rw (c.copy_from_slice.ensures.after, s) (sym (judged_sets a.words.now a.sets.now _ e c.if-sets-lt-VARIABLES.false));
    }
