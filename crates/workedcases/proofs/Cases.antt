-- Every row holds: antt computes each verdict from the definitions.
use mathlib.Core.Path.{refl}
use Rattle.verdict.specs.Verdict.{verdict_under, inferred_reply}
use Rattle.frame.specs.Frame.{decode_parts}
use Rattle.text.specs.Text.{word_at, scan_from, words_to}
use Rattle.digits.specs.Digits.{digit_of, digits_value, line_of, byte_of, digits}
use Rattle.guards.specs.Guards.{guards_from, inferred_guards}
use Rattle.soundness.specs.Soundness.{step_action, check_from, start}
use Rattle.instrumented.specs.Rules.{judge_operation}
use Rattle.pass.specs.Pass.{judge_from, start_judging, full_sets, judgement}
use Rattle.line.specs.Line.{fields_line}
use Rattle.output.specs.Output.{bytes}
use Rattle.answer.specs.Answer.{text_judged}
use Rattle.exchange.specs.Pull.{pull, pull_all}
use Rattle.serial.specs.Order.{commit_from, commits_from, unit_at, units_from}
use Rattle.displacement.specs.Displacement.{places_from, index_of, displacements}
use Rattle.workedcases.specs.Cases.{AllRowsHold}

pub all_rows_hold : AllRowsHold
unfolding decode_parts digit_of digits_value line_of word_at scan_from words_to guards_from step_action check_from start judge_operation judge_from start_judging full_sets judgement verdict_under inferred_guards inferred_reply byte_of digits fields_line bytes text_judged pull pull_all commit_from commits_from unit_at units_from places_from index_of displacements
all_rows_hold = refl
