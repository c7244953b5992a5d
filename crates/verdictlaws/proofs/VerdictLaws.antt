-- The second term over what is handed in. In this order: the verdicts by their tables; the claim of guard lists, from a choice of locks to a
-- list and back; the planner's call.
use Rattle.std.specs.Prelude.{Result, Ok, Err}
use Prim.Native.Nat.{ℕ, ◌≤◌}
use mathlib.Core.Path.{◌≡◌, refl, sym, ap, ◌∙◌}
use mathlib.Core.List.{List, []}
use native.Mathlib.Omega.{arith}
use borrow.Author.Tests.{le-ltb}
use lib.ListN.{get_or}
use Rattle.laws.proofs.Logic.{never}
use Rattle.frame.specs.Limits.{variable_count}
use Rattle.text.specs.Text.{scanned, words_to}
use Rattle.guards.specs.Guards.{guards_read}
use Rattle.guards.specs.Judgement as judgement
use Rattle.guards.proofs.Named.{listed_guard_lem}
use Rattle.reply.specs.Reply.{kind_number, reducible, Reply}
use Rattle.reply.specs.declared.Kind.{Kind}
use Rattle.reply.specs.declared.Kind.TheVariants as kind
use Rattle.pass.specs.Pass.{full_sets}
use Rattle.pass.proofs.Judgement.{judgement_sound}
use Rattle.verdict.specs.Verdict.{verdict_under, inferred_end, inferred_reply}
use Rattle.verdict.proofs.Laws.{own_table}
use Rattle.line.specs.Line.{line_length}
use Rattle.answer.specs.Answer.{reply_kind, text_judged}
use Rattle.trace.specs.Trace.{kind_answer}
use Rattle.rules.specs.Choice.{Choice, Reducible}
use Rattle.rules.specs.Figures.{guarding}
use Rattle.rules.proofs.Choice.{inferred_verdict_is_some_choice}
use Rattle.rules.proofs.Figures.{verdict_is_of_the_rules, inferred_is_of_the_rules, accepted, with_room}
use Rattle.verdictlaws.specs.VerdictLaws.{Accessed, SomeList, InferredIsSomeList, CheckIsSomeList, CheckIsOfTheRules}
use Rattle.verdictlaws.proofs.Alike.{accessed_in_range, same_accessed}
use Rattle.verdictlaws.proofs.Lists.{naming, naming_accepted, naming_table, naming_names, lock_code, table_locks, table_choice, table_locks_lem}
use Rattle.frame.specs.declared.Refused.{Refused}

-- the inferred verdict is the same with every table that has room, and with none
same_room : (ws : List ℕ) (m : ℕ) → variable_count ≤ m → inferred_reply ws m ≡ inferred_reply ws variable_count
same_room ws m h = with_room ws m h ∙ sym (with_room ws variable_count (omega arith))

on_words : (list ws : List ℕ) → verdict_under judgement.Inferred list ws ≡ inferred_reply ws variable_count
unfolding verdict_under inferred_reply
on_words list ws = own_table (inferred_end ws).reply

-- a recording that is reducible with a table of guards is so with another that agrees on what it accesses
module _ (ws g k : List ℕ) (same : (x : ℕ) → Accessed ws x → guarding g x ≡ guarding k x) where
  reducible_alike : Reducible g ws → Reducible k ws
  reducible_alike r =
      let sound = judgement_sound g full_sets ws (Ok tt) r in
      (verdict_is_of_the_rules k ws sound).0.1 (same_accessed (guarding g) (guarding k) same ((verdict_is_of_the_rules g ws sound).0.0 r))

-- the list that names a chosen lock for each variable
to_list : (ws : List ℕ) → inferred_reply ws variable_count ≡ reducible → SomeList ws
to_list ws r = made ((inferred_verdict_is_some_choice ws).0 r)
  where
    made : (locks : List ℕ) × Choice locks × Reducible locks ws → SomeList ws
    made (locks, c, d) =
        let l = naming locks c.small variable_count (omega arith) in
        record {
          list = l;
          n = variable_count;
          accepted = naming_accepted locks c.small variable_count (omega arith);
          names = λ x a. (record { 0 = get_or locks x 0 }, naming_names locks c.small variable_count (omega arith) x (accessed_in_range ws x a));
          judged =
              accepted l ws variable_count (naming_accepted locks c.small variable_count (omega arith))
              ∙ reducible_alike ws locks (guards_read l).table
              (λ x a.
              lock_code (get_or locks x 0) (c.small x)
              ∙ sym (naming_table locks c.small variable_count (omega arith) x (accessed_in_range ws x a)))
              d;
        }

-- the locks that a list names are a choice
from_list : (ws : List ℕ) → SomeList ws → inferred_reply ws variable_count ≡ reducible
from_list ws a =
    let table = (guards_read a.list).table in
    (inferred_verdict_is_some_choice ws).1 (
      table_locks table,
      table_choice table,
      reducible_alike ws table (table_locks table)
          (λ x c.
          let h = accessed_in_range ws x c in
          let l = a.names x c in
          table_locks_lem table x l.0 h (sym (listed_guard_lem a.list a.n a.accepted x h) ∙ l.1))
          (sym (accepted a.list ws a.n a.accepted) ∙ a.judged),
    )

-- "With inferred guards a recording is reducible exactly if it is so with some choice of one lock for each accessed variable as its declared
-- guard."
pub inferred_is_some_list : InferredIsSomeList
inferred_is_some_list = (
  λ ws m h. (λ r. to_list ws (sym (same_room ws m h) ∙ r), λ a. same_room ws m h ∙ from_list ws a),
  λ list ws. (λ r. to_list ws (sym (on_words list ws) ∙ r), λ a. on_words list ws ∙ from_list ws a),
)

-- the kind of a reply is 0 exactly if it is reducible
kind_zero : (r : Reply) → reply_kind r ≡ 0 → r ≡ reducible
kind_zero (Err x) e = absurd (omega arith)
kind_zero (Ok (Ok _)) e = refl
kind_zero (Ok (Err v)) e = absurd (some v.kind e)
  where
    some : (k : Kind) → kind_number k ≡ 0 → ⊥
    some kind.GuardNotHeld z = omega arith
    some kind.UnprotectedAfterCommit z = omega arith
    some kind.AcquireAfterCommit z = omega arith
    some kind.SetEmptied z = omega arith

-- with room for the line the answer is the kind
with_line : (r : Reply) (room : ℕ) → line_length ≤ room → kind_answer r room ≡ reply_kind r
with_line r room h = rw (le-ltb room line_length h)

-- the reply to a text that is read is the inferred verdict on the words of its lines
text_read : (s : List ℕ) (n : ℕ) → scanned s ≡ Ok n → (text_judged s).reply ≡ verdict_under judgement.Inferred [] (words_to s n)
unfolding text_judged
text_read s n e = rw e

-- a text with a reducible recording is read
text_reducible : (s : List ℕ) → (text_judged s).reply ≡ reducible → (n : ℕ) × (scanned s ≡ Ok n)
unfolding text_judged
text_reducible s e = go (scanned s) refl
  where
    go : (q : Result ℕ Refused) → scanned s ≡ q → (n : ℕ) × (scanned s ≡ Ok n)
    go (Ok n) f = (n, f)
    go (Err x) f = let z : Err x ≡ reducible = rw f at e in never (cc)

-- The same of the planner's call.
pub check_is_some_list : CheckIsSomeList
check_is_some_list s room h = (
  λ e.
      let r : (text_judged s).reply ≡ reducible = kind_zero (text_judged s).reply (sym (with_line (text_judged s).reply room h) ∙ e) in
      let q = text_reducible s r in
      (q.0, q.1, (inferred_is_some_list.1 [] (words_to s q.0)).0 (sym (text_read s q.0 q.1) ∙ r)),
  λ (n, e, a). with_line (text_judged s).reply room h ∙ ap reply_kind (text_read s n e ∙ (inferred_is_some_list.1 [] (words_to s n)).1 a),
)

-- And its reply is that of the rules.
pub check_is_of_the_rules : CheckIsOfTheRules
check_is_of_the_rules s n e sound =
    rw (text_read s n e, on_words [] (words_to s n)) (inferred_is_of_the_rules (words_to s n) variable_count sound (omega arith))
