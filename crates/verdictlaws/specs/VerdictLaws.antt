-- The second term, of what users hand in: "With inferred guards a recording is reducible exactly if it is so with some choice of one lock for
-- each accessed variable as its declared guard", where the choice is the text of a guard list; and both sentences of the planner's call, where
-- the recording is a text.
-- Quotes are from docs/FORMAT.md.
use Rattle.std.specs.Prelude.{ℕ, ◌≤◌, ◌<◌, ◌≡◌, ◌↔◌, List, length, get_or, Ok}
use Rattle.frame.specs.Limits.{variable_count}
use Rattle.frame.specs.Frame.{decode_word}
use Rattle.frame.specs.declared.Lock.{Lock}
use Rattle.frame.specs.declared.Frame.{Frame}
use Rattle.text.specs.Text.{scanned, words_to}
use Rattle.guards.specs.Guards.{guards_read, listed_guard}
use Rattle.guards.specs.declared.Guard.TheVariants as guard
use Rattle.guards.specs.Judgement as judgement
use Rattle.soundness.specs.Soundness.{check_reply}
use Rattle.reply.specs.Reply.{reducible}
use Rattle.verdict.specs.Verdict.{verdict_under, inferred_reply}
use Rattle.line.specs.Line.{line_length}
use Rattle.answer.specs.Answer.{text_judged}
use Rattle.trace.specs.Trace.{kind_answer}
use Rattle.rules.specs.Figures.{Accesses, OfTheRules}

-- A frame of the recording reads or writes variable x.
pub record Accessed (ws : List ℕ) (x : ℕ) : Type 0 where
  pub place : ℕ
  pub within : place < length ws
  pub frame : Frame
  pub is : decode_word (get_or ws place 0) ≡ Ok frame
  pub accesses : Accesses frame.action (record { 0 = x })

-- "one lock for each accessed variable": the n lines of the list name a lock for each variable that the recording accesses.
abbrev pub NamesAccessed : List ℕ → ℕ → List ℕ → Type 0
NamesAccessed list n ws = (x : ℕ) → Accessed ws x → (l : Lock) × (listed_guard list n x ≡ guard.Locked l)

-- There is a guard list, of n lines, that is accepted, names a lock for each accessed variable, and with which the recording is reducible.
pub record SomeList (ws : List ℕ) : Type 0 where
  pub list : List ℕ
  pub n : ℕ
  pub accepted : (guards_read list).reply ≡ Ok n
  pub names : NamesAccessed list n ws
  pub judged : verdict_under judgement.Declared list ws ≡ reducible

-- Term 2's second sentence: of the inferred verdict with a table of m candidate sets, and of the one with none, whatever list stands there, as
-- it is not read.
abbrev pub InferredIsSomeList : Type 0
InferredIsSomeList =
    ((ws : List ℕ) (m : ℕ) → variable_count ≤ m → (inferred_reply ws m ≡ reducible ↔ SomeList ws))
    × ((list ws : List ℕ) → (verdict_under judgement.Inferred list ws ≡ reducible ↔ SomeList ws))

-- The same of the planner's call, "recording text in, one verdict line out, guards inferred": with room for the line it returns 0 exactly if
-- the text is read, and there is such a list for the words of its lines.
abbrev pub CheckIsSomeList : Type 0
CheckIsSomeList =
    (s : List ℕ) (room : ℕ) → line_length ≤ room
    → (kind_answer (text_judged s).reply room ≡ 0 ↔ ((n : ℕ) × (scanned s ≡ Ok n) × SomeList (words_to s n)))

-- Term 2's first sentence of the planner's call: its reply to a text that is read, with a sound recording, is that of the rules, where every
-- guard is inferred.
abbrev pub CheckIsOfTheRules : Type 0
CheckIsOfTheRules =
    (s : List ℕ) (n : ℕ) → scanned s ≡ Ok n → check_reply (words_to s n) ≡ (Ok tt)
    → OfTheRules (λ x. guard.Inferred) (words_to s n) (text_judged s).reply
