-- The third term: one claim over whole recordings, about the definitions that the calls' contracts cite. What `equal::equal` answers is
-- `equal_reply`; what `order::order` answers and leaves in the output is `order_under`, `out_under`. In this order: a request, its refusal and
-- its answer; the term; that 14 has one place.
-- Quotes are from docs/FORMAT.md.
use Rattle.std.specs.Prelude.{ℕ, ◌≤◌, ◌<◌, ◌≡◌, ◌↔◌, List, ◌++◌, length, drop, Result, Ok, Err, true}
use Rattle.frame.specs.Refusal.{refused_at}
use Rattle.frame.specs.declared.Refused.{Refused}
use Rattle.frame.specs.declared.Refusal.{Refusal}
use Rattle.frame.specs.declared.Refusal.TheVariants as refusal
use Rattle.guards.specs.Guards.{guards_under}
use Rattle.guards.specs.Judgement.{Judgement}
use Rattle.soundness.specs.Soundness.{check_reply}
use Rattle.reply.specs.Reply.{violated}
use Rattle.reply.specs.declared.Violation.{Violation}
use Rattle.pass.specs.Pass.{full_sets, judgement}
use Rattle.rules.specs.Choice.{Reducible}
use Rattle.exchange.specs.Exchange.{Exchanges, independent_words}
use Rattle.equal.specs.Equal.{equal_reply}
use Rattle.serial.specs.Order.{serial_words, Closed, Open, FirstOpen, Contiguous}
use Rattle.order.specs.Order.{order_under, out_under}

abbrev pub Sound : List ℕ → Type 0
Sound ws = check_reply ws ≡ (Ok tt)

-- A request on the recording ws, for what has an element for each of its frames: `made`, into the lent buffer `out`. `list` is what reading
-- the guard list answers, `table` the guards, `short` the refusal of a buffer that is shorter than the recording.
module _ {A : Type 0} (short : Refusal) (list : Result ℕ Refused) (table ws : List ℕ) (made out : List A) where
  -- It is refused by the table of refusals, in the order of the tests: each where none before it is met.
  pub data RefusedBy : Result ℕ Refused → Type 0 where
    in_list : {x : Refused} → list ≡ Err x → RefusedBy (Err x)
    in_recording : {n : ℕ} {x : Refused} → list ≡ Ok n → check_reply ws ≡ Err x → RefusedBy (Err x)
    -- "13: not reducible; violating frame"
    irreducible : {n : ℕ} {v : Violation} → list ≡ Ok n → (judgement table full_sets ws).reply ≡ violated v → RefusedBy (Err (refused_at refusal.Irreducible v.frame))
    -- "14: a block still open at the end; smallest place of an open outermost begin"
    still_open : {n b : ℕ} → list ≡ Ok n → Reducible table ws → FirstOpen ws b → RefusedBy (Err (refused_at refusal.OpenBlock b))
    -- 15 or 21: "its length", "the recording's length"
    no_room : {n : ℕ} → list ≡ Ok n → Reducible table ws → Closed ws → length out < length ws → RefusedBy (Err (refused_at short (length ws)))

  -- Its reply r, and what is left in the buffer: "the reply is that length", and what was asked for; or a refusal, which changes nothing.
  pub record Asked (r : Result ℕ Refused) (left : List A) : Type 0 where
    pub length_exactly_if : r ≡ Ok (length ws) ↔ (n : ℕ) × (list ≡ Ok n) × Reducible table ws × Closed ws × (length ws ≤ length out)
    pub written : r ≡ Ok (length ws) → left ≡ made ++ drop (length ws) out
    pub refused_by : (r ≡ Ok (length ws) → ⊥) → RefusedBy r × (left ≡ out)

-- "Equal exactly if exchanges lead from one to the other; and the serial order of every reducible, closed recording is equal to it, with no
-- other thread's frame inside a block." Guards of every kind, by any table. "The order can be asked for with declared or inferred guards."
abbrev pub ThirdTerm : Type 0
ThirdTerm =
    ((left right : List ℕ) → equal_reply left right ≡ Ok true ↔ Sound left × Sound right × Exchanges independent_words left right)
    × ((table ws : List ℕ) → Reducible table ws → Closed ws
    → (equal_reply ws (serial_words table ws) ≡ Ok true) × Contiguous (λ t. 0) (serial_words table ws))
    × ((j : Judgement) (list ws out : List ℕ)
    → Asked refusal.OutputBuffer (guards_under j list).reply (guards_under j list).table ws (serial_words (guards_under j list).table ws) out
    (order_under j list ws (length out)) (out_under j list ws out))

-- "smallest place of an open outermost begin": a thread has one block at most that is open at the end, and so 14 has one place.
abbrev pub OneFirstOpen : Type 0
OneFirstOpen =
    ((ws : List ℕ) (t b c : ℕ) → Open ws t b → Open ws t c → b ≡ c)
    × ((ws : List ℕ) (b c : ℕ) → FirstOpen ws b → FirstOpen ws c → b ≡ c)
