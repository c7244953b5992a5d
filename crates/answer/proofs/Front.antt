-- The first bytes of a text decide what is answered: an accepted text has no more, and of another the refusal is the same.
use Rattle.std.specs.Prelude.{Result, Ok, Err}
use Prim.Native.Nat.{ℕ, ◌+◌}
use mathlib.Core.Path.{◌≡◌, refl, ap, ◌∙◌}
use mathlib.Core.List.{List}
use native.Mathlib.Omega.{arith}
use lib.ListN.{take}
use lib.Seq.{take_all}
use Rattle.text.specs.Text.{scanned, most_bytes}
use Rattle.text.proofs.Laws.{scan_length, scan_limit}
use Rattle.text.proofs.Front.{first_bytes_decide}
use Rattle.answer.specs.Answer.{on_read, text_judged, FirstBytesDecideAnswers}
use Rattle.frame.specs.declared.Refused.{Refused}

pub first_bytes_decide_answers : FirstBytesDecideAnswers
unfolding text_judged
first_bytes_decide_answers s = ap (λ (q : Result ℕ Refused). on_read q (take (most_bytes + 1) s)) (first_bytes_decide s) ∙ go (scanned s) refl
  where
    go : (q : Result ℕ Refused) → scanned s ≡ q → on_read q (take (most_bytes + 1) s) ≡ on_read q s
    go (Ok n) e = ap (λ (t : List ℕ). on_read (Ok n) t) (take_all (most_bytes + 1) s (omega (arith, scan_length s n e, scan_limit s n e)))
    go (Err r) e = refl
