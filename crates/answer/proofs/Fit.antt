-- The places of every reply of the verdicts are at most the most frames, or absent: their digits hold them.
use Rattle.std.specs.Prelude.{Result, Ok, Err, Option, Some, None}
use Prim.Native.Nat.{ℕ, ◌+◌, ◌≤◌, ◌<◌}
use mathlib.Core.Path.{◌≡◌, refl, subst}
use mathlib.Core.List.{List, []}
use native.Mathlib.Omega.{arith}
use lib.Dec.{ltb}
use lib.ListN.{length}
use Rattle.verdict.specs.Verdict.{on_guards, verdict_under, inferred_end, with_table, inferred_reply}
use Rattle.laws.proofs.Logic.{either}
use Rattle.frame.specs.Limits.{variable_count, most_frames}
use Rattle.frame.specs.Refusal.{refusal_number}
use Rattle.frame.specs.declared.Refused.{Refused}
use Rattle.frame.specs.declared.Refusal.TheVariants as refusal
use Rattle.text.specs.Text.{scanned, reached, words_to}
use Rattle.text.proofs.Laws.{length_words_to, reached_limit}
use Rattle.guards.specs.Guards.{inferred_guards, guards_under}
use Rattle.guards.specs.Judgement.{Judgement, Inferred}
use Rattle.guards.proofs.Named.{under_place}
use Rattle.reply.specs.Reply.{Reply}
use Rattle.pass.specs.Pass.{full_sets, judgement}
use Rattle.pass.proofs.Judgement.{judgement_fits}
use Rattle.pass.proofs.Places.{MarkUpTo, ReplyBelow, judgement_places}
use Rattle.line.specs.Line.{MarkTold, bare_fields, reply_fields, place_width}
use Rattle.answer.specs.Answer.{on_read, text_judged, PlacesFit, RepliesFit}

-- the places of a reply's line are held whole
abbrev Fit : Reply → ℕ → Type 0
Fit r n = PlacesFit (reply_fields r n)

mark_fit : (m : Option ℕ) (i : ℕ) → i < most_frames → MarkUpTo i m → MarkTold place_width m
mark_fit (Some k) i h b = omega arith
mark_fit None i h b = tt

-- fields of a place alone
bare_fit : (k p : ℕ) → p ≤ most_frames → PlacesFit (bare_fields k p)
bare_fit k p h = record { frame = omega arith; begin = tt; commit = tt }

refused_fit : (x : Refused) (n : ℕ) → x.place ≤ most_frames → Fit (Err x) n
refused_fit x n h = bare_fit (128 + refusal_number x.reason) x.place h

judgement_fit : (codes ws : List ℕ) → Fit (judgement codes full_sets ws).reply (length ws)
judgement_fit codes ws = go (judgement codes full_sets ws).reply refl (judgement_places codes full_sets ws)
  where
    go : (r : Reply) → (judgement codes full_sets ws).reply ≡ r → ReplyBelow most_frames r → Fit r (length ws)
    go (Err x) e b = refused_fit x (length ws) b
    go (Ok (Ok _)) e b = bare_fit 0 (length ws) (judgement_fits codes full_sets ws (Ok tt) e)
    go (Ok (Err v)) e b = record {
      frame = omega (arith, b.frame);
      begin = mark_fit v.begin v.frame b.frame b.begin;
      commit = mark_fit v.commit v.frame b.frame b.commit;
    }

verdict_fit : (j : Judgement) (list ws : List ℕ) → Fit (verdict_under j list ws) (length ws)
unfolding verdict_under
verdict_fit j list ws = go (guards_under j list).reply refl
  where
    go : (q : Result ℕ Refused) → (guards_under j list).reply ≡ q → Fit (on_guards q (judgement (guards_under j list).table full_sets ws).reply) (length ws)
    go (Ok n) e = judgement_fit (guards_under j list).table ws
    go (Err x) e = refused_fit x (length ws) (under_place j list x e)

inferred_fit : (ws : List ℕ) (n : ℕ) → Fit (inferred_reply ws n) (length ws)
unfolding inferred_reply
inferred_fit ws n = go (inferred_end ws).reply (judgement_fit inferred_guards ws)
  where
    go : (r : Reply) → Fit r (length ws) → Fit (with_table r n) (length ws)
    go (Err x) f = f
    go (Ok v) f = either (λ r. Fit r (length ws)) (ltb n variable_count) (refused_fit (record { reason = refusal.SetTable; place = variable_count }) (length ws) (omega arith)) f

text_fit : (s : List ℕ) → Fit (text_judged s).reply (text_judged s).frames
unfolding text_judged
text_fit s = go (scanned s) (reached_limit s)
  where
    go : (q : Result ℕ Refused) → reached q ≤ most_frames → Fit (on_read q s).reply (on_read q s).frames
    go (Ok n) h = subst (Fit (verdict_under Inferred [] (words_to s n))) (length_words_to s n) (verdict_fit Inferred [] (words_to s n))
    go (Err r) h = refused_fit r 0 h

-- The digits of a place hold every one.
pub replies_fit : RepliesFit
replies_fit = (text_fit, verdict_fit, inferred_fit)
