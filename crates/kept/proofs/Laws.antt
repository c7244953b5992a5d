-- The fields of a reply tell it.
use Rattle.std.specs.Prelude.{Ok, Err}
use Prim.Native.Nat.{ℕ}
use mathlib.Core.Path.{◌≡◌, refl}
use Rattle.frame.specs.declared.Refusal.{Refusal}
use Rattle.frame.specs.declared.Refusal.TheVariants as refusal
use Rattle.reply.specs.Reply.{violated, refused, Reply}
use Rattle.reply.specs.declared.Kind.{Kind}
use Rattle.reply.specs.declared.Kind.TheVariants as kind
use Rattle.reply.specs.declared.Violation.{Violation}
use Rattle.line.specs.Line.{reply_fields}
use Rattle.kept.specs.Kept.{kept_by, kept_reply}

refusal_told : (r : Refusal) (p n : ℕ) → kept_reply (reply_fields (refused r p) n) ≡ Ok (refused r p)
unfolding kept_by
refusal_told refusal.Line p n = refl
refusal_told refusal.TooLong p n = refl
refusal_told refusal.WordBuffer p n = refl
refusal_told refusal.Operation p n = refl
refusal_told refusal.Thread p n = refl
refusal_told refusal.Object p n = refl
refusal_told refusal.LockTaken p n = refl
refusal_told refusal.LockNotHeld p n = refl
refusal_told refusal.TooDeep p n = refl
refusal_told refusal.NoOpenBlock p n = refl
refusal_told refusal.GuardRange p n = refl
refusal_told refusal.GuardRepeated p n = refl
refusal_told refusal.Irreducible p n = refl
refusal_told refusal.OpenBlock p n = refl
refusal_told refusal.OutputBuffer p n = refl
refusal_told refusal.SetTable p n = refl
refusal_told refusal.LineBuffer p n = refl
refusal_told refusal.VerdictLine p n = refl
refusal_told refusal.TextBuffer p n = refl
refusal_told refusal.TooOften p n = refl
refusal_told refusal.MovesBuffer p n = refl

violation_told : (k : Kind) (v : Violation) (n : ℕ) → v.kind ≡ k → kept_reply (reply_fields (violated v) n) ≡ Ok (violated v)
unfolding kept_by
violation_told kind.GuardNotHeld v n e = rw e
violation_told kind.UnprotectedAfterCommit v n e = rw e
violation_told kind.AcquireAfterCommit v n e = rw e
violation_told kind.SetEmptied v n e = rw e

pub reply_told : (r : Reply) (n : ℕ) → kept_reply (reply_fields r n) ≡ Ok r
unfolding kept_by
reply_told (Err x) n = refusal_told x.reason x.place n
reply_told (Ok (Ok tt)) n = refl
reply_told (Ok (Err v)) n = violation_told v.kind v n refl
