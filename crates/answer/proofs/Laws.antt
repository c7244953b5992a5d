-- The kind of a reply's verdict line does not depend on the number of frames.
use Rattle.std.specs.Prelude.{Ok, Err}
use Prim.Native.Nat.{ℕ}
use mathlib.Core.Path.{◌≡◌, refl}
use Rattle.line.specs.Line.{reply_fields}
use Rattle.reply.specs.Reply.{Reply}
use Rattle.answer.specs.Answer.{reply_kind}

pub kind_of_lem : (r : Reply) (n : ℕ) → (reply_fields r n).kind ≡ reply_kind r
kind_of_lem (Err x) n = refl
kind_of_lem (Ok (Ok _)) n = refl
kind_of_lem (Ok (Err v)) n = refl
