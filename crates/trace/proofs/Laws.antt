-- Laws of the answers: the number of frames is handed on whole where it is written.
use Rattle.std.specs.Prelude.{Ok, Err}
use Prim.Native.Nat.{ℕ, ◌%◌, ◌≤◌}
use mathlib.Core.Path.{◌≡◌, refl, ap}
use native.Mathlib.Omega.{arith}
use Rattle.frame.specs.Limits.{most_frames}
use Rattle.line.specs.Line.{verdict_line}
use Rattle.reply.specs.Reply.{reducible, Reply}

-- the number of frames is written where it is at most the most
pub frames_whole : (r : Reply) (n : ℕ) → (r ≡ reducible → n ≤ most_frames) → verdict_line r (n % 4294967296) ≡ verdict_line r n
frames_whole (Err x) n h = refl
frames_whole (Ok (Ok _)) n h =
    let l : n ≤ most_frames = h refl in
    let e : n % 4294967296 ≡ n = omega arith in ap (verdict_line reducible) e
frames_whole (Ok (Err v)) n h = refl
