-- The names as lines of one text.
use Prim.Native.Nat.{ℕ, zero, suc, ◌+◌, ◌-◌, ◌≤◌}
use Prim.Native.String.{String}
use mathlib.Core.Path.{◌≡◌, refl, ◌∙◌}
use mathlib.Core.Bool.{true}
use mathlib.Core.List.{List, [], ◌∷◌, ◌++◌, map}
use native.Mathlib.Omega.{arith}
use borrow.Author.Tests.{lt-ltb}
use lib.ListN.{length, take, get_or, length-append}
use lib.Seq.{take-append_seam}
use Rattle.output.specs.Output.{bytes}
use Rattle.textlines.specs.Lines.{nth_line}
use Rattle.textlines.proofs.Tables.{joined, none, is_line, are_lines, entry}
use Rattle.std.specs.Prelude.{Some, ◌<◌}
use Rattle.names.specs.Names.{names, name_at}

-- a name with its LF
abbrev line : String → List ℕ
line s = bytes s ++ (10 ∷ [])

abbrev pub name_lines : List (List ℕ)
name_lines = map line names

name_lines_lem : are_lines name_lines ≡ true
unfolding bytes none is_line are_lines
name_lines_lem = refl

mapped : (ss : List String) (n : ℕ) → n + 1 ≤ length ss → get_or (map line ss) n [] ≡ line (get_or ss n "")
mapped [] n h = absurd (omega arith)
mapped (s ∷ ss) zero h = refl
mapped (s ∷ ss) (suc n) h = mapped ss n (omega arith)

-- the line of a name
pub name_line : (n : ℕ) → n < length names → nth_line n (joined name_lines) ≡ name_at (Some n) ++ (10 ∷ [])
unfolding name_at
name_line n h = entry name_lines name_lines_lem n (lt-ltb n 26 h) ∙ mapped names n (omega arith)

-- its length, and what stands before its LF
pub name_length : (t l : List ℕ) → l ≡ t ++ (10 ∷ []) → length l ≡ length t + 1
name_length t l e = rw e (length-append t (10 ∷ []))

pub name_part : (t l : List ℕ) → l ≡ t ++ (10 ∷ []) → take (length l - 1) l ≡ t
name_part t l e =
    let k : length l - 1 ≡ length t = omega (arith, name_length t l e) in rw (k, e) (take-append_seam t (10 ∷ []))
