-- How long a sentence can become when its slots are filled in.
use Rattle.std.specs.Prelude.{Result, Ok, Err}
use Prim.Native.Nat.{ℕ, ◌+◌}
use Prim.Native.Char.{code}
use mathlib.Core.Path.{◌≡◌}
use mathlib.Core.Bool.{Bool, true, false, cond}
use mathlib.Core.List.{List, [], ◌∷◌}
use native.Mathlib.Omega.{arith}
use borrow.Author.Tests.{leb-true}
use lib.Dec.{eqb, leb}
use Rattle.frame.specs.declared.Action.{Action}
use Rattle.frame.specs.declared.Action.TheVariants as action
use Rattle.output.specs.Output.{bytes}
use Rattle.fits.proofs.Texts.{Within, wider, plain, joined, decimal_within, locks_within}
use Rattle.sentence.specs.Sentence.{piece, filled}
use Rattle.phrase.specs.Phrase.{source_text, line_text, action_text, decoded_text, variable_in}
use Rattle.phrase.specs.declared.Source.{Source}
use Rattle.phrase.specs.declared.Source.TheVariants as source
use Rattle.sentence.specs.declared.Facts.{Facts}
use Rattle.frame.specs.declared.Refusal.{Refusal}
use Rattle.frame.specs.declared.Frame.{Frame}

source_within : (s : Source) → Within 19 (source_text s)
unfolding source_text bytes
source_within source.Recording = wider (plain "the recording") (omega arith)
source_within source.GuardList = wider (plain "the guard list") (omega arith)
source_within source.Left = wider (plain "the left recording") (omega arith)
source_within source.Right = plain "the right recording"
source_within source.Text = wider (plain "the text") (omega arith)

line_within : (p : ℕ) → Within 48 (line_text p)
unfolding line_text bytes
line_within p = joined (plain "line ") (joined (decimal_within (p + 1)) (joined (plain " [") (joined (decimal_within p) (plain "]"))))

action_within : (a : Action) → Within 38 (action_text a)
unfolding action_text bytes
action_within (action.Acquire l) = wider (joined (plain "acquire of lock ") (decimal_within l.0)) (omega arith)
action_within (action.Release l) = wider (joined (plain "release of lock ") (decimal_within l.0)) (omega arith)
action_within (action.Read v) = wider (joined (plain "read of variable ") (decimal_within v.0)) (omega arith)
action_within (action.Write v) = joined (plain "write of variable ") (decimal_within v.0)
action_within action.Begin = wider (plain "begin") (omega arith)
action_within action.End = wider (plain "end") (omega arith)

decoded_within : (d : Result Frame Refusal) → Within 38 (decoded_text d)
unfolding decoded_text bytes
decoded_within (Ok f) = action_within f.action
decoded_within (Err r) = wider (plain "no frame") (omega arith)

-- The most bytes that a byte of a sentence stands for, by the cases of `piece`.
unfoldable pub piece_weight : ℕ → ℕ
piece_weight c =
    cond (eqb c (code "@")) 48
    (cond (eqb c (code "<")) 48
    (cond (eqb c (code ">")) 48
    (cond (eqb c (code "%")) 19
    (cond (eqb c (code "*")) 38
    (cond (eqb c (code "^")) 38
    (cond (eqb c (code "&")) 20
    (cond (eqb c (code "$")) 20
    (cond (eqb c (code "~")) 1408
    (cond (eqb c (code "#")) 20 1)))))))))

-- The most bytes of a sentence.
unfoldable pub weight : List ℕ → ℕ
weight [] = 0
weight (c ∷ t) = piece_weight c + weight t

-- one text or another, each with its own bound
weighed : {m n : ℕ} {x y : List ℕ} (t : Bool) → Within m x → Within n y → Within (cond t m n) (cond t x y)
weighed true p q = p
weighed false p q = q

piece_within : (f : Facts) (c : ℕ) → Within (piece_weight c) (piece f c)
unfolding piece piece_weight
piece_within f c =
    weighed (eqb c (code "@")) (line_within f.place)
    (weighed (eqb c (code "<")) (line_within f.begin)
    (weighed (eqb c (code ">")) (line_within f.commit)
    (weighed (eqb c (code "%")) (source_within f.source)
    (weighed (eqb c (code "*")) (decoded_within f.frame)
    (weighed (eqb c (code "^")) (decoded_within f.by)
    (weighed (eqb c (code "&")) (decimal_within f.thread.0)
    (weighed (eqb c (code "$")) (decimal_within (variable_in f.frame).0)
    (weighed (eqb c (code "~")) (locks_within f.locks)
    (weighed (eqb c (code "#")) (decimal_within f.place) (record { fits = omega arith }))))))))))

filled_within : (f : Facts) (t : List ℕ) → Within (weight t) (filled f t)
unfolding filled weight
filled_within f [] = record { fits = omega arith }
filled_within f (c ∷ t) = joined (piece_within f c) (filled_within f t)

-- a sentence whose weight is computed
pub sentence_within : (f : Facts) (t : List ℕ) (n : ℕ) → leb (weight t) n ≡ true → Within n (filled f t)
sentence_within f t n e = record { fits = omega (arith, leb-true (weight t) n e, (filled_within f t).fits) }
