-- Sentences: texts with slots in them. `piece` says what each slot stands for. Lines count from 1 and places, in brackets, from 0.
use Rattle.std.specs.Prelude.{ℕ, Bool, true, false, cond, List, [], ◌∷◌, ◌++◌, eqb, Result, Ok, Err}
use Prim.Native.Char.{code}
use Rattle.output.specs.Output.{decimal, locks_text}
use Rattle.sentence.specs.declared.Facts.{Facts}
use Rattle.phrase.specs.Phrase.{source_text, line_text, decoded_text, variable_in}
use Rattle.frame.specs.declared.Refusal.{Refusal}
use Rattle.frame.specs.declared.Frame.{Frame}

-- What a byte of a sentence stands for.
unfoldable pub piece : Facts → ℕ → List ℕ
piece f c =
    cond (eqb c (code "@")) (line_text f.place)
    (cond (eqb c (code "<")) (line_text f.begin)
    (cond (eqb c (code ">")) (line_text f.commit)
    (cond (eqb c (code "%")) (source_text f.source)
    (cond (eqb c (code "*")) (decoded_text f.frame)
    (cond (eqb c (code "^")) (decoded_text f.by)
    (cond (eqb c (code "&")) (decimal f.thread.0)
    (cond (eqb c (code "$")) (decimal (variable_in f.frame).0)
    (cond (eqb c (code "~")) (locks_text f.locks)
    (cond (eqb c (code "#")) (decimal f.place)
    (c ∷ []))))))))))

-- Whether a frame is at hand. Of a kept line there is none: "a line has no actions and no variables, and of a refusal not its thread"
-- (docs/TOOL.md).
abbrev pub known : Result Frame Refusal → Bool
known (Ok f) = true
known (Err r) = false

-- A sentence with its slots filled in.
unfoldable pub filled : Facts → List ℕ → List ℕ
filled f [] = []
filled f (c ∷ t) = piece f c ++ filled f t
