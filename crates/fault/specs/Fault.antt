-- The first thing that is wrong with a line that is refused by 1: "the first byte that is wrong, its column" (docs/TOOL.md).
use Rattle.std.specs.Prelude.{ℕ, zero, suc, Bool, false, cond, List, [], ◌∷◌, length, get_or, eqb, ltb, leb}
use Rattle.digits.specs.Digits.{digit_of}
use Rattle.fault.specs.declared.Fault.{Fault}
use Rattle.fault.specs.declared.Fault.TheVariants as fault

-- A digit 0-9 A-F, and a letter that would be one as a capital.
abbrev pub is_digit : ℕ → Bool
is_digit b = ltb (digit_of b) 16

abbrev pub is_lower : ℕ → Bool
is_lower b = cond (ltb b 97) false (ltb b 103)

-- How many of the first n bytes of a line are digits, up to the first that is none. The next column is the first that is wrong.
unfoldable pub leading : ℕ → List ℕ → ℕ
leading zero t = 0
leading (suc n) [] = 0
leading (suc n) (b ∷ t) = cond (is_digit b) (suc (leading n t)) 0

-- "a byte-order mark": EF BB BF, FF FE or FE FF.
abbrev pub marked_by : ℕ → ℕ → ℕ → Bool
marked_by a b c =
    cond (eqb a 239) (cond (eqb b 187) (eqb c 191) false) (cond (eqb a 255) (eqb b 254) (cond (eqb a 254) (eqb b 255) false))

abbrev pub marked : List ℕ → Bool
marked t = cond (ltb (length t) 3) false (marked_by (get_or t 0 0) (get_or t 1 0) (get_or t 2 0))

-- Byte b behind c digits.
abbrev pub byte_fault : ℕ → ℕ → Fault
byte_fault b c =
    cond (eqb b 10) (cond (eqb c 0) fault.BlankLine fault.TooFew)
    (cond (eqb b 13) fault.Return
    (cond (eqb b 32) fault.Blank
    (cond (eqb b 9) fault.Blank
    (cond (eqb c 8) (cond (is_digit b) fault.TooMany (cond (is_lower b) fault.TooMany fault.NoEnd))
    (cond (is_lower b) fault.LowerCase fault.NoDigit)))))

-- The line that starts a text, behind c digits.
abbrev pub wrong_at : List ℕ → ℕ → Fault
wrong_at t c = cond (leb (length t) c) (cond (eqb c 8) fault.NoLinefeed fault.Unfinished) (byte_fault (get_or t c 0) c)

-- The line at place p of a text, which starts here; a mark stands at the start of a file.
abbrev pub fault_of : List ℕ → ℕ → ℕ → Fault
fault_of t p c = cond (eqb p 0) (cond (marked t) fault.Mark (wrong_at t c)) (wrong_at t c)
