-- The cases of docs/FORMAT.md that are marked *, as rows of one list, and the claim that every row holds. Words are written as there; a
-- recording under inferred guards goes in as text, as the planner hands it in.
use Rattle.std.specs.Prelude.{ℕ, ◌≡◌, Bool, true, false, ◌&&◌, List, [], ◌∷◌, ◌++◌, eqb, ℤ, pos, negsuc, neg_ℤ, length, replicate, Option, Result, Ok, Err}
use Prim.Native.String.{String}
use Rattle.guards.specs.Judgement.{Declared}
use Rattle.verdict.specs.Verdict.{verdict_under}
use Rattle.guards.specs.Guards.{no_guards, inferred_guards}
use Rattle.equal.specs.Equal.{equal_reply}
use Rattle.equal.specs.declared.RefusedSide.{RefusedSide}
use Rattle.serial.specs.Order.{commits}
use Rattle.displacement.specs.Displacement.{ordered_places, displacements}
use Rattle.digits.specs.Digits.{digits}
use Rattle.line.specs.Line.{place_width, mark_field, field_mark, reply_fields, verdict_line}
use Rattle.output.specs.Output.{bytes}
use Rattle.line.specs.declared.Fields.{Fields}
use Rattle.answer.specs.Answer.{text_judged}

-- The text of words: eight digits and an LF each.
abbrev pub text_of : List ℕ → List ℕ
text_of [] = []
text_of (w ∷ ws) = digits 8 w ++ (10 ∷ text_of ws)

-- What a row says: the line that the planner's text is answered with, byte for byte; the fields of the verdict line of a recording, with
-- inferred guards, or with those of a guard list; the commit of each frame's unit, the serial order by place and the displacements, under
-- a table of guards; whether two recordings are equal.
pub data Row : Type 0 where
  planner : String → String → Row
  inferred : List ℕ → Fields → Row
  declared : List ℕ → List ℕ → Fields → Row
  committed : List ℕ → List ℕ → List ℕ → Row
  ordered : List ℕ → List ℕ → List ℕ → Row
  displaced : List ℕ → List ℕ → List ℤ → Row
  equal : List ℕ → List ℕ → Row
  different : List ℕ → List ℕ → Row

-- The fields of the line, in its order: kind, frame, thread, begin, commit, locks.
abbrev pub fields : ℕ → ℕ → ℕ → ℕ → ℕ → ℕ → Fields
fields k f t b c l = record { kind = k; frame = f; thread = t; begin = field_mark place_width b; commit = field_mark place_width c; locks = l }

-- Absent begin or commit.
abbrev pub absent : ℕ
absent = 0xFFFF

abbrev pub same_mark : Option ℕ → Option ℕ → Bool
same_mark x y = eqb (mark_field place_width x) (mark_field place_width y)

abbrev pub same_fields : Fields → Fields → Bool
same_fields x y =
    eqb x.kind y.kind && (eqb x.frame y.frame && (eqb x.thread y.thread && (same_mark x.begin y.begin && (same_mark x.commit y.commit && eqb x.locks y.locks))))

abbrev pub same_numbers : List ℕ → List ℕ → Bool
same_numbers [] [] = true
same_numbers [] (y ∷ ys) = false
same_numbers (x ∷ xs) [] = false
same_numbers (x ∷ xs) (y ∷ ys) = eqb x y && same_numbers xs ys

abbrev pub same_signed : ℤ → ℤ → Bool
same_signed (pos m) (pos n) = eqb m n
same_signed (pos m) (negsuc n) = false
same_signed (negsuc m) (pos n) = false
same_signed (negsuc m) (negsuc n) = eqb m n

abbrev pub same_signed_numbers : List ℤ → List ℤ → Bool
same_signed_numbers [] [] = true
same_signed_numbers [] (y ∷ ys) = false
same_signed_numbers (x ∷ xs) [] = false
same_signed_numbers (x ∷ xs) (y ∷ ys) = same_signed x y && same_signed_numbers xs ys

-- A number below 0.
abbrev pub minus : ℕ → ℤ
minus n = neg_ℤ (pos n)

abbrev pub is_equal : Result Bool RefusedSide → Bool
is_equal (Ok true) = true
is_equal (Ok false) = false
is_equal (Err r) = false

abbrev pub is_different : Result Bool RefusedSide → Bool
is_different (Ok true) = false
is_different (Ok false) = true
is_different (Err r) = false

abbrev pub holds : Row → Bool
holds (planner text expected) = same_numbers (verdict_line (text_judged (bytes text)).reply (text_judged (bytes text)).frames) (bytes expected)
holds (inferred ws expected) = same_fields (reply_fields (text_judged (text_of ws)).reply (text_judged (text_of ws)).frames) expected
holds (declared list ws expected) = same_fields (reply_fields (verdict_under Declared (text_of list) ws) (length ws)) expected
holds (committed guards ws expected) = same_numbers (commits guards ws) expected
holds (ordered guards ws expected) = same_numbers (ordered_places guards ws) expected
holds (displaced guards ws expected) = same_signed_numbers (displacements guards ws) expected
holds (equal l r) = is_equal (equal_reply l r)
holds (different l r) = is_different (equal_reply l r)

abbrev pub all_hold : List Row → Bool
all_hold [] = true
all_hold (r ∷ rs) = holds r && all_hold rs

abbrev pub case_c : List ℕ
case_c = 0x05000000 ∷ 0x05010000 ∷ 0x01000000 ∷ 0x04000000 ∷ 0x02000000 ∷ 0x01010000 ∷ 0x04010000 ∷ 0x06000000 ∷ 0x02010000 ∷ 0x06010000 ∷ []

abbrev pub case_k : List ℕ
case_k = 0x05000000 ∷ 0x01000000 ∷ 0x03000000 ∷ 0x01000000 ∷ 0x02000000 ∷ 0x02000000 ∷ 0x06000000 ∷ []

abbrev pub case_l : List ℕ
case_l = 0x05000000 ∷ 0x01000000 ∷ 0x01000001 ∷ 0x02000000 ∷ 0x01000001 ∷ 0x02000001 ∷ 0x02000001 ∷ 0x06000000 ∷ []

abbrev pub case_m : List ℕ
case_m = 0x01000000 ∷ 0x05000000 ∷ 0x01000000 ∷ 0x02000000 ∷ 0x01000001 ∷ 0x02000001 ∷ 0x06000000 ∷ 0x02000000 ∷ []

abbrev pub case_o : List ℕ
case_o = 0x03000000 ∷ 0x03010000 ∷ 0x04020000 ∷ []

abbrev pub rows : List Row
rows =
    -- A: the text and the answer of docs/FORMAT.md, each line with its LF
    planner "05010000\n01010000\n03010000\n02010000\n01010000\n03010001\n02010000\n06010000\n" "03000401000000030000000000000001\n"
    -- kind 3, frame 4, thread 1, begin 0, commit 3, lock 0
    ∷ inferred (0x05010000 ∷ 0x01010000 ∷ 0x03010000 ∷ 0x02010000 ∷ 0x01010000 ∷ 0x03010001 ∷ 0x02010000 ∷ 0x06010000 ∷ []) (fields 3 4 1 0 3 1)
    -- B: empty recording, reducible
    ∷ inferred [] (fields 0 0 0 absent absent 0)
    ∷ declared [] [] (fields 0 0 0 absent absent 0)
    -- its serial order is empty, and it is equal to itself
    ∷ ordered inferred_guards [] []
    ∷ equal [] []
    -- C, inferred: reducible
    ∷ inferred case_c (fields 0 10 0 absent absent 0)
    -- commits 4 and 8; serial order by place 0 2 3 4 7 1 5 6 8 9
    ∷ committed inferred_guards case_c (4 ∷ 8 ∷ 4 ∷ 4 ∷ 4 ∷ 8 ∷ 8 ∷ 4 ∷ 8 ∷ 8 ∷ [])
    ∷ ordered inferred_guards case_c (0 ∷ 2 ∷ 3 ∷ 4 ∷ 7 ∷ 1 ∷ 5 ∷ 6 ∷ 8 ∷ 9 ∷ [])
    -- displacements 0 4 -1 -1 -1 1 1 -3 0 0
    ∷ displaced inferred_guards case_c (pos 0 ∷ pos 4 ∷ minus 1 ∷ minus 1 ∷ minus 1 ∷ pos 1 ∷ pos 1 ∷ minus 3 ∷ pos 0 ∷ pos 0 ∷ [])
    -- D, inferred: kind 4, locks all 64, begin and commit absent; declared, unguarded: reducible
    ∷ inferred (0x03000005 ∷ []) (fields 4 0 0 absent absent 0xFFFFFFFFFFFFFFFF)
    ∷ declared [] (0x03000005 ∷ []) (fields 0 1 0 absent absent 0)
    -- E, variable 5 unguarded: kind 2 at 2, begin 0, commit 1
    ∷ declared [] (0x05000000 ∷ 0x03000005 ∷ 0x03000005 ∷ []) (fields 2 2 0 0 1 0)
    -- F, unguarded: reducible, commit 1
    ∷ committed no_guards (0x05000000 ∷ 0x03000005 ∷ 0x06000000 ∷ []) (1 ∷ 1 ∷ 1 ∷ [])
    ∷ declared [] (0x05000000 ∷ 0x03000005 ∷ 0x06000000 ∷ []) (fields 0 3 0 absent absent 0)
    -- G, with guard 00050002: kind 1, locks 4
    ∷ declared (0x00050002 ∷ []) (0x03000005 ∷ []) (fields 1 0 0 absent absent 4)
    -- H and its reverse: equal
    ∷ equal (0x03000000 ∷ 0x03010001 ∷ []) (0x03010001 ∷ 0x03000000 ∷ [])
    -- I and its reverse: equal. "Reads of one variable by different threads are independent too"
    ∷ equal (0x03000000 ∷ 0x03010000 ∷ []) (0x03010000 ∷ 0x03000000 ∷ [])
    -- J: refusal 7 at 1; 8 at 1
    ∷ inferred (0x01000003 ∷ 0x01010003 ∷ []) (fields 0x87 1 0 absent absent 0)
    ∷ inferred (0x01000003 ∷ 0x02010003 ∷ []) (fields 0x88 1 0 absent absent 0)
    -- K: reducible, commit 5, at the outer release
    ∷ inferred case_k (fields 0 7 0 absent absent 0)
    ∷ committed inferred_guards case_k (5 ∷ 5 ∷ 5 ∷ 5 ∷ 5 ∷ 5 ∷ 5 ∷ [])
    -- L: reducible, commit 3; the acquire of lock 1 after it is an inner one
    ∷ inferred case_l (fields 0 8 0 absent absent 0)
    ∷ committed inferred_guards case_l (3 ∷ 3 ∷ 3 ∷ 3 ∷ 3 ∷ 3 ∷ 3 ∷ 3 ∷ [])
    -- M: reducible, commits 0, 5 and 7; lock 0, held before the block, is let go inside it by an inner release
    ∷ inferred case_m (fields 0 8 0 absent absent 0)
    ∷ committed inferred_guards case_m (0 ∷ 5 ∷ 5 ∷ 5 ∷ 5 ∷ 5 ∷ 5 ∷ 7 ∷ [])
    -- N: 15 takings pass, the 16th is refusal 20 at 15; another thread's acquire between is 7 at 3; one release too many is 8 at 4
    ∷ inferred (replicate 15 0x01000003) (fields 0 15 0 absent absent 0)
    ∷ inferred (replicate 16 0x01000003) (fields 0x94 15 0 absent absent 0)
    ∷ inferred (0x01000003 ∷ 0x01000003 ∷ 0x02000003 ∷ 0x01010003 ∷ []) (fields 0x87 3 0 absent absent 0)
    ∷ inferred (0x01000003 ∷ 0x01000003 ∷ 0x02000003 ∷ 0x02000003 ∷ 0x02000003 ∷ []) (fields 0x88 4 0 absent absent 0)
    -- O: two reads before a write exchanged: equal; either of them moved behind the write: not
    ∷ equal case_o (0x03010000 ∷ 0x03000000 ∷ 0x04020000 ∷ [])
    ∷ different case_o (0x03000000 ∷ 0x04020000 ∷ 0x03010000 ∷ [])
    ∷ different case_o (0x03010000 ∷ 0x04020000 ∷ 0x03000000 ∷ [])
    -- a read and a write, two writes, two reads of one thread, with their reverse: not equal
    ∷ different (0x03000000 ∷ 0x04010000 ∷ []) (0x04010000 ∷ 0x03000000 ∷ [])
    ∷ different (0x04000000 ∷ 0x04010000 ∷ []) (0x04010000 ∷ 0x04000000 ∷ [])
    ∷ different (0x03000000 ∷ 0x03000001 ∷ []) (0x03000001 ∷ 0x03000000 ∷ [])
    ∷ []

abbrev pub AllRowsHold : Type 0
AllRowsHold = all_hold rows ≡ true
