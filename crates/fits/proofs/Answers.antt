-- How long an answer in words can be: the weight of each sentence, computed, and their sum.
use Rattle.std.specs.Prelude.{Result, Ok, Err, Option, Some, None}
use Prim.Native.Nat.{ℕ, ◌+◌, ◌*◌, ◌/◌, ◌%◌}
use Prim.Native.String.{String}
use mathlib.Core.Path.{◌≡◌, refl}
use mathlib.Core.Bool.{Bool, true, false, cond}
use mathlib.Core.List.{List, [], ◌++◌}
use native.Mathlib.Omega.{arith}
use lib.Dec.{eqb, ltb, leb}
use lib.ListN.{length, get_or, drop}
use Rattle.frame.specs.Refusal.{refusals, refusal_by, refusal_number, refused_at}
use Rattle.frame.specs.declared.Refusal.{Refusal}
use Rattle.frame.specs.declared.Refusal.TheVariants as refusal
use Rattle.frame.specs.declared.Refused.{Refused}
use Rattle.reply.specs.declared.Kind.{Kind}
use Rattle.reply.specs.declared.Kind.TheVariants as kind
use Rattle.reply.specs.declared.Violation.{Violation}
use Rattle.reply.specs.Reply.{Reply}
use Rattle.digits.specs.Digits.{digits}
use Rattle.digits.proofs.Writing.{length_digits}
use Rattle.output.specs.Output.{bytes}
use Rattle.fits.proofs.Texts.{Within, wider, plain, joined, decimal_within}
use Rattle.sentence.specs.Sentence.{known, filled}
use Rattle.phrase.specs.declared.Source.{Source}
use Rattle.phrase.specs.declared.Source.TheVariants as source
use Rattle.sentence.specs.declared.Facts.{Facts}
use Rattle.fits.proofs.Sentences.{piece_weight, weight, sentence_within}
use Rattle.explain.specs.Explain.{reducible_sentence, explanation}
use Rattle.violationtext.specs.ViolationText.{kind_sentence, block_sentence, frame_sentence, why_sentence, remedy_sentence, violation_text}
use Rattle.refusaltext.specs.RefusalText.{refusal_sentence, refusal_text}
use Rattle.facts.specs.Facts.{place_facts, violation_facts}
use Rattle.linefault.specs.LineFault.{line_fault, fault_sentence, column_text, fault_from, line_fault_text, refused_text}
use Rattle.fault.specs.Fault.{leading, fault_of}
use Rattle.fields.specs.Fields.{line_fields}
use Rattle.kept.specs.Kept.{kept_reply}
use Rattle.linereport.specs.LineReport.{source_of, other_text, kept_text, line_read}
use Rattle.phrase.specs.Phrase.{source_named}
use Rattle.refusalreport.specs.RefusalReport.{numbered_text}
use Rattle.fits.specs.Fits.{most_text, TextsFit}
use Rattle.fault.specs.declared.Fault.{Fault}
use Rattle.fault.specs.declared.Fault.TheVariants as fault
use Rattle.line.specs.declared.Fields.{Fields}

-- a sentence that comes to n bytes at most
abbrev Short : ℕ → String → Type 0
Short n t = leb (weight (bytes t)) n ≡ true

said : {n : ℕ} (f : Facts) (t : String) → Short n t → Within n (filled f (bytes t))
said {n} f t e = sentence_within f (bytes t) n e

refusal_short : (r : Refusal) (k : Bool) → Short 512 (refusal_sentence r k)
unfolding bytes piece_weight weight
refusal_short refusal.Line k = refl
refusal_short refusal.TooLong k = refl
refusal_short refusal.WordBuffer k = refl
refusal_short refusal.Operation k = refl
refusal_short refusal.Thread k = refl
refusal_short refusal.Object k = refl
refusal_short refusal.LockTaken true = refl
refusal_short refusal.LockTaken false = refl
refusal_short refusal.LockNotHeld true = refl
refusal_short refusal.LockNotHeld false = refl
refusal_short refusal.TooDeep true = refl
refusal_short refusal.TooDeep false = refl
refusal_short refusal.NoOpenBlock true = refl
refusal_short refusal.NoOpenBlock false = refl
refusal_short refusal.GuardRange k = refl
refusal_short refusal.GuardRepeated k = refl
refusal_short refusal.Irreducible k = refl
refusal_short refusal.OpenBlock k = refl
refusal_short refusal.OutputBuffer k = refl
refusal_short refusal.SetTable k = refl
refusal_short refusal.LineBuffer k = refl
refusal_short refusal.VerdictLine k = refl
refusal_short refusal.TextBuffer k = refl
refusal_short refusal.TooOften true = refl
refusal_short refusal.TooOften false = refl
refusal_short refusal.MovesBuffer k = refl

kind_short : (k : Kind) → Short 256 (kind_sentence k)
unfolding bytes piece_weight weight
kind_short kind.GuardNotHeld = refl
kind_short kind.UnprotectedAfterCommit = refl
kind_short kind.AcquireAfterCommit = refl
kind_short kind.SetEmptied = refl

block_short : (b c : Option ℕ) (k : Bool) → Short 256 (block_sentence b c k)
unfolding bytes piece_weight weight
block_short None c k = refl
block_short (Some b) None k = refl
block_short (Some b) (Some c) true = refl
block_short (Some b) (Some c) false = refl

frame_short : (k : Bool) → Short 256 (frame_sentence k)
unfolding bytes piece_weight weight
frame_short true = refl
frame_short false = refl

why_short : (k : Kind) (b : Bool) → Short 1664 (why_sentence k b)
unfolding bytes piece_weight weight
why_short kind.GuardNotHeld true = refl
why_short kind.GuardNotHeld false = refl
why_short kind.UnprotectedAfterCommit true = refl
why_short kind.UnprotectedAfterCommit false = refl
why_short kind.AcquireAfterCommit true = refl
why_short kind.AcquireAfterCommit false = refl
why_short kind.SetEmptied true = refl
why_short kind.SetEmptied false = refl

remedy_short : (k : Kind) → Short 1664 (remedy_sentence k)
unfolding bytes piece_weight weight
remedy_short kind.GuardNotHeld = refl
remedy_short kind.UnprotectedAfterCommit = refl
remedy_short kind.AcquireAfterCommit = refl
remedy_short kind.SetEmptied = refl

reducible_short : (n : ℕ) → Short 256 (reducible_sentence n)
unfolding bytes piece_weight weight
reducible_short n = go (eqb n 0)
  where
    go : (b : Bool) → Short 256 (cond b "reducible: there is nothing in %; frames: #.\n" "reducible: no frame goes wrong; frames: #.\n")
    go true = refl
    go false = refl

refusal_within : (s : Source) (ws : List ℕ) (r : Refused) → Within 512 (refusal_text s ws r)
refusal_within s ws r =
    let f = place_facts s ws r.place in said f (refusal_sentence r.reason (known f.frame)) (refusal_short r.reason (known f.frame))

violation_within : (f : Facts) (v : Violation) → Within most_text (violation_text f v)
violation_within f v =
    let k = known f.frame in
    joined (said f (kind_sentence v.kind) (kind_short v.kind))
    (joined (said f (block_sentence v.begin v.commit k) (block_short v.begin v.commit k))
    (joined (said f (frame_sentence k) (frame_short k))
    (joined (said f (why_sentence v.kind k) (why_short v.kind k)) (said f (remedy_sentence v.kind) (remedy_short v.kind)))))

explanation_within : (s : Source) (ws : List ℕ) (r : Reply) (n : ℕ) → Within most_text (explanation s ws r n)
explanation_within s ws (Err x) n = wider (refusal_within s ws x) (omega arith)
explanation_within s ws (Ok (Ok tt)) n = wider (said (place_facts s ws n) (reducible_sentence n) (reducible_short n)) (omega arith)
explanation_within s ws (Ok (Err v)) n = violation_within (violation_facts s ws v) v

line_short : Short 512 line_fault
unfolding bytes piece_weight weight
line_short = refl

fault_within : (f : Fault) → Within 62 (bytes (fault_sentence f))
unfolding bytes
fault_within fault.Mark = wider (plain "a byte-order mark; save the file without it.\n") (omega arith)
fault_within fault.BlankLine = wider (plain "an LF, so the line is blank; drop it.\n") (omega arith)
fault_within fault.TooFew = wider (plain "an LF, so there are too few digits; write eight.\n") (omega arith)
fault_within fault.Unfinished = plain "so there are too few digits and no LF; write eight and an LF.\n"
fault_within fault.NoLinefeed = wider (plain "so the last line has no LF; add it.\n") (omega arith)
fault_within fault.Return = wider (plain "a CR; end each line with LF alone.\n") (omega arith)
fault_within fault.Blank = wider (plain "a blank or a tab; write none.\n") (omega arith)
fault_within fault.TooMany = wider (plain "a digit too many; write eight.\n") (omega arith)
fault_within fault.NoEnd = wider (plain "not the LF; end the line behind eight digits.\n") (omega arith)
fault_within fault.LowerCase = wider (plain "a lower-case letter; write A-F.\n") (omega arith)
fault_within fault.NoDigit = wider (plain "not a digit; write 0-9 A-F.\n") (omega arith)

column_within : (t : List ℕ) (c : ℕ) → Within 59 (column_text t c)
unfolding bytes
column_within t c = joined (plain "column ") (joined (decimal_within (c + 1)) (go (leb (length t) c)))
  where
    go : (b : Bool) → Within 32 (cond b (bytes " is behind the end of the file, ") (bytes " has byte " ++ (digits 2 (get_or t c 0) ++ bytes ", ")))
    go true = plain " is behind the end of the file, "
    go false =
        let two : Within 2 (digits 2 (get_or t c 0)) = record { fits = omega (arith, length_digits 2 (get_or t c 0)) } in
        wider (joined (plain " has byte ") (joined two (plain ", "))) (omega arith)

fault_from_within : (s : Source) (t : List ℕ) (p : ℕ) → Within 768 (fault_from s t p)
fault_from_within s t p =
    let c = leading 8 t in
    wider (joined (said (place_facts s [] p) line_fault line_short) (joined (column_within t c) (fault_within (fault_of t p c)))) (omega arith)

-- a refusal with what is at hand of what is refused
refused_within : (s : Source) (t ws : List ℕ) (x : Refused) → Within 768 (refused_text s t ws x)
refused_within s t ws x = go (eqb (refusal_number x.reason) 1) (ltb (9 * x.place) (length t))
  where
    go : (a b : Bool) → Within 768 (cond a (cond b (line_fault_text s t x.place) (refusal_text s ws x)) (refusal_text s ws x))
    go true true = fault_from_within s (drop (9 * x.place) t) x.place
    go true false = wider (refusal_within s ws x) (omega arith)
    go false b = wider (refusal_within s ws x) (omega arith)

other_within : (n p : ℕ) → Within 128 (other_text n p)
unfolding bytes
other_within n p =
    wider
    (joined (plain "refused: number ")
    (joined (decimal_within n) (joined (plain ", which this check does not give; its place is ") (joined (decimal_within p) (plain ".\n")))))
    (omega arith)

kept_within : (k : Result Reply ℕ) (ws : List ℕ) (p : ℕ) → Within most_text (kept_text k ws p)
kept_within (Ok r) ws p = explanation_within (source_of r) ws r p
kept_within (Err n) ws p = wider (other_within n p) (omega arith)

read_within : (q : Result Fields Refused) (ws : List ℕ) → Within most_text (line_read q ws)
read_within (Ok f) ws = kept_within (kept_reply f) ws f.frame
read_within (Err x) ws = wider (refusal_within source.Text ws x) (omega arith)

numbered_within : (n p : ℕ) (s : Source) (t ws : List ℕ) → Within most_text (numbered_text n p s t ws)
numbered_within n p s t ws = go (eqb n 0) (ltb (length refusals) n)
  where
    go : (a b : Bool) → Within most_text (cond a [] (cond b (other_text n p) (refused_text s t ws (refused_at (refusal_by n) p))))
    go true b = record { fits = omega arith }
    go false true = wider (other_within n p) (omega arith)
    go false false = wider (refused_within s t ws (refused_at (refusal_by n) p)) (omega arith)

pub texts_fit : TextsFit
texts_fit = (λ l ws. (read_within (line_fields l) ws).fits, λ r s t ws. (numbered_within (r / 4294967296 % 256) (r % 4294967296) (source_named s) t ws).fits)
