-- A line is exact: fields are told by their digits.
use Rattle.std.specs.Prelude.{Option, Some, None}
use Prim.Native.Nat.{ℕ, ◌<◌}
use mathlib.Core.Path.{◌≡◌, refl, ap, ◌∙◌}
use mathlib.Core.List.{List, [], ◌∷◌, ◌++◌}
use native.Mathlib.Omega.{arith}
use lib.ListN.{length, length-append}
use Rattle.digits.specs.Digits.{digits, too_wide}
use Rattle.digits.proofs.Writing.{length_digits}
use Rattle.digits.proofs.Inverse.{digits_same}
use Rattle.line.specs.declared.Fields.{Fields}
use Rattle.line.specs.Line.{kind_width, place_width, thread_width, locks_width, mark_field, MarkTold, reply_fields, fields_line, Exact, LinesAreExact}

-- lists that are the same, with fronts of one length
apart : (a b c d : List ℕ) → length a ≡ length b → a ++ c ≡ b ++ d → (a ≡ b) × (c ≡ d)
apart [] [] c d h e = (refl, e)
apart [] (y ∷ b) c d h e = absurd (omega arith)
apart (x ∷ a) [] c d h e = absurd (omega arith)
apart (x ∷ a) (y ∷ b) c d h e =
    let p : x ≡ y = cc in
    let t : a ++ c ≡ b ++ d = cc in
    let q = apart a b c d (omega arith) t in
    (ap (λ (l : List ℕ). x ∷ l) q.0 ∙ ap (λ (z : ℕ). z ∷ b) p, q.1)

-- the digits of the first fields
abbrev first2 : Fields → List ℕ
first2 f = digits kind_width f.kind ++ digits place_width f.frame

abbrev first3 : Fields → List ℕ
first3 f = first2 f ++ digits thread_width f.thread

abbrev first4 : Fields → List ℕ
first4 f = first3 f ++ digits place_width (mark_field place_width f.begin)

abbrev first5 : Fields → List ℕ
first5 f = first4 f ++ digits place_width (mark_field place_width f.commit)

abbrev all6 : Fields → List ℕ
all6 f = first5 f ++ digits locks_width f.locks

-- a begin or a commit that is told, of a line's width
told_held : (m : Option ℕ) → MarkTold place_width m → mark_field place_width m < too_wide place_width
told_held (Some i) h = omega arith
told_held None h = omega arith

told_same : (m k : Option ℕ) → MarkTold place_width m → MarkTold place_width k → mark_field place_width m ≡ mark_field place_width k → m ≡ k
told_same (Some i) (Some j) h l e = ap Some e
told_same (Some i) None h l e = absurd (omega arith)
told_same None (Some j) h l e = absurd (omega arith)
told_same None None h l e = refl

mark_same : (m k : Option ℕ) → MarkTold place_width m → MarkTold place_width k
    → digits place_width (mark_field place_width m) ≡ digits place_width (mark_field place_width k) → m ≡ k
mark_same m k h l e =
    told_same m k h l (digits_same place_width (mark_field place_width m) (mark_field place_width k) (told_held m h) (told_held k l) e)

-- fields that their digits tell, with the same line
pub fields_same : (f g : Fields) → Exact f → Exact g → fields_line f ≡ fields_line g → f ≡ g
unfolding fields_line
fields_same f g x y e =
    let a = (apart (all6 f) (all6 g) (10 ∷ []) (10 ∷ []) (simp (length-append, length_digits)) e).0 in
    let l = apart (first5 f) (first5 g) (digits locks_width f.locks) (digits locks_width g.locks) (simp (length-append, length_digits)) a in
    let c = apart (first4 f) (first4 g) (digits place_width (mark_field place_width f.commit)) (digits place_width (mark_field place_width g.commit)) (simp (length-append, length_digits)) l.0 in
    let b = apart (first3 f) (first3 g) (digits place_width (mark_field place_width f.begin)) (digits place_width (mark_field place_width g.begin)) (simp (length-append, length_digits)) c.0 in
    let t = apart (first2 f) (first2 g) (digits thread_width f.thread) (digits thread_width g.thread) (simp (length-append, length_digits)) b.0 in
    let r = apart (digits kind_width f.kind) (digits kind_width g.kind) (digits place_width f.frame) (digits place_width g.frame) (simp length_digits) t.0 in
    let k₁ = digits_same kind_width f.kind g.kind x.kind y.kind r.0 in
    let r₁ = digits_same place_width f.frame g.frame x.frame y.frame r.1 in
    let t₁ = digits_same thread_width f.thread g.thread x.thread y.thread t.1 in
    let b₁ = mark_same f.begin g.begin x.begin y.begin b.1 in
    let c₁ = mark_same f.commit g.commit x.commit y.commit c.1 in
    let l₁ = digits_same locks_width f.locks g.locks x.locks y.locks l.1 in
    λ i. record { kind = k₁ i; frame = r₁ i; thread = t₁ i; begin = b₁ i; commit = c₁ i; locks = l₁ i }

-- one line means one choice of fields
pub lines_are_exact : LinesAreExact
lines_are_exact r q n m x y e = fields_same (reply_fields r n) (reply_fields q m) x y e
