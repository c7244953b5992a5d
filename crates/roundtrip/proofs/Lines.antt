-- Reading a written verdict line, and writing what was read. In this order: a begin or a commit, over any width; digits behind digits; a field of
-- a written line; the written line read; a read line taken apart, and written; the line of a reply.
use Rattle.std.specs.Prelude.{Ok, Option, Some, None}
use Prim.Native.Nat.{ℕ, ◌+◌, ◌≤◌, ◌<◌}
use mathlib.Core.Path.{◌≡◌, refl, sym, ap, ◌∙◌}
use mathlib.Core.Bool.{true}
use mathlib.Core.List.{List, [], ◌∷◌, ◌++◌, append_assoc}
use native.Mathlib.Omega.{arith}
use native.Mathlib.Nat.{one-le-pow}
use borrow.Author.Tests.{eq-eqb, ne_eqb}
use lib.ListN.{length, get_or, take, drop, length-append, length-drop, take-append-drop}
use lib.Seq.{take-suc, take_all, take-add, take_at, drop_at, get_or_at, length-take-le}
use Rattle.std.proofs.lemmas.Bool.Decides.{nat_tests}
use Rattle.laws.proofs.Lists.{part}
use Rattle.digits.specs.Digits.{all_digits, digits, too_wide}
use Rattle.digits.proofs.Writing.{length_digits}
use Rattle.digits.proofs.Inverse.{written_digits_read, read_digits_write}
use Rattle.digits.proofs.Numbers.{digits_said, said_digits}
use Rattle.line.specs.Line.{kind_width, place_width, thread_width, locks_width, frame_at, thread_at, begin_at, commit_at, locks_at, line_end, line_length, absent_in, mark_field, field_mark, reply_fields, fields_line, MarkTold}
use Rattle.line.specs.declared.Fields.{Fields}
use Rattle.line.proofs.Laws.{length_fields_line}
use Rattle.reply.specs.Reply.{Reply}
use Rattle.kept.specs.Kept.{kept_by}
use Rattle.kept.proofs.Laws.{reply_told}
use Rattle.fields.specs.Fields.{is_kind, number_in, line_fields}
use Rattle.roundtrip.specs.Lines.{read_back, MarkHeld, WrittenMarksRead, Held, fields_back, WrittenLineReads, ReadLineWrites, KeptLinesTell}

-- a begin or a commit, in n digits
mark_held : (n : ℕ) (m : Option ℕ) → MarkHeld n m → mark_field n m < too_wide n
mark_held n (Some i) h = h
mark_held n None h = omega (arith, one-le-pow n 16 (omega arith))

mark_back : (n : ℕ) (m : Option ℕ) → field_mark n (mark_field n m) ≡ read_back n m
mark_back n (Some i) = refl
mark_back n None = rw (eq-eqb (absent_in n) (absent_in n) refl)

-- A written begin or commit reads back, whatever the number of digits.
pub written_marks_read : WrittenMarksRead
written_marks_read n m h = (mark_field n m, written_digits_read n (mark_field n m) (mark_held n m h), mark_back n m)

-- the number of a begin or a commit that is read is written again
mark_again : (n v : ℕ) → mark_field n (field_mark n v) ≡ v
mark_again n v = grind (arith, nat_tests)

-- digits behind digits, and a part of digits
all_append : (xs ys : List ℕ) → all_digits xs ≡ true → all_digits ys ≡ true → all_digits (xs ++ ys) ≡ true
unfolding all_digits
all_append [] ys a b = b
all_append (x ∷ xs) ys a b = grind (arith, nat_tests, all_append xs ys)

all_apart : (xs ys : List ℕ) → all_digits (xs ++ ys) ≡ true → (all_digits xs ≡ true) × (all_digits ys ≡ true)
unfolding all_digits
all_apart [] ys e = (refl, e)
all_apart (x ∷ xs) ys e =
    let r = all_apart xs ys (grind (arith, nat_tests)) in
    (grind (arith, nat_tests), r.1)

-- a field of a line: its digits stand between a front and a rest
field_number : (l a c : List ℕ) (at n v : ℕ) → l ≡ a ++ (digits n v ++ c) → length a ≡ at → v < too_wide n → number_in l at n ≡ v
field_number l a c at n v e h w =
    rw (e, drop_at a (digits n v ++ c) at h, take_at (digits n v) c n (length_digits n v)) (said_digits 0 (digits n v) v (written_digits_read n v w)).1

field_digits : (n v : ℕ) → v < too_wide n → all_digits (digits n v) ≡ true
field_digits n v w = (said_digits 0 (digits n v) v (written_digits_read n v w)).0

-- the line of fields that are held
module _ (f : Fields) (h : Held f) where
  abbrev dk : List ℕ
  dk = digits kind_width f.kind

  abbrev df : List ℕ
  df = digits place_width f.frame

  abbrev dt : List ℕ
  dt = digits thread_width f.thread

  abbrev db : List ℕ
  db = digits place_width (mark_field place_width f.begin)

  abbrev dc : List ℕ
  dc = digits place_width (mark_field place_width f.commit)

  abbrev dl : List ℕ
  dl = digits locks_width f.locks

  abbrev all6 : List ℕ
  all6 = dk ++ df ++ dt ++ db ++ dc ++ dl

  begin_held : mark_field place_width f.begin < too_wide place_width
  begin_held = mark_held place_width f.begin h.begin

  commit_held : mark_field place_width f.commit < too_wide place_width
  commit_held = mark_held place_width f.commit h.commit

  is_line_lem : fields_line f ≡ all6 ++ (10 ∷ [])
  unfolding fields_line
  is_line_lem = refl

  -- its fields, one by one
  kind_number_lem : number_in (fields_line f) 0 kind_width ≡ f.kind
  kind_number_lem = field_number (fields_line f) [] (df ++ (dt ++ (db ++ (dc ++ (dl ++ (10 ∷ [])))))) 0 kind_width f.kind (is_line_lem ∙ simp append_assoc) refl h.kind

  frame_number : number_in (fields_line f) frame_at place_width ≡ f.frame
  frame_number = field_number (fields_line f) dk (dt ++ (db ++ (dc ++ (dl ++ (10 ∷ []))))) frame_at place_width f.frame (is_line_lem ∙ simp append_assoc) (simp length_digits) h.frame

  thread_number : number_in (fields_line f) thread_at thread_width ≡ f.thread
  thread_number = field_number (fields_line f) (dk ++ df) (db ++ (dc ++ (dl ++ (10 ∷ [])))) thread_at thread_width f.thread (is_line_lem ∙ simp append_assoc) (simp (length-append, length_digits)) h.thread

  begin_number : number_in (fields_line f) begin_at place_width ≡ mark_field place_width f.begin
  begin_number = field_number (fields_line f) (dk ++ df ++ dt) (dc ++ (dl ++ (10 ∷ []))) begin_at place_width (mark_field place_width f.begin) (is_line_lem ∙ simp append_assoc) (simp (length-append, length_digits)) begin_held

  commit_number : number_in (fields_line f) commit_at place_width ≡ mark_field place_width f.commit
  commit_number = field_number (fields_line f) (dk ++ df ++ dt ++ db) (dl ++ (10 ∷ [])) commit_at place_width (mark_field place_width f.commit) (is_line_lem ∙ simp append_assoc) (simp (length-append, length_digits)) commit_held

  locks_number : number_in (fields_line f) locks_at locks_width ≡ f.locks
  locks_number = field_number (fields_line f) (dk ++ df ++ dt ++ db ++ dc) (10 ∷ []) locks_at locks_width f.locks (is_line_lem ∙ simp append_assoc) (simp (length-append, length_digits)) h.locks

  -- digits and LF
  long6 : length all6 ≡ line_end
  long6 = simp (length-append, length_digits)

  line_feed : get_or (fields_line f) line_end 0 ≡ 10
  line_feed = rw is_line_lem (get_or_at all6 10 [] 0 line_end long6)

  line_digits : all_digits (take line_end (fields_line f)) ≡ true
  line_digits =
      rw (is_line_lem, take_at all6 (10 ∷ []) line_end long6)
      (all_append (dk ++ df ++ dt ++ db ++ dc) dl
      (all_append (dk ++ df ++ dt ++ db) dc
      (all_append (dk ++ df ++ dt) db
      (all_append (dk ++ df) dt (all_append dk df (field_digits kind_width f.kind h.kind) (field_digits place_width f.frame h.frame)) (field_digits thread_width f.thread h.thread))
      (field_digits place_width (mark_field place_width f.begin) begin_held))
      (field_digits place_width (mark_field place_width f.commit) commit_held))
      (field_digits locks_width f.locks h.locks))

  pub line_back : is_kind f.kind ≡ true → line_fields (fields_line f) ≡ Ok (fields_back f)
  unfolding line_fields
  line_back k =
      rw (eq-eqb (length (fields_line f)) line_length (length_fields_line f), eq-eqb (get_or (fields_line f) line_end 0) 10 line_feed, line_digits)
      (rw (kind_number_lem, frame_number, thread_number, begin_number, commit_number, locks_number, k, mark_back place_width f.begin, mark_back place_width f.commit))

-- Fields that are written read back.
pub written_line_reads : WrittenLineReads
written_line_reads f l h e =
    let k : is_kind f.kind ≡ true = grind (arith, nat_tests) in
    let w : fields_line f ≡ l = grind (arith, nat_tests) in
    rw (← w) (line_back f h k)

-- a line that is read: 33 bytes, LF, and digits before it
module _ (l : List ℕ) (long : length l ≡ line_length) (feed : get_or l line_end 0 ≡ 10) (all : all_digits (take line_end l) ≡ true) where
  part_all : (at n : ℕ) → at + n ≤ line_end → all_digits (take n (drop at l)) ≡ true
  part_all at n h =
      let t = take line_end l in
      let d : all_digits (drop at t) ≡ true = (all_apart (take at t) (drop at t) (rw (take-append-drop at t) all)).1 in
      let p : all_digits (take n (drop at t)) ≡ true = (all_apart (take n (drop at t)) (drop n (drop at t)) (rw (take-append-drop n (drop at t)) d)).0 in
      rw (← part at n line_end l h) p

  -- the digits of a field's number are the field
  part_digits : (at n : ℕ) → at + n ≤ line_end → digits n (number_in l at n) ≡ take n (drop at l)
  part_digits at n h =
      let k : length (take n (drop at l)) ≡ n = length-take-le n (drop at l) (omega (arith, length-drop at l)) in
      rw k at (read_digits_write (take n (drop at l)) (number_in l at n) (digits_said 0 (take n (drop at l)) (part_all at n h))).0

  -- the fields that are read, written again
  abbrev pub fields_again : Fields
  fields_again = record {
    kind = number_in l 0 kind_width;
    frame = number_in l frame_at place_width;
    thread = number_in l thread_at thread_width;
    begin = field_mark place_width (number_in l begin_at place_width);
    commit = field_mark place_width (number_in l commit_at place_width);
    locks = number_in l locks_at locks_width;
  }

  pub line_again : fields_line fields_again ≡ l
  unfolding fields_line
  line_again =
      rw (
        mark_again place_width (number_in l begin_at place_width),
        mark_again place_width (number_in l commit_at place_width),
        part_digits 0 kind_width (omega arith),
        part_digits frame_at place_width (omega arith),
        part_digits thread_at thread_width (omega arith),
        part_digits begin_at place_width (omega arith),
        part_digits commit_at place_width (omega arith),
        part_digits locks_at locks_width (omega arith),
        ← take-add frame_at place_width l,
        ← take-add thread_at thread_width l,
        ← take-add begin_at place_width l,
        ← take-add commit_at place_width l,
        ← take-add locks_at locks_width l,
      )
      (ap (λ (x : ℕ). take line_end l ++ (x ∷ [])) (sym feed) ∙ sym (take-suc l line_end 0 (omega arith)) ∙ take_all line_length l (omega arith))

-- A line that is read is written again.
pub read_line_writes : ReadLineWrites
unfolding line_fields
read_line_writes l f e =
    let n : length l ≡ line_length = grind (arith, nat_tests) in
    let feed : get_or l line_end 0 ≡ 10 = grind (arith, nat_tests) in
    let all : all_digits (take line_end l) ≡ true = grind (arith, nat_tests) in
    let k : is_kind (number_in l 0 kind_width) ≡ true = grind (arith, nat_tests) in
    let s : fields_again l n feed all ≡ f = grind (arith, nat_tests) in
    rw (← s, k, line_again l n feed all)

-- a begin or a commit that its digits tell reads back as it is
told_held : (n : ℕ) (m : Option ℕ) → MarkTold n m → MarkHeld n m
told_held n (Some i) h = omega arith
told_held n None h = tt

told_back : (n : ℕ) (m : Option ℕ) → MarkTold n m → read_back n m ≡ m
told_back n (Some i) h = rw (ne_eqb i (absent_in n) (λ e. omega arith))
told_back n None h = refl

-- a kind that tells a reply reads
told_kind : (k : ℕ) (f : Fields) (r : Reply) → kept_by k f ≡ Ok r → is_kind k ≡ true
unfolding kept_by
told_kind k f r e = grind (arith, nat_tests)

-- The line of a reply tells it.
pub kept_lines_tell : KeptLinesTell
kept_lines_tell r n x =
    let f = reply_fields r n in
    let h : Held f = record {
      kind = x.kind;
      frame = x.frame;
      thread = x.thread;
      begin = told_held place_width f.begin x.begin;
      commit = told_held place_width f.commit x.commit;
      locks = x.locks;
    } in
    (line_back f h (told_kind f.kind f r (reply_told r n)) ∙ rw (told_back place_width f.begin x.begin, told_back place_width f.commit x.commit), reply_told r n)
