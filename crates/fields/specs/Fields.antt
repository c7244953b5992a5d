-- Verdict lines read into their fields, and fields written as a line. In this order: which kinds a line may have, a line read, a line written.
-- Quotes are from docs/FORMAT.md.
use Rattle.std.specs.Prelude.{ℕ, Bool, true, cond, List, ltb, eqb, length, get_or, take, drop, Result, Ok, Err}
use Rattle.frame.specs.Refusal.{refused_at}
use Rattle.frame.specs.declared.Refused.{Refused}
use Rattle.frame.specs.declared.Refusal.TheVariants as refusal
use Rattle.digits.specs.Digits.{all_digits, values_of, joined}
use Rattle.line.specs.Line.{kind_width, place_width, thread_width, locks_width, frame_at, thread_at, begin_at, commit_at, locks_at, line_end, line_length, field_mark, fields_line}
use Rattle.line.specs.declared.Fields.{Fields}

-- "Kinds 00 to 04 and 81 to FF read, and 05 to 80 do not"
abbrev pub is_kind : ℕ → Bool
is_kind k = cond (ltb k 5) true (ltb 128 k)

-- "18 .. verdict line .. 0"
abbrev pub no_line : Refused
no_line = refused_at refusal.VerdictLine 0

-- The fields with these numbers: "no other field is tested. FFFF in begin or commit is always absent."
abbrev pub fields_of : ℕ → ℕ → ℕ → ℕ → ℕ → ℕ → Result Fields Refused
fields_of k f t b c l =
    cond (is_kind k)
    (Ok (record { kind = k; frame = f; thread = t; begin = field_mark place_width b; commit = field_mark place_width c; locks = l }))
    (Err no_line)

-- The number of the n digits from a place on.
abbrev pub number_in : List ℕ → ℕ → ℕ → ℕ
number_in s at n = joined 0 (values_of (take n (drop at s)))

-- "A line that is read has exactly 33 bytes, 32 digits 0-9 A-F and an LF."
unfoldable pub line_fields : List ℕ → Result Fields Refused
line_fields s =
    cond (eqb (length s) line_length)
    (cond (eqb (get_or s line_end 0) 10)
    (cond (all_digits (take line_end s))
    (fields_of (number_in s 0 kind_width) (number_in s frame_at place_width) (number_in s thread_at thread_width) (number_in s begin_at place_width) (number_in s commit_at place_width) (number_in s locks_at locks_width))
    (Err no_line))
    (Err no_line))
    (Err no_line)

-- "The kind of fields that are written is tested as that of a line is."
abbrev pub written_line : Fields → Result (List ℕ) Refused
written_line f =
    cond (is_kind f.kind) (Ok (fields_line f)) (Err no_line)
