-- What a 32-bit word means as a frame, and the word of a frame.
-- "A frame is a 32-bit word: operation in the top 8 bits, thread in the next 8, object in the low 16."
-- Quotes are from docs/FORMAT.md.
use Rattle.std.specs.Prelude.{ℕ, ◌+◌, ◌*◌, ◌/◌, ◌%◌, ◌<◌, Bool, List, cond, ltb, leb, eqb, get_or, Result, Ok, Err, Option, Some, None}
use Rattle.frame.specs.Limits.{thread_count, lock_count, variable_count}
use Rattle.frame.specs.Refusal.{refused_at}
use Rattle.frame.specs.declared.Frame.{Frame}
use Rattle.frame.specs.declared.Refused.{Refused}
use Rattle.frame.specs.declared.Action.{Action}
use Rattle.frame.specs.declared.Action.TheVariants.{Acquire, Release, Read, Write, Begin, End}
use Rattle.frame.specs.declared.Refusal.{Refusal}
use Rattle.frame.specs.declared.Refusal.TheVariants as refusal
use Rattle.frame.specs.declared.Parts.{Parts}

-- The table's objects: "lock 0 to 63" for the operations 1 and 2, "variable 0 to 1023" for 3 and 4, "0" for 5 and 6.
abbrev pub object_fits : ℕ → ℕ → Bool
object_fits op o = cond (leb op 2) (ltb o lock_count) (cond (leb op 4) (ltb o variable_count) (eqb o 0))

-- The table's meanings of the operations 1 to 6.
abbrev pub action_of : ℕ → ℕ → Action
action_of op o =
    cond (eqb op 1) (Acquire (record { 0 = o }))
    (cond (eqb op 2) (Release (record { 0 = o }))
    (cond (eqb op 3) (Read (record { 0 = o }))
    (cond (eqb op 4) (Write (record { 0 = o }))
    (cond (eqb op 5) Begin End))))

-- "4: operation not 1 to 6 .. 5: thread above 31 .. 6: object outside the table of operations .. the lowest number wins"
unfoldable pub decode_parts : ℕ → ℕ → ℕ → Result Frame Refusal
decode_parts op t o =
    cond (ltb op 1) (Err refusal.Operation)
    (cond (ltb 6 op) (Err refusal.Operation)
    (cond (leb thread_count t) (Err refusal.Thread)
    (cond (object_fits op o) (Ok (record { thread = record { 0 = t }; action = action_of op o }))
    (Err refusal.Object))))

abbrev pub decode_word : ℕ → Result Frame Refusal
decode_word w = decode_parts (w / 16777216) (w / 65536 % 256) (w % 65536)

-- The same with its place.
abbrev pub placed : ℕ → Result Frame Refusal → Result Frame Refused
placed i (Ok f) = Ok f
placed i (Err r) = Err (refused_at r i)

-- The frame at place i of a recording.
abbrev pub frame_at : List ℕ → ℕ → Result Frame Refused
frame_at ws i = placed i (decode_word (get_or ws i 0))

-- The parts as numbers: "operation not 1 to 6", "thread above 31" and objects above all of the table are bad. Whether an object fits its
-- operation is left open.
unfoldable pub split_parts : ℕ → ℕ → ℕ → Option Parts
split_parts op t o =
    cond (ltb op 1) None
    (cond (leb 7 op) None
    (cond (leb thread_count t) None
    (cond (leb variable_count o) None (Some (record { operation = op; thread = record { 0 = t }; object = o })))))

abbrev pub split_word : ℕ → Option Parts
split_word w = split_parts (w / 16777216) (w / 65536 % 256) (w % 65536)

-- The word with these three parts.
abbrev pub word_of : ℕ → ℕ → ℕ → ℕ
word_of op t o = op * 16777216 + t * 65536 + o

abbrev pub encode_parts : ℕ → Action → ℕ
encode_parts t (Acquire l) = word_of 1 t l.0
encode_parts t (Release l) = word_of 2 t l.0
encode_parts t (Read v) = word_of 3 t v.0
encode_parts t (Write v) = word_of 4 t v.0
encode_parts t Begin = word_of 5 t 0
encode_parts t End = word_of 6 t 0

abbrev pub encode_frame : Frame → ℕ
encode_frame f = encode_parts f.thread.0 f.action

-- The numbers of a frame are in the table's ranges.
abbrev pub ObjectInRange : Action → Type 0
ObjectInRange (Acquire l) = l.0 < lock_count
ObjectInRange (Release l) = l.0 < lock_count
ObjectInRange (Read v) = v.0 < variable_count
ObjectInRange (Write v) = v.0 < variable_count
ObjectInRange Begin = Unit {0}
ObjectInRange End = Unit {0}

pub record InRange (f : Frame) : Type 0 where
  pub thread : f.thread.0 < thread_count
  pub object : ObjectInRange f.action
