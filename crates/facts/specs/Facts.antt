-- What is known of a place of a recording, and of a violation.
use Rattle.std.specs.Prelude.{ℕ, List, get_or, Result, Ok, Err, Option, Some, None}
use Rattle.frame.specs.Frame.{decode_word}
use Rattle.frame.specs.declared.Refusal.TheVariants as refusal
use Rattle.frame.specs.declared.Thread.{Thread}
use Rattle.reply.specs.declared.Violation.{Violation}
use Rattle.phrase.specs.declared.Source.{Source}
use Rattle.sentence.specs.declared.Facts.{Facts}
use Rattle.frame.specs.declared.Refusal.{Refusal}
use Rattle.frame.specs.declared.Frame.{Frame}

-- The place of a mark, and 0 where it is absent (no sentence shows that).
abbrev pub place_of : Option ℕ → ℕ
place_of (Some i) = i
place_of None = 0

-- The thread of a frame, and thread 0 where it is no frame (no sentence shows that).
abbrev pub thread_in : Result Frame Refusal → Thread
thread_in (Ok f) = f.thread
thread_in (Err r) = record { 0 = 0 }

-- What is known of a place of a recording alone. A place outside it has no frame, and nothing commits (no sentence shows that).
abbrev pub place_facts : Source → List ℕ → ℕ → Facts
place_facts s ws p = record {
  source = s;
  place = p;
  frame = decode_word (get_or ws p 0);
  thread = thread_in (decode_word (get_or ws p 0));
  begin = 0;
  commit = 0;
  by = Err refusal.Operation;
  locks = 0;
}

-- What is known of a violation.
abbrev pub violation_facts : Source → List ℕ → Violation → Facts
violation_facts s ws v = record {
  source = s;
  place = v.frame;
  frame = decode_word (get_or ws v.frame 0);
  thread = v.thread;
  begin = place_of v.begin;
  commit = place_of v.commit;
  by = decode_word (get_or ws (place_of v.commit) 0);
  locks = v.locks;
}
