-- The locks that a thread holds, as a set: by the owners, and as the code keeps them in a table of one set for each thread.
-- Quotes are from docs/FORMAT.md.
use Rattle.std.specs.Prelude.{ℕ, ◌+◌, ◌-◌, ◌*◌, ◌^◌, ◌≤◌, ◌<◌, ◌≡◌, cond, List, [], ◌∷◌, eqb, length, get_or, set, replicate, Ok, Err}
use Rattle.frame.specs.Limits.{thread_count, lock_count, variable_count}
use Rattle.reply.specs.Reply.{Verdict}
use Rattle.instrumented.specs.declared.Threads.{Threads}
use Rattle.operation.specs.declared.Operation.{Operation}
use Rattle.operation.specs.declared.Operation.TheVariants.{Acquire, Release, Protected, Unprotected, Inferred, Begin, End}

-- The set of the locks that thread t holds: "Lock n is bit n of a 64-bit set." Owners are 0, or a thread's number plus 1.
abbrev pub held_set : ℕ → List ℕ → ℕ
held_set t [] = 0
held_set t (o ∷ os) = cond (eqb o (t + 1)) 1 0 + 2 * held_set t os

-- The operation's objects are in range, and its lock can be added to or taken from the held set h.
abbrev pub Holdable : Operation → ℕ → Type 0
Holdable (Acquire l) h = (l.0 < lock_count) × (h + 2 ^ l.0 < 18446744073709551616)
Holdable (Release l) h = (l.0 < lock_count) × (2 ^ l.0 ≤ h)
Holdable (Protected m) h = m.0 < lock_count
Holdable Unprotected h = Unit {0}
Holdable (Inferred v) h = v.0 < variable_count
Holdable Begin h = Unit {0}
Holdable End h = Unit {0}

-- The table of held sets after an operation of thread t that does not go wrong.
abbrev pub held : ℕ → Operation → List ℕ → List ℕ
held t (Acquire l) hs = set hs t (get_or hs t 0 + 2 ^ l.0)
held t (Release l) hs = set hs t (get_or hs t 0 - 2 ^ l.0)
held t (Protected m) hs = hs
held t Unprotected hs = hs
held t (Inferred v) hs = hs
held t Begin hs = hs
held t End hs = hs

abbrev pub holding : Verdict → ℕ → Operation → List ℕ → List ℕ
holding (Ok _) t o hs = held t o hs
holding (Err v) t o hs = hs

-- "A recording starts with no lock held and no block open."
abbrev pub start_threads : Threads
start_threads = record { held = replicate thread_count 0; begins = replicate thread_count 0; commits = replicate thread_count 0 }

-- The table of held sets is that of the owners.
pub record Follows (held owners : List ℕ) : Type 0 where
  pub owners_long : length owners ≡ lock_count
  pub held_long : length held ≡ thread_count
  pub are : (t : ℕ) → t < thread_count → get_or held t 0 ≡ held_set t owners
