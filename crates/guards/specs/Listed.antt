-- Which guard lists are accepted, that line order has no meaning, that the first bytes decide, and that none is too long: claims over what the
-- contract of `read_guards` cites.
-- Quotes are from docs/FORMAT.md.
use Rattle.std.specs.Prelude.{ℕ, ◌+◌, ◌*◌, ◌<◌, ◌≡◌, ◌↔◌, List, length, take, drop, Ok, Err, Some}
use Rattle.frame.specs.Limits.{lock_count, variable_count}
use Rattle.frame.specs.declared.Refusal.TheVariants as refusal
use Rattle.digits.specs.Digits.{line_of}
use Rattle.text.specs.Text.{word_at, most_bytes}
use Rattle.guards.specs.Guards.{guard_variable, guard_lock, guards_read}

-- n lines of nine bytes, each in its ranges, and "each variable at most once".
pub record Listed (s : List ℕ) (n : ℕ) : Type 0 where
  pub size : length s ≡ 9 * n
  pub line_at : (i : ℕ) → i < n → line_of s (9 * i) ≡ Some (word_at s i)
  pub variables : (i : ℕ) → i < n → guard_variable (word_at s i) < variable_count
  pub locks : (i : ℕ) → i < n → guard_lock (word_at s i) < lock_count
  pub distinct : (i j : ℕ) → i < j → j < n → guard_variable (word_at s j) ≡ guard_variable (word_at s i) → ⊥

-- A list is accepted, with n lines, exactly if it is so.
abbrev pub AcceptedIfListed : Type 0
AcceptedIfListed = (s : List ℕ) (n : ℕ) → (guards_read s).reply ≡ Ok n ↔ Listed s n

-- The nine bytes of line i.
abbrev pub line_bytes : List ℕ → ℕ → List ℕ
line_bytes s i = take 9 (drop (9 * i) s)

-- t has the lines of s, n of nine bytes each, in another order: line i of s is line `to i` of t, and line j of t is line `from j` of s.
pub record Rearranged (s t : List ℕ) (n : ℕ) : Type 0 where
  pub to : ℕ → ℕ
  pub from : ℕ → ℕ
  pub size_s : length s ≡ 9 * n
  pub size_t : length t ≡ 9 * n
  pub to_within : (i : ℕ) → i < n → to i < n
  pub from_within : (j : ℕ) → j < n → from j < n
  pub to_from : (j : ℕ) → j < n → to (from j) ≡ j
  pub from_to : (i : ℕ) → i < n → from (to i) ≡ i
  pub same : (i : ℕ) → i < n → line_bytes t (to i) ≡ line_bytes s i

-- "Line order in it has no meaning": a rearranged accepted list is accepted, and gives the same table of guards.
abbrev pub LineOrderHasNoMeaning : Type 0
LineOrderHasNoMeaning =
    (s t : List ℕ) (n : ℕ) → Rearranged s t n → (guards_read s).reply ≡ Ok n
    → ((guards_read t).reply ≡ Ok n) × ((guards_read t).table ≡ (guards_read s).table)

-- The first 36,865 bytes of a list decide what is answered, as those of a text do.
abbrev pub FirstBytesDecideLists : Type 0
FirstBytesDecideLists = (s : List ℕ) → guards_read (take (most_bytes + 1) s) ≡ guards_read s

-- A guard list is never refused by 2: line 1,024 at the latest is refused by another number.
abbrev pub ListsAreNeverTooLong : Type 0
ListsAreNeverTooLong = (s : List ℕ) (p : ℕ) → (guards_read s).reply ≡ Err (record { reason = refusal.TooLong; place = p }) → ⊥
