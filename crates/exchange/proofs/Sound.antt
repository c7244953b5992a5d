-- Exchanges keep a recording sound, and the state at its end. In this order: a frame as a test and a change of one cell; two frames in either
-- order; one exchange; exchanges.
use Rattle.std.specs.Prelude.{Ok}
use Prim.Native.Nat.{ℕ, ◌+◌, ◌-◌, ◌≤◌}
use mathlib.Core.Path.{◌≡◌, refl, sym, ap, ◌∙◌, subst}
use mathlib.Core.Bool.{Bool, true, false, cond, not, ◌&&◌, ◌||◌, false≢true}
use mathlib.Core.List.{List, ◌∷◌}
use lib.Dec.{eqb, leb}
use lib.ListN.{get_or, set}
use native.Mathlib.Omega.{arith}
use lib.Seq.{get_or-set_other, set-get_or, set_comm}
use borrow.Author.Tests.{eq-eqb, ne_eqb, le-leb, lt-leb, eqb-false, not-true}
use Rattle.std.proofs.lemmas.Bool.{and_parts}
use Rattle.laws.proofs.Lists.{set_twice}
use Rattle.frame.specs.Limits.{most_frames, deepest, most_held}
use Rattle.frame.specs.Frame.{decode_word}
use Rattle.frame.specs.declared.Action.{Action}
use Rattle.frame.specs.declared.Action.TheVariants.{Acquire, Release, Read, Write, Begin, End}
use Rattle.frame.specs.declared.Frame.{Frame}
use Rattle.frame.specs.declared.Lock.{Lock}
use Rattle.frame.specs.declared.Refusal.TheVariants as refusal
use Rattle.soundness.proofs.Laws.{check_short, sound_fits, sound_first, spared, Acquired, took, took_again, acquired, Released, freed, let_go, released}
use Rattle.soundness.specs.Soundness.{state_of, owner_of, count_of, Checked, stepped, step_action, step_frame, check_from, check_reply, start}
use Rattle.soundness.specs.declared.State.{State}
use Rattle.soundness.specs.declared.Level.{Level}
use Rattle.soundness.specs.declared.Level.TheVariants.{Outer, Inner}
use Rattle.exchange.specs.Independent.{clash, independent}
use Rattle.exchange.specs.Exchange.{Exchange, here, later, Exchanges, done, step, independent_words}
use Rattle.exchange.proofs.Exchange.{exchanges_length}

-- What a frame does: it tests and sets the owner and the count of one lock, or the depth of one thread, or nothing.
data Cell : Type 0 where
  lock : ℕ → (ℕ → ℕ → Bool) → (ℕ → ℕ → ℕ) → (ℕ → ℕ → ℕ) → Cell
  depth : ℕ → (ℕ → Bool) → (ℕ → ℕ) → Cell
  none : Cell

abbrev cell_of : ℕ → Action → Cell
cell_of t (Acquire l) =
    lock l.0 (λ x n. eqb x 0 || (eqb x (t + 1) && not (leb most_held n))) (λ x n. cond (eqb x 0) (t + 1) x) (λ x n. cond (eqb x 0) 1 (n + 1))
cell_of t (Release l) = lock l.0 (λ x n. eqb x (t + 1)) (λ x n. cond (leb n 1) 0 x) (λ x n. cond (leb n 1) 0 (n - 1))
cell_of t (Read v) = none
cell_of t (Write v) = none
cell_of t Begin = depth t (λ x. not (leb deepest x)) (λ x. x + 1)
cell_of t End = depth t (λ x. not (eqb x 0)) (λ x. x - 1)

abbrev passes : Cell → State → Bool
passes (lock m ok o c) s = ok (get_or s.owners m 0) (get_or s.counts m 0)
passes (depth t ok to) s = ok (get_or s.depths t 0)
passes none s = true

abbrev change : Cell → State → State
change (lock m ok o c) s =
    state_of (set s.owners m (o (get_or s.owners m 0) (get_or s.counts m 0))) (set s.counts m (c (get_or s.owners m 0) (get_or s.counts m 0))) s.depths
change (depth t ok to) s = state_of s.owners s.counts (set s.depths t (to (get_or s.depths t 0)))
change none s = s

-- a step on is a test passed and the change
abbrev Does : ℕ → Action → State → State → Type 0
Does t a s n = (passes (cell_of t a) s ≡ true) × (n ≡ change (cell_of t a) s)

does_acquire : (t : ℕ) (l : Lock) (s : State) {x : Level} {n : State} → Acquired t l s x n → Does t (Acquire l) s n
does_acquire t l s (took e) = (rw e, rw e)
does_acquire t l s (took_again e h) =
    let z : eqb (owner_of l s) 0 ≡ false = ne_eqb (owner_of l s) 0 (λ q. omega arith) in
    (rw (z, eq-eqb (owner_of l s) (t + 1) e, lt-leb most_held (count_of l s) h), rw (z, set-get_or s.owners l.0 0))

does_release : (t : ℕ) (l : Lock) (s : State) {x : Level} {n : State} → Released t l s x n → Does t (Release l) s n
does_release t l s (freed e h) = (eq-eqb (owner_of l s) (t + 1) e, rw (le-leb (count_of l s) 1 h))
does_release t l s (let_go e h) = (eq-eqb (owner_of l s) (t + 1) e, rw (lt-leb (count_of l s) 1 h, set-get_or s.owners l.0 0))

does : {x : Level} (t : ℕ) (a : Action) (s n : State) → step_action t a s ≡ stepped (Ok x) n → Does t a s n
unfolding step_action
does t (Acquire l) s n e = does_acquire t l s (acquired t l s e)
does t (Release l) s n e = does_release t l s (released t l s e)
does t (Read v) s n e = (refl, sym (ap (λ x. x.state) e))
does t (Write v) s n e = (refl, sym (ap (λ x. x.state) e))
does t Begin s n e = let q = spared (leb deepest (get_or s.depths t 0)) refusal.TooDeep s _ n e in (rw q.0, q.1)
does t End s n e = let q = spared (eqb (get_or s.depths t 0) 0) refusal.NoOpenBlock s _ n e in (rw q.0, q.1)

abbrev Steps : ℕ → Action → State → Type 0
Steps t a s = (x : Level) × (step_action t a s ≡ stepped (Ok x) (change (cell_of t a) s))

steps_acquire : (t : ℕ) (l : Lock) (s : State) (a b d : Bool) → eqb (owner_of l s) 0 ≡ a → eqb (owner_of l s) (t + 1) ≡ b → leb most_held (count_of l s) ≡ d
    → a || (b && not d) ≡ true → Steps t (Acquire l) s
unfolding step_action
steps_acquire t l s true b d p q r e = (Outer, rw p)
steps_acquire t l s false true true p q r e = absurd (false≢true e)
steps_acquire t l s false true false p q r e = (Inner, rw (p, q, r, set-get_or s.owners l.0 0))
steps_acquire t l s false false d p q r e = absurd (false≢true e)

steps_release : (t : ℕ) (l : Lock) (s : State) (b : Bool) → leb (count_of l s) 1 ≡ b → eqb (owner_of l s) (t + 1) ≡ true → Steps t (Release l) s
unfolding step_action
steps_release t l s true p e = (Outer, rw (e, p))
steps_release t l s false p e = (Inner, rw (e, p, set-get_or s.owners l.0 0))

steps : (t : ℕ) (a : Action) (s : State) → passes (cell_of t a) s ≡ true → Steps t a s
unfolding step_action
steps t (Acquire l) s e = steps_acquire t l s (eqb (owner_of l s) 0) (eqb (owner_of l s) (t + 1)) (leb most_held (count_of l s)) refl refl refl e
steps t (Release l) s e = steps_release t l s (leb (count_of l s) 1) refl e
steps t (Read v) s e = (Outer, refl)
steps t (Write v) s e = (Outer, refl)
steps t Begin s e = (Outer, rw (not-true (leb deepest (get_or s.depths t 0)) e))
steps t End s e = (Outer, rw (not-true (eqb (get_or s.depths t 0) 0) e))

-- not the same cell
abbrev Apart : Cell → Cell → Type 0
Apart (lock m ok o c) (lock k ok' o' c') = k ≡ m → ⊥
Apart (lock m ok o c) (depth u ok' to') = Unit {0}
Apart (lock m ok o c) none = Unit {0}
Apart (depth t ok to) (lock k ok' o' c') = Unit {0}
Apart (depth t ok to) (depth u ok' to') = u ≡ t → ⊥
Apart (depth t ok to) none = Unit {0}
Apart none q = Unit {0}

test_kept : (p q : Cell) (s : State) → Apart p q → passes q (change p s) ≡ passes q s
test_kept (lock m ok o c) (lock k ok' o' c') s a = rw (get_or-set_other s.owners m k _ 0 a, get_or-set_other s.counts m k _ 0 a)
test_kept (lock m ok o c) (depth u ok' to') s a = refl
test_kept (lock m ok o c) none s a = refl
test_kept (depth t ok to) (lock k ok' o' c') s a = refl
test_kept (depth t ok to) (depth u ok' to') s a = ap ok' (get_or-set_other s.depths t u _ 0 a)
test_kept (depth t ok to) none s a = refl
test_kept none q s a = refl

changes : (p q : Cell) (s : State) → Apart p q → change q (change p s) ≡ change p (change q s)
changes (lock m ok o c) (lock k ok' o' c') s a =
    let b : m ≡ k → ⊥ = λ e. a (sym e) in
    rw (get_or-set_other s.owners m k _ 0 a, get_or-set_other s.counts m k _ 0 a, get_or-set_other s.owners k m _ 0 b, get_or-set_other s.counts k m _ 0 b, set_comm s.owners m k _ _ b, set_comm s.counts m k _ _ b)
changes (lock m ok o c) (depth u ok' to') s a = refl
changes (lock m ok o c) none s a = refl
changes (depth t ok to) (lock k ok' o' c') s a = refl
changes (depth t ok to) (depth u ok' to') s a = ap (λ d. state_of s.owners s.counts d) (set_twice s.depths t u to to' a)
changes (depth t ok to) none s a = refl
changes none q s a = refl

back : (p q : Cell) → Apart p q → Apart q p
back (lock m ok o c) (lock k ok' o' c') a = λ e. a (sym e)
back (lock m ok o c) (depth u ok' to') a = tt
back (lock m ok o c) none a = tt
back (depth t ok to) (lock k ok' o' c') a = tt
back (depth t ok to) (depth u ok' to') a = λ e. a (sym e)
back (depth t ok to) none a = tt
back none (lock k ok' o' c') a = tt
back none (depth u ok' to') a = tt
back none none a = tt

-- independent frames touch different cells
cells : (t u : ℕ) (a b : Action) → (t ≡ u → ⊥) → clash a b ≡ false → Apart (cell_of t a) (cell_of u b)
cells t u (Acquire l) (Acquire k) n e = λ z. eqb-false l.0 k.0 e (sym z)
cells t u (Acquire l) (Release k) n e = λ z. eqb-false l.0 k.0 e (sym z)
cells t u (Acquire l) (Read v) n e = tt
cells t u (Acquire l) (Write v) n e = tt
cells t u (Acquire l) Begin n e = tt
cells t u (Acquire l) End n e = tt
cells t u (Release l) (Acquire k) n e = λ z. eqb-false l.0 k.0 e (sym z)
cells t u (Release l) (Release k) n e = λ z. eqb-false l.0 k.0 e (sym z)
cells t u (Release l) (Read v) n e = tt
cells t u (Release l) (Write v) n e = tt
cells t u (Release l) Begin n e = tt
cells t u (Release l) End n e = tt
cells t u (Read v) b n e = tt
cells t u (Write v) b n e = tt
cells t u Begin (Acquire k) n e = tt
cells t u Begin (Release k) n e = tt
cells t u Begin (Read v) n e = tt
cells t u Begin (Write v) n e = tt
cells t u Begin Begin n e = λ z. n (sym z)
cells t u Begin End n e = λ z. n (sym z)
cells t u End (Acquire k) n e = tt
cells t u End (Release k) n e = tt
cells t u End (Read v) n e = tt
cells t u End (Write v) n e = tt
cells t u End Begin n e = λ z. n (sym z)
cells t u End End n e = λ z. n (sym z)

-- Two independent frames, in the other order.
record Turned (f g : Frame) (s k : State) : Type 0 where
  between : State
  early : Level
  late : Level
  first : step_frame g s ≡ stepped (Ok early) between
  second : step_frame f between ≡ stepped (Ok late) k

turn : {x y : Level} (f g : Frame) (s n k : State) → independent f g ≡ true → step_frame f s ≡ stepped (Ok x) n → step_frame g n ≡ stepped (Ok y) k
    → Turned f g s k
turn f g s n k i a b = record {
  between = change q s;
  early = (steps u g.action s q_first).0;
  late = (steps t f.action (change q s) p_second).0;
  first = (steps u g.action s q_first).1;
  second = (steps t f.action (change q s) p_second).1 ∙ ap (stepped (Ok _)) (sym (changes p q s c) ∙ sym at_end);
}
  where
    t : ℕ
    t = f.thread.0

    u : ℕ
    u = g.thread.0

    p : Cell
    p = cell_of t f.action

    q : Cell
    q = cell_of u g.action

    apart : (eqb t u ≡ false) × (clash f.action g.action ≡ false)
    apart = let z = and_parts _ _ i in (not-true _ z.0, not-true _ z.1)

    c : Apart p q
    c = cells t u f.action g.action (eqb-false t u apart.0) apart.1

    at_end : k ≡ change q (change p s)
    at_end = (does u g.action n k b).1 ∙ ap (change q) (does t f.action s n a).1

    q_first : passes q s ≡ true
    q_first = sym (test_kept p q s c) ∙ (ap (passes q) (sym (does t f.action s n a).1) ∙ (does u g.action n k b).0)

    p_second : passes p (change q s) ≡ true
    p_second = test_kept q p s (back p q c) ∙ (does t f.action s n a).0

-- the pass goes on behind a frame that steps
pub goes_on : {x : Level} (i : ℕ) (s n : State) (w : ℕ) (ws : List ℕ) (f : Frame) → decode_word w ≡ Ok f → step_frame f s ≡ stepped (Ok x) n
    → check_from i s (w ∷ ws) ≡ check_from (i + 1) n ws
unfolding check_from
goes_on i s n w ws f d g = rw (d, g)

independent_frames : (w v : ℕ) (f g : Frame) → decode_word w ≡ Ok f → decode_word v ≡ Ok g → independent_words w v ≡ true
    → independent f g ≡ true
independent_frames w v f g d e i = rw (d, e) at i

-- one exchange
exchange_check : {l r : List ℕ} → Exchange independent_words l r → (i : ℕ) (s : State) → (check_from i s l).reply ≡ (Ok tt)
    → check_from i s l ≡ check_from i s r
exchange_check (here {f = w} {g = v} {l = l} x) i s e =
    let a = sound_first i s w (v ∷ l) e in
    let b = sound_first (i + 1) a.next v l a.rest in
    let q = turn a.frame b.frame s a.next b.next (independent_frames w v a.frame b.frame a.is b.is x) a.passes b.passes in
    goes_on i s a.next w (v ∷ l) a.frame a.is a.passes
    ∙ (goes_on (i + 1) a.next b.next v l b.frame b.is b.passes
    ∙ sym (goes_on i s q.between v (w ∷ l) b.frame b.is q.first
    ∙ goes_on (i + 1) q.between b.next w l a.frame a.is q.second))
exchange_check (later {f = w} {l = l} {r = r} x) i s e =
    let a = sound_first i s w l e in
    goes_on i s a.next w l a.frame a.is a.passes
    ∙ (exchange_check x (i + 1) a.next a.rest ∙ sym (goes_on i s a.next w r a.frame a.is a.passes))

-- exchanges change neither the reply nor the state that the pass leaves
exchanges_check : {l r : List ℕ} → Exchanges independent_words l r → (i : ℕ) (s : State) → (check_from i s l).reply ≡ (Ok tt)
    → check_from i s l ≡ check_from i s r
exchanges_check done i s e = refl
exchanges_check (step x y) i s e =
    let q = exchange_check x i s e in
    q ∙ exchanges_check y i s (ap (λ (c : Checked). c.reply) (sym q) ∙ e)

module _ {l r : List ℕ} (x : Exchanges independent_words l r) (e : check_reply l ≡ (Ok tt)) where
  from_start : check_from 0 start l ≡ check_from 0 start r
  from_start = exchanges_check x 0 start (sym (check_short l (sound_fits l e)) ∙ e)

  -- What exchanges make of a sound recording is sound.
  pub exchanges_sound : check_reply r ≡ (Ok tt)
  exchanges_sound =
      check_short r (subst (λ n. n ≤ most_frames) (exchanges_length independent_words x) (sound_fits l e))
      ∙ (ap (λ (c : Checked). c.reply) (sym from_start) ∙ (sym (check_short l (sound_fits l e)) ∙ e))
