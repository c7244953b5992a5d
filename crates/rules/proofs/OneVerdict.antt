-- The rules leave one verdict on a recording. In this order: the frames before a place lead to one state and one store, a stage holds since
-- one frame, one violation, the claim.
use Rattle.std.specs.Prelude.{Ok, Err, Option, Some, None, Result}
use Prim.Native.Nat.{ℕ, ◌<◌}
use mathlib.Core.Path.{◌≡◌, refl, sym, ap, subst, ◌∙◌}
use mathlib.Core.Bool.{Bool, true, false}
use mathlib.Core.List.{List}
use native.Mathlib.Omega.{arith}
use borrow.Author.Tests.{ltb-true, ltb-false}
use lib.Dec.{ltb}
use lib.ListN.{get_or}
use Rattle.frame.specs.Frame.{decode_word}
use Rattle.frame.specs.declared.Frame.{Frame}
use Rattle.guards.specs.declared.Guard.{Guard}
use Rattle.soundness.specs.Soundness.{start}
use Rattle.soundness.specs.declared.State.{State}
use Rattle.reply.specs.declared.Violation.{Violation}
use Rattle.laws.proofs.Logic.{never}
use Rattle.rules.specs.Figures.{Stage, Store, Acts, Steps, Reaches, none, more, start_store, InBlock, Committed, StageAfter, Since, MarkIs, lock_set, ToldBy, RulesFixTheReply}
use Rattle.rules.proofs.Acts.{acted, acts_to}
use Rattle.rules.proofs.Figures.{to, rule, steps_rule}
use Rattle.frame.specs.declared.Refusal.{Refusal}

module _ (P : ℕ → Guard) where
  -- a frame leads to one state and one store
  one_state : {s n m : State} {f g : Frame} → f ≡ g → Acts s f.thread.0 f.action n → Acts s g.thread.0 g.action m → n ≡ m
  one_state {s = s} e a b = acts_to a ∙ ap (λ (h : Frame). acted h.thread.0 h.action s) e ∙ sym (acts_to b)

  one_store : {s : State} {φ ψ χ : Store} {f g : Frame} → f ≡ g → Steps P s φ f.thread.0 f.action ψ → Steps P s φ g.thread.0 g.action χ → ψ ≡ χ
  one_store {s = s} {φ = φ} {ψ = ψ} {χ = χ} {f = f} {g = g} e a b =
      let y : to ψ ≡ to χ =
      sym (steps_rule P s φ f.thread.0 a) ∙ ap (λ (h : Frame). rule P s φ h.thread.0 h.action) e ∙ steps_rule P s φ g.thread.0 b in
      cc

  -- so do the frames before a place
  one_place : {s m n : State} {φ ψ χ : Store} {ws : List ℕ} {i : ℕ} → Reaches P s φ ws i m ψ → Reaches P s φ ws i n χ → (m ≡ n) × (ψ ≡ χ)
  one_place none none = (refl, refl)
  one_place (more {ws = ws} {f = f} {i = i} d a r x) (more {m = n} {ψ = χ} {f = g} e b q y) =
      let z : ◌≡◌ {A = Result Frame Refusal} (Ok f) (Ok g) = sym d ∙ e in
      let h : f ≡ g = cc in
      let k = one_state h a b in
      let l = one_store h r q in
      one_place x (rw (k, l) y)

  module _ (ws : List ℕ) (t : ℕ) (Q : Stage → Type 0) where
    -- Q holds after the frames before a place, or not
    one_answer : {i : ℕ} → StageAfter P ws t i Q → StageAfter P ws t i (λ g. Q g → ⊥) → ⊥
    one_answer (s, φ, x, q) (n, ψ, y, h) = h (subst (λ (χ : Store). Q (χ.stage t)) (one_place x y).1 q)

    -- it holds since one frame, so it has one mark
    not_less : {i b c : ℕ} → Since P ws t Q i b → Since P ws t Q i c → b < c → ⊥
    not_less {c = c} x y l = one_answer (x.from_there c l (omega (arith, y.within))) y.not_before

    one_mark : (i : ℕ) (m n : Option ℕ) → MarkIs P ws t Q i m → MarkIs P ws t Q i n → m ≡ n
    one_mark i (Some b) (Some c) x y = ap Some (go (ltb b c) refl (ltb c b) refl)
      where
        go : (p : Bool) → ltb b c ≡ p → (q : Bool) → ltb c b ≡ q → b ≡ c
        go true e q f = absurd (not_less x y (ltb-true b c e))
        go false e true f = absurd (not_less y x (ltb-true c b f))
        go false e false f = omega (arith, ltb-false b c e, ltb-false c b f)
    one_mark i (Some b) None x y = absurd (one_answer (x.from_there i x.within (omega arith)) y)
    one_mark i None (Some c) x y = absurd (one_answer (y.from_there i y.within (omega arith)) x)
    one_mark i None None x y = refl

-- a violation is its six parts
of_parts : (v u : Violation) → v.kind ≡ u.kind → v.frame ≡ u.frame → v.thread ≡ u.thread → v.begin ≡ u.begin → v.commit ≡ u.commit → v.locks ≡ u.locks → v ≡ u
of_parts v u a b c d e f = rw (sym a, sym b, sym c, sym d, sym e, sym f)

-- the rules tell one violation of a kind at a frame
one_violation : (P : ℕ → Guard) (ws : List ℕ) (v u : Violation) → v.kind ≡ u.kind → v.frame ≡ u.frame → ToldBy P ws v → ToldBy P ws u → v ≡ u
one_violation P ws v u a p x y =
    let z : ◌≡◌ {A = Result Frame Refusal} (Ok x.frame) (Ok y.frame) = sym x.word ∙ ap (λ (i : ℕ). decode_word (get_or ws i 0)) p ∙ y.word in
    let f : x.frame ≡ y.frame = cc in
    let r = (one_place P x.reached (subst (λ (i : ℕ). Reaches P start start_store ws i y.state y.store) (sym p) y.reached)).1 in
    of_parts v u a p
    (x.thread ∙ ap (λ (g : Frame). g.thread) f ∙ sym y.thread)
    (one_mark P ws x.frame.thread.0 InBlock v.frame v.begin u.begin x.begin (there InBlock u.begin f y.begin))
    (one_mark P ws x.frame.thread.0 Committed v.frame v.commit u.commit x.commit (there Committed u.commit f y.commit))
    (x.locks ∙ ap (λ (φ : Store). lock_set P φ x.frame.action) r ∙ ap (λ (g : Frame). lock_set P y.store g.action) f ∙ sym y.locks)
  where
    there : (Q : Stage → Type 0) (m : Option ℕ) {f g : Frame} → f ≡ g → MarkIs P ws g.thread.0 Q u.frame m → MarkIs P ws f.thread.0 Q v.frame m
    there Q m {f} {g} e h =
        subst (λ (g : Frame). MarkIs P ws g.thread.0 Q v.frame m) (sym e) (subst (λ (i : ℕ). MarkIs P ws g.thread.0 Q i m) (sym p) h)

-- The rules leave one verdict.
pub rules_fix_the_reply : RulesFixTheReply
rules_fix_the_reply P ws (Ok _) (Ok _) (a, b, c) (d, e, f) = refl
rules_fix_the_reply P ws (Ok _) (Err u) (a, b, c) (d, e, f) = let y = d.1 (a.0 refl) in never (cc)
rules_fix_the_reply P ws (Err v) (Ok _) (a, b, c) (d, e, f) = let y = a.1 (d.0 refl) in never (cc)
rules_fix_the_reply P ws (Err v) (Err u) (a, b, c) (d, e, f) =
    let (w, y, g, h) = (e v.frame v.kind).1 ((b v.frame v.kind).0 (v, refl, refl, refl)) in
    let z : u ≡ w = cc in
    ap Err (one_violation P ws v u (sym h ∙ ap (λ (x : Violation). x.kind) (sym z)) (sym g ∙ ap (λ (x : Violation). x.frame) (sym z)) (c v refl) (f u refl))
