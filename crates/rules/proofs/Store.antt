-- The paper's store in the state of the pass. In this order: the locks held, the store of a state, how it changes, the stages.
use Prim.Native.Nat.{ℕ, zero, suc, ◌+◌, ◌*◌, ◌/◌, ◌%◌, ◌<◌}
use mathlib.Core.Path.{◌≡◌, refl, sym, ap, ◌∙◌, fun_ext}
use mathlib.Core.Bool.{Bool, true, false, cond}
use mathlib.Core.List.{List, [], ◌∷◌}
use native.Mathlib.Omega.{arith}
use borrow.Author.Tests.{eqb-true, ne_eqb}
use lib.Dec.{eqb}
use lib.ListN.{length, get_or, set}
use lib.Seq.{set-get_or}
use Rattle.frame.specs.Limits.{thread_count, variable_count}
use Rattle.frame.specs.declared.Lock.{Lock}
use Rattle.instrumented.specs.Rules.{Judging, judging_of, contains, committed}
use Rattle.instrumented.specs.Held.{held_set}
use Rattle.laws.proofs.Logic.{never}
use Rattle.laws.proofs.Lists.{get_or_set}
use Rattle.judge.proofs.Held.{mine, mine_other}
use Rattle.rules.proofs.Bits.{bit, bit_zero, bit_suc, none_in}
use Rattle.rules.specs.Figures.{Stage, Outside, PreCommit, PostCommit, Store, put_stage, put_locks}

-- the lowest bit of a held set, and the others
held_low : (b : Bool) (h : ℕ) → (cond b 1 0 + 2 * h) % 2 ≡ cond b 1 0
held_low true h = omega arith
held_low false h = omega arith

held_half : (b : Bool) (h : ℕ) → (cond b 1 0 + 2 * h) / 2 ≡ h
held_half true h = omega arith
held_half false h = omega arith

-- bit m of the held set says whether the thread owns lock m
held_bit : (t : ℕ) (os : List ℕ) (m : ℕ) → bit (held_set t os) m ≡ mine t (get_or os m 0)
held_bit t [] m = none_in m ∙ sym (mine_other t 0 (omega arith))
held_bit t (o ∷ os) zero = bit_zero (held_set t (o ∷ os)) ∙ held_low (eqb o (t + 1)) (held_set t os)
held_bit t (o ∷ os) (suc m) =
    bit_suc (held_set t (o ∷ os)) m ∙ ap (λ (n : ℕ). bit n m) (held_half (eqb o (t + 1)) (held_set t os)) ∙ held_bit t os m

-- so the held set has the locks that the thread owns
is_one : (b : Bool) → eqb (cond b 1 0) 1 ≡ b
is_one true = refl
is_one false = refl

pub held_is : (t : ℕ) (os : List ℕ) (m : Lock) → contains (held_set t os) m ≡ eqb (get_or os m.0 0) (t + 1)
held_is t os m = ap (λ (n : ℕ). eqb n 1) (held_bit t os m.0) ∙ is_one (eqb (get_or os m.0 0) (t + 1))

-- The stage of a thread at depth d with commit c, as in `phase_of`, and the store of a state.
abbrev pub stage_at : ℕ → ℕ → Stage
stage_at d c = cond (eqb d 0) Outside (cond (eqb c 0) PreCommit PostCommit)

abbrev pub store_of : List ℕ → Judging → Store
store_of depths j = record { stage = λ u. stage_at (get_or depths u 0) (get_or j.commits u 0); locks = λ x. get_or j.sets x 0 }

-- The lists have an entry for each thread and each variable.
pub record Sized (depths : List ℕ) (j : Judging) : Type 0 where
  pub depths_long : length depths ≡ thread_count
  pub begins_long : length j.begins ≡ thread_count
  pub commits_long : length j.commits ≡ thread_count
  pub sets_long : length j.sets ≡ variable_count

-- the stage by a test
stage_cond : (b : Bool) (d c e f : ℕ) → stage_at (cond b d e) (cond b c f) ≡ cond b (stage_at d c) (stage_at e f)
stage_cond true d c e f = refl
stage_cond false d c e f = refl

-- a thread's stage set to what it is
pub stays : (φ : Store) (t : ℕ) (g : Stage) → φ.stage t ≡ g → put_stage φ t g ≡ φ
stays φ t g e = ap (λ (s : ℕ → Stage). record { stage = s; locks = φ.locks }) (fun_ext (λ u. go u (eqb u t) refl))
  where
    go : (u : ℕ) (b : Bool) → eqb u t ≡ b → cond (eqb u t) g (φ.stage u) ≡ φ.stage u
    go u true q = rw (q, eqb-true u t q) (sym e)
    go u false q = rw q

module _ (depths : List ℕ) (j : Judging) (z : Sized depths j) where
  -- a store to a variable's set
  pub narrowed : (x l : ℕ) → x < variable_count → store_of depths (judging_of j.begins j.commits (set j.sets x l)) ≡ put_locks (store_of depths j) x l
  narrowed x l h =
      ap (λ (g : ℕ → ℕ). record { stage = (store_of depths j).stage; locks = g })
      (fun_ext (λ y. get_or_set j.sets x l y (omega (arith, z.sets_long))))

  module _ (t : ℕ) (small : t < thread_count) where
    -- a store to a thread's depth and commit
    pub moved : (b : List ℕ) (d c : ℕ) → store_of (set depths t d) (judging_of b (set j.commits t c) j.sets) ≡ put_stage (store_of depths j) t (stage_at d c)
    moved b d c = ap (λ (g : ℕ → Stage). record { stage = g; locks = (store_of depths j).locks }) (fun_ext go)
      where
        go : (u : ℕ) → stage_at (get_or (set depths t d) u 0) (get_or (set j.commits t c) u 0) ≡ cond (eqb u t) (stage_at d c) ((store_of depths j).stage u)
        go u =
            rw (get_or_set depths t d u (omega (arith, z.depths_long)), get_or_set j.commits t c u (omega (arith, z.commits_long)))
            (stage_cond (eqb u t) d c (get_or depths u 0) (get_or j.commits u 0))

    -- to its depth alone, and to its commit alone
    pub deepened : (d : ℕ) → store_of (set depths t d) j ≡ put_stage (store_of depths j) t (stage_at d (get_or j.commits t 0))
    deepened d =
        ap (λ (c : List ℕ). store_of (set depths t d) (judging_of j.begins c j.sets)) (sym (set-get_or j.commits t 0))
        ∙ moved j.begins d (get_or j.commits t 0)

    pub committing : (c : ℕ) → store_of depths (judging_of j.begins (set j.commits t c) j.sets) ≡ put_stage (store_of depths j) t (stage_at (get_or depths t 0) c)
    committing c =
        ap (λ (l : List ℕ). store_of l (judging_of j.begins (set j.commits t c) j.sets)) (sym (set-get_or depths t 0))
        ∙ moved j.begins (get_or depths t 0) c

-- a thread in a block is not outside, and after its commit it is after commit
pub stage_in : (d c : ℕ) → eqb d 0 ≡ false → stage_at d c ≡ Outside → ⊥
stage_in d c e p = let q : cond (eqb c 0) PreCommit PostCommit ≡ Outside = rw e at p in go (eqb c 0) q
  where
    go : (b : Bool) → cond b PreCommit PostCommit ≡ Outside → ⊥
    go true q = never (cc)
    go false q = never (cc)

pub stage_committed : (d c i : ℕ) → eqb d 0 ≡ false → stage_at d (committed d c i) ≡ PostCommit
stage_committed d c i e = rw e (go (eqb c 0) refl)
  where
    go : (b : Bool) → eqb c 0 ≡ b → cond (eqb (cond (eqb c 0) (i + 1) c) 0) PreCommit PostCommit ≡ PostCommit
    go true q = rw (q, ne_eqb (i + 1) 0 (omega arith))
    go false q = simp q

-- at a depth other than 0 the stage is the commit's
pub stage_deep : (d e c : ℕ) → (d ≡ 0 → ⊥) → (e ≡ 0 → ⊥) → stage_at d c ≡ stage_at e c
stage_deep d e c p q = rw (ne_eqb d 0 p, ne_eqb e 0 q)
