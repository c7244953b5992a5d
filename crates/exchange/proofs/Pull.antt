-- Pulling elements out decides exchanges, over any elements: exchanges lead from f ∷ l to r exactly if f can be pulled out of r past
-- elements independent of it, and exchanges lead from l to what is left (`pulled_exchanges`, `pulled_out`). So `pull_all` is yes exactly then.
use Prim.Native.Nat.{suc}
use mathlib.Core.Path.{◌≡◌, refl, sym, ap, subst}
use mathlib.Core.Bool.{Bool, true, false, cond, false≢true}
use mathlib.Core.List.{List, [], ◌∷◌}
use Rattle.std.specs.Prelude.{Option, Some, None, option_map}
use native.Mathlib.Omega.{arith}
use lib.ListN.{length}
use Rattle.laws.proofs.Logic.{never}
use Rattle.exchange.specs.Exchange.{Exchange, here, later, Exchanges, done, step}
use Rattle.exchange.specs.Pull.{if_pulled, pull, pull_all}
use Rattle.exchange.proofs.Exchange.{transitive, first, exchanges_length}

module _ {A : Type 0} (independent : A → A → Bool) where
  -- The second list is the first without f, and only elements independent of f stand before it.
  pub data Pulled (f : A) : List A → List A → Type 0 where
    found : {g : A} {l : List A} → f ≡ g → Pulled f (g ∷ l) l
    past : {g : A} {l r : List A} → independent f g ≡ true → Pulled f l r → Pulled f (g ∷ l) (g ∷ r)

  pub pulled_length : {f : A} {l r : List A} → Pulled f l r → length l ≡ suc (length r)
  pulled_length (found e) = refl
  pulled_length (past i p) = ap suc (pulled_length p)

  pub pulled_exchanges : {f : A} {l r : List A} → Pulled f l r → Exchanges independent (f ∷ r) l
  pulled_exchanges (found {g} {l} e) = subst (λ z. Exchanges independent (z ∷ l) (g ∷ l)) (sym e) done
  pulled_exchanges (past i p) = step (here i) (first independent (pulled_exchanges p))

  -- What is left of l, and of m, which exchanges make of l.
  pub record Kept (f : A) (l m : List A) : Type 0 where
    pub left : List A
    pub pulled : Pulled f m left
    pub same : Exchanges independent l left

  keep : {f : A} {l m r : List A} → Exchange independent l m → Pulled f l r → Kept f r m
  keep (here {f = g} {g = h} {l = l} i) (found e) = record { left = h ∷ l; pulled = past (subst (λ z. independent z h ≡ true) (sym e) i) (found e); same = done }
  keep (here {f = g} {g = h} {l = l} i) (past j (found e)) = record { left = g ∷ l; pulled = found e; same = done }
  keep (here {f = g} {g = h} {l = l} i) (past j (past {r = r} k p)) = record { left = h ∷ (g ∷ r); pulled = past k (past j p); same = step (here i) done }
  keep (later {f = g} {l = l} {r = m} x) (found e) = record { left = m; pulled = found e; same = step x done }
  keep (later {f = g} x) (past j p) =
      let k = keep x p in
      record { left = g ∷ k.left; pulled = past j k.pulled; same = first independent k.same }

  keep_all : {f : A} {l m r : List A} → Exchanges independent l m → Pulled f l r → Kept f r m
  keep_all {r = r} done p = record { left = r; pulled = p; same = done }
  keep_all (step x e) p =
      let k = keep x p in
      let a = keep_all e k.pulled in
      record { left = a.left; pulled = a.pulled; same = transitive independent k.same a.same }

  pub pulled_out : {f : A} {l r : List A} → Exchanges independent (f ∷ l) r → Kept f l r
  pulled_out e = keep_all e (found refl)

  -- The test says whether two elements are the same, and no element is independent of itself.
  module _ (same : A → A → Bool) (same-yes : (f g : A) → same f g ≡ true → f ≡ g) (same_self : (f : A) → same f f ≡ true) (never_itself : (f : A) → independent f f ≡ true → ⊥) where
    pull_pulled : (f : A) (l r : List A) → pull same independent f l ≡ Some r → Pulled f l r
    unfolding pull
    pull_pulled f [] r e = never (cc)
    pull_pulled f (g ∷ l) r e = go (same f g) (independent f g) refl refl (pull same independent f l) (pull_pulled f l) e
      where
        go : (a b : Bool) → same f g ≡ a → independent f g ≡ b → (o : Option (List A)) → ((m : List A) → o ≡ Some m → Pulled f l m)
            → cond a (Some l) (cond b (option_map (λ z. g ∷ z) o) None) ≡ Some r → Pulled f (g ∷ l) r
        go true b p q o ih h = let z : l ≡ r = cc in subst (Pulled f (g ∷ l)) z (found (same-yes f g p))
        go false true p q (Some m) ih h = let z : g ∷ m ≡ r = cc in subst (Pulled f (g ∷ l)) z (past q (ih m refl))
        go false true p q None ih h = never (cc)
        go false false p q o ih h = never (cc)

    pulled_pull : {f : A} {l r : List A} → Pulled f l r → pull same independent f l ≡ Some r
    unfolding pull
    pulled_pull {f} (found {g} {l} e) = rw (subst (λ z. same f z ≡ true) e (same_self f))
    pulled_pull {f} (past {g} {l} {r} i p) = go (same f g) refl (pulled_pull p)
      where
        go : (a : Bool) → same f g ≡ a → pull same independent f l ≡ Some r
            → cond a (Some l) (cond (independent f g) (option_map (λ z. g ∷ z) (pull same independent f l)) None) ≡ Some (g ∷ r)
        go true q ih = absurd (never_itself f (subst (λ z. independent f z ≡ true) (sym (same-yes f g q)) i))
        go false q ih = rw (i, ih)

    pub pull_exchanges : (l r : List A) → pull_all same independent l r ≡ true → Exchanges independent l r
    unfolding pull_all
    pull_exchanges [] [] e = done
    pull_exchanges [] (g ∷ r) e = absurd (false≢true e)
    pull_exchanges (f ∷ l) r e = go (pull same independent f r) refl e (pull_exchanges l)
      where
        go : (o : Option (List A)) → pull same independent f r ≡ o → if_pulled o (pull_all same independent l) ≡ true
            → ((m : List A) → pull_all same independent l m ≡ true → Exchanges independent l m) → Exchanges independent (f ∷ l) r
        go None q h ih = absurd (false≢true h)
        go (Some m) q h ih = transitive independent (first independent (ih m h)) (pulled_exchanges (pull_pulled f r m q))

    pub exchanges_pull : (l r : List A) → Exchanges independent l r → pull_all same independent l r ≡ true
    unfolding pull_all
    exchanges_pull [] [] x = refl
    exchanges_pull [] (g ∷ r) x = absurd (let e = exchanges_length independent x in omega arith)
    exchanges_pull (f ∷ l) r x = let k = pulled_out x in rw (pulled_pull k.pulled) (exchanges_pull l k.left k.same)
