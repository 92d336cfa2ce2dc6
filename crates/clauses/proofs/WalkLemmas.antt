-- Walks over literals: what one list gives, and lists one after another.
use Rattle.std.proofs.Common.{◌≡◌, ℕ, Bool, true, false, List, [], ◌∷◌, ◌++◌, map, Option, Some, None, inl, inr, refl}
use Rattle.std.proofs.Common.{sym, ap, ◌∙◌, subst, cond}
use Rattle.std.specs.Prelude.{find, flat_map}
use Rattle.decisions.specs.Literals.{Lit, Pos}
use Rattle.clauses.specs.Walks.{IsFirstTrue}

module _ {X : Type 0} (answers : X → Bool → Type 0) where
  -- what passes in the front passes first
  pub first-front : (xs ys : List X) (x : X) → IsFirstTrue answers xs (Some x) → IsFirstTrue answers (xs ++ ys) (Some x)
  first-front [] ys x e = absurd (cc)
  first-front (y ∷ xs) ys x (inl h) = inl h
  first-front (y ∷ xs) ys x (inr h) = inr (h.0, first-front xs ys x h.1)

  -- where nothing passes in the front, the rest decides
  pub first-rest : (xs ys : List X) (r : Option X) → IsFirstTrue answers xs None → IsFirstTrue answers ys r →
      IsFirstTrue answers (xs ++ ys) r
  first-rest [] ys r e h = h
  first-rest (y ∷ xs) ys r (inl k) h = absurd (let e = k.1 in cc)
  first-rest (y ∷ xs) ys r (inr k) h = inr (k.0, first-rest xs ys r k.1 h)

-- where the answers are those of a test, it is the first that passes
pub find-first : {X : Type 0} (answers : X → Bool → Type 0) (xs : List X) (r : Option X) → IsFirstTrue answers xs r
    → (test : X → Bool) → ((x : X) (b : Bool) → answers x b → b ≡ test x) → r ≡ find test xs
find-first answers [] r e test says = e
find-first answers (x ∷ xs) r (inl h) test says = h.1 ∙ ap (λ b. cond b (Some x) (find test xs)) (says x true h.0)
find-first answers (x ∷ xs) r (inr h) test says =
    find-first answers xs r h.1 test says ∙ ap (λ b. cond b (Some x) (find test xs)) (says x false h.0)

module _ (answers : Lit → Bool → Type 0) where
  -- what passes in the next list of variables passes first
  pub found-list : (lists rest : List (List ℕ)) (list shown : List ℕ) (x : Lit) → lists ≡ list ∷ rest → shown ≡ list
      → IsFirstTrue answers (map Pos shown) (Some x) → IsFirstTrue answers (flat_map (map Pos) lists) (Some x)
  found-list lists rest list shown x e s h =
      subst (λ ls. IsFirstTrue answers (flat_map (map Pos) ls) (Some x)) (sym e)
      (first-front answers (map Pos list) (flat_map (map Pos) rest) x
      (subst (λ l. IsFirstTrue answers (map Pos l) (Some x)) s h))

  -- where nothing passes in it, the rest decides
  pub missed-list : (lists rest : List (List ℕ)) (list shown : List ℕ) (r : Option Lit) → lists ≡ list ∷ rest →
      shown ≡ list
      → IsFirstTrue answers (map Pos shown) None → IsFirstTrue answers (flat_map (map Pos) rest) r
      → IsFirstTrue answers (flat_map (map Pos) lists) r
  missed-list lists rest list shown r e s h k =
      subst (λ ls. IsFirstTrue answers (flat_map (map Pos) ls) r) (sym e)
      (first-rest answers (map Pos list) (flat_map (map Pos) rest) r
      (subst (λ l. IsFirstTrue answers (map Pos l) None) s h) k)

  -- where no list is left, nothing passes
  pub end-lists : (lists : List (List ℕ)) → lists ≡ [] → IsFirstTrue answers (flat_map (map Pos) lists) None
  end-lists lists e = subst (λ ls. IsFirstTrue answers (flat_map (map Pos) ls) None) (sym e) refl
