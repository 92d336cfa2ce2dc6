-- Lists of ids, one more at a time: which ids are members, and whether the members differ.
use Rattle.std.proofs.Common.{◌≡◌, ℕ, ◌+◌, ◌<◌, Bool, true, false, ◌||◌, List, [], ◌∷◌, ◌++◌, ◌∙◌, ap, refl, sym}
use Rattle.std.proofs.Common.{subst, true≢false, length, map, take, drop, get_or, drop-cons}
use Prim.Native.Nat.{suc}
use Rattle.std.proofs.lemmas.List.{map-append, take_more, take-append-drop}
use Rattle.std.proofs.lemmas.List.Folds.{list_any-append}
use Rattle.std.proofs.lemmas.Map.Keys.{IsDistinct-head, IsDistinct-tail, IsDistinct-cons}
use Rattle.solutions.proofs.Words.{AllByRecursion, IsDistinct, IsUpdate, list_any}

or_true : (b c : Bool) → (b || (true || c)) ≡ true
or_true true c = refl
or_true false c = refl

or_false : (b : Bool) → (b || (false || false)) ≡ b
or_false true = refl
or_false false = refl

either_false : (b c : Bool) → (b || c) ≡ false → (b ≡ false) × (c ≡ false)
either_false true c h = absurd (true≢false h)
either_false false c h = (refl, h)

module _ {K : Type 0} (same : K → K → Bool) (reflexive : (k : K) → same k k ≡ true) (equal : (j k : K) →
    same j k ≡ true → j ≡ k) where
  -- a set that takes the next member has all up to it
  pub one_more : (old new : K → Bool) (done : List K) (next : K) → ((k : K) → old k ≡ list_any (same k) done)
      → IsUpdate old next true new → (k : K) → new k ≡ list_any (same k) (done ++ next ∷ [])
  one_more old new done next is update k =
      (elim (same k next) as (λ b. same k next ≡ b → new k ≡ (list_any (same k) done || (b || false))) [
        | true ↦ λ e. ap new (equal k next e) ∙ update.0 ∙ sym (or_true (list_any (same k) done) false)
        | false ↦ λ e. update.1 k (λ h. true≢false (sym (reflexive next) ∙ ap (λ j. same j next) (sym h) ∙ e)) ∙ is k
            ∙ sym (or_false (list_any (same k) done))
      ]) refl ∙ sym (list_any-append (same k) done (next ∷ []))

  -- the first member differs from those up to the next one, which isn't among it and them
  differs_from : (flips : (j k : K) → same j k ≡ same k j) (first next : K) (done : List K)
      → AllByRecursion (λ k. same first k ≡ false) done → same next first ≡ false
      → AllByRecursion (λ k. same first k ≡ false) (done ++ next ∷ [])
  differs_from flips first next [] h e = (flips first next ∙ e, tt)
  differs_from flips first next (k ∷ done) h e = (h.0, differs_from flips first next done h.1 e)

  -- members that differ, and a next one that isn't among them, differ
  pub distinct_more : ((j k : K) → same j k ≡ same k j) → (done : List K) (next : K) → IsDistinct same done
      → list_any (same next) done ≡ false → IsDistinct same (done ++ next ∷ [])
  distinct_more flips [] next h e = IsDistinct-cons same next [] tt h
  distinct_more flips (first ∷ done) next h e =
      let none = either_false (same next first) (list_any (same next) done) e in
      IsDistinct-cons same first (done ++ next ∷ [])
      (differs_from flips first next done (IsDistinct-head same first done h) none.0)
      (distinct_more flips done next (IsDistinct-tail same first done h) none.1)

  -- a list's first member differs from each later one
  differs_at : (first next : K) (done rest : List K) → AllByRecursion (λ k. same first k ≡ false) (done ++ next ∷ rest)
      → same first next ≡ false
  differs_at first next [] rest h = h.0
  differs_at first next (k ∷ done) rest h = differs_at first next done rest h.1

  -- members among which one stands twice don't differ
  pub not_distinct : ((j k : K) → same j k ≡ same k j) → (done rest : List K) (next : K) →
      list_any (same next) done ≡ true
      → IsDistinct same (done ++ next ∷ rest) → ⊥
  not_distinct flips [] rest next e h = true≢false (sym e)
  not_distinct flips (first ∷ done) rest next e h =
      (elim (same next first) as (λ b. same next first ≡ b → (b || list_any (same next) done) ≡ true → ⊥) [
        | true ↦ λ is or. true≢false (sym is ∙ flips next first
            ∙ differs_at first next done rest (IsDistinct-head same first (done ++ next ∷ rest) h))
        | false ↦ λ is or. not_distinct flips done rest next or (IsDistinct-tail same first (done ++ next ∷ rest) h)
      ]) refl e

  -- no members differ
  pub no_members : IsDistinct same []
  unfolding IsDistinct
  no_members = tt

  module _ {X : Type 0} (key : X → K) (xs : List X) (i : ℕ) (x : X) (below : i < length xs)
      (is : x ≡ get_or xs i x) where
    -- the keys up to the next element, and its own
    pub more_keys : map key (take (i + 1) xs) ≡ map key (take i xs) ++ key x ∷ []
    more_keys =
        ap (map key) (take_more xs i x below ∙ ap (λ y. take i xs ++ y ∷ []) (sym is))
        ∙ map-append key (take i xs) (x ∷ [])

    -- all keys
    all_keys : map key xs ≡ map key (take i xs) ++ key x ∷ map key (drop (suc i) xs)
    all_keys =
        ap (map key) (sym (take-append-drop i xs)) ∙ map-append key (take i xs) (drop i xs)
        ∙ ap (λ rest. map key (take i xs) ++ map key rest) (drop-cons xs i x below
        ∙ ap (λ y. y ∷ drop (suc i) xs) (sym is))

    -- the next key is among those before it
    pub repeated : ((j k : K) → same j k ≡ same k j) → list_any (same (key x)) (map key (take i xs)) ≡ true
        → IsDistinct same (map key xs) → ⊥
    repeated flips among distinct =
        not_distinct flips (map key (take i xs)) (map key (drop (suc i) xs)) (key x) among
        (subst (IsDistinct same) all_keys distinct)
