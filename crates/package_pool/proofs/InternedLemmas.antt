-- Lists in which equal values stand once, where their values are seen in another way.
use Rattle.std.proofs.Common.{◌≡◌, ℕ, suc, Bool, true, false, not, cond, ◌||◌, List, [], ◌∷◌}
use Rattle.std.proofs.Common.{◌++◌, ◌+◌, map, Option, Some, refl, sym, ap, add_comm, add-one, ◌∙◌}
use Rattle.std.specs.Prelude.{slice_get, unwrap_or}
use Rattle.std.specs.List.{find}
use Rattle.std.specs.Cmp.{IsPartialEquivalence, per_alike}
use Rattle.std.proofs.lemmas.List.{map-append}
use Rattle.package_pool.specs.Interned.{has_same, interned, interned_place, first_same}

-- values are equal exactly if what is seen of them is
module _ {X Y : Type 0} (view : X → Y) (eq : X → X → Bool) (same : Y → Y → Bool) (agree : (x y : X) →
    eq x y ≡ same (view x) (view y)) where
  pub has_by_view : (xs : List X) (x : X) → has_same eq xs x ≡ has_same same (map view xs) (view x)
  has_by_view [] x = refl
  has_by_view (k ∷ ks) x =
      ap (λ b. b || has_same eq ks x) (agree x k) ∙ ap (λ b. same (view x) (view k) || b) (has_by_view ks x)

  pub place_by_view : (xs : List X) (x : X) → interned_place eq xs x ≡ interned_place same (map view xs) (view x)
  place_by_view [] x = refl
  place_by_view (k ∷ ks) x =
      ap (λ b. cond (not b) (1 + interned_place eq ks x) 0) (agree x k)
      ∙ ap (λ n. cond (not (same (view x) (view k))) (1 + n) 0) (place_by_view ks x)

  seen_either : (b : Bool) (xs : List X) (x : X) → map view (cond b xs (xs ++ x ∷ []))
      ≡ cond b (map view xs) (map view xs ++ view x ∷ [])
  seen_either true xs x = refl
  seen_either false xs x = map-append view xs (x ∷ [])

  pub interned_by_view : (xs : List X) (x : X) → map view (interned eq xs x) ≡ interned same (map view xs) (view x)
  interned_by_view xs x =
      seen_either (has_same eq xs x) xs x
      ∙ ap (λ b. cond b (map view xs) (map view xs ++ view x ∷ [])) (has_by_view xs x)

-- the two tests are one
module _ {X : Type 0} (eq same : X → X → Bool) (agree : (x y : X) → eq x y ≡ same x y) where
  pub has_by_test : (xs : List X) (x : X) → has_same eq xs x ≡ has_same same xs x
  has_by_test [] x = refl
  has_by_test (k ∷ ks) x = ap (λ b. b || has_same eq ks x) (agree x k) ∙ ap (λ b. same x k || b) (has_by_test ks x)

  pub place_by_test : (xs : List X) (x : X) → interned_place eq xs x ≡ interned_place same xs x
  place_by_test [] x = refl
  place_by_test (k ∷ ks) x =
      ap (λ b. cond (not b) (1 + interned_place eq ks x) 0) (agree x k)
      ∙ ap (λ n. cond (not (same x k)) (1 + n) 0) (place_by_test ks x)

  pub interned_by_test : (xs : List X) (x : X) → interned eq xs x ≡ interned same xs x
  interned_by_test xs x = ap (λ b. cond b xs (xs ++ x ∷ [])) (has_by_test xs x)

-- what an interned value gets
module _ {X : Type 0} (same : X → X → Bool) (x : X) where
  stands_behind : (b : Bool) (k : X) (ks : List X) (place : ℕ) (found : Option X) →
      slice_get (cond b ks (ks ++ x ∷ [])) place ≡ found
      → slice_get (cond b (k ∷ ks) (k ∷ ks ++ x ∷ [])) (suc place) ≡ found
  stands_behind true k ks place found h = h
  stands_behind false k ks place found h = h

  -- at its place stands the first equal value
  pub first_stands : (list : List X) → slice_get (interned same list x) (interned_place same list x)
      ≡ Some (first_same same list x)
  first_stands [] = refl
  first_stands (k ∷ ks) =
      elim (same x k) as (λ b. slice_get (cond (b || has_same same ks x) (k ∷ ks) (k ∷ ks ++ x ∷ []))
      (cond (not b) (1 + interned_place same ks x) 0) ≡ Some (unwrap_or (cond b (Some k) (find (same x) ks)) x)) [
        | true ↦ refl
        | false ↦ rw (add_comm 1 (interned_place same ks x), add-one)
            (stands_behind (has_same same ks x) k ks (interned_place same ks x) (Some (first_same same ks x))
            (first_stands ks))
      ]

  module _ (itself : same x x ≡ true) where
    place_push : (list : List X) → interned_place same (list ++ x ∷ []) x ≡ interned_place same list x
    place_push [] = ap (λ b. cond (not b) 1 0) itself
    place_push (k ∷ ks) = ap (λ n. cond (not (same x k)) (1 + n) 0) (place_push ks)

    place_either : (b : Bool) (list : List X) → interned_place same (cond b list (list ++ x ∷ [])) x
        ≡ interned_place same list x
    place_either true list = refl
    place_either false list = place_push list

    -- the second time it has the same place
    pub place_again : (list : List X) → interned_place same (interned same list x) x ≡ interned_place same list x
    place_again list = place_either (has_same same list x) list

-- so has an equal value
module _ {X : Type 0} (same : X → X → Bool) (laws : IsPartialEquivalence same) (x y : X) (equal : same x y ≡ true) where
  place_of_equal : (list : List X) → interned_place same list y ≡ interned_place same list x
  place_of_equal [] = refl
  place_of_equal (k ∷ ks) =
      ap (λ b. cond (not b) (1 + interned_place same ks y) 0) (sym (per_alike laws x y k equal))
      ∙ ap (λ n. cond (not (same x k)) (1 + n) 0) (place_of_equal ks)

  itself : same x x ≡ true
  itself = laws.trans x y x equal (laws.symm y x ∙ equal)

  pub place_of_second : (list : List X) → interned_place same (interned same list x) y ≡ interned_place same list x
  place_of_second list = place_of_equal (interned same list x) ∙ place_again same x itself list
