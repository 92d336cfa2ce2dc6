-- The order of preference only moves solvables.
use Rattle.std.specs.Prelude.{ℕ, true, false, List, [], ◌∷◌, if◌then◌else◌}
use Rattle.std.specs.declared.cmp.Ordering.{Ordering}
use Rattle.std.specs.Ordering.{is_lt}
use Rattle.std.specs.List.Sorted.{IsPermutation}
use Rattle.std.proofs.lemmas.List.Sorted.{IsPermutation-refl, IsPermutation-trans}
use Rattle.std.proofs.lemmas.List.Sorted.{IsPermutation-cons, IsPermutation-middle}
use Rattle.package_pool.specs.declared.solvable.Solvable.{Solvable}
use Rattle.script_packages.specs.Order.{insert_sorted, sort_by, preference, best_first}

insert_sorted_permutes : {X : Type 0} (cmp : X → X → Ordering) (x : X) (xs : List X) →
    IsPermutation (x ∷ xs) (insert_sorted cmp x xs)
insert_sorted_permutes cmp x [] = IsPermutation-refl (x ∷ [])
insert_sorted_permutes cmp x (y ∷ ys) =
    elim (is_lt (cmp y x)) as (λ b. IsPermutation (x ∷ y ∷ ys) (if b then y ∷ insert_sorted cmp x ys else x ∷ y ∷ ys)) [
      | true ↦ IsPermutation-trans _ _ _ (IsPermutation-middle (x ∷ []) y ys)
          (IsPermutation-cons y _ _ (insert_sorted_permutes cmp x ys))
      | false ↦ IsPermutation-refl (x ∷ y ∷ ys)
    ]

pub sort_by_permutes : {X : Type 0} (cmp : X → X → Ordering) (xs : List X) → IsPermutation xs (sort_by cmp xs)
sort_by_permutes cmp [] = IsPermutation-refl []
sort_by_permutes cmp (x ∷ xs) =
    IsPermutation-trans _ _ _ (IsPermutation-cons x _ _ (sort_by_permutes cmp xs))
    (insert_sorted_permutes cmp x (sort_by cmp xs))

pub best_first_permutes : (all : List (Solvable ℕ)) (list : List ℕ) → IsPermutation list (best_first all list)
best_first_permutes all list = sort_by_permutes (preference all) list
