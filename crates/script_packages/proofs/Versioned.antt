-- Solvables that are sorted with their versions are in the order of preference.
use Rattle.std.proofs.Common.{◌≡◌, ℕ, ◌+◌, ◌<◌, List, [], ◌∷◌, refl, sym, ap, ap₂, subst, ◌∙◌, arith, IsPermutation}
use Rattle.std.proofs.Common.{IsSorted, is_lt}
use Rattle.std.specs.Prelude.{map, length}
use Rattle.std.proofs.lemmas.Cmp.{nat_cmp_total, on_total, back_total, then_total}
use Rattle.std.proofs.lemmas.List.{get_or-map, length-map}
use Rattle.indexmap.proofs.ReorderLemmas.{map-swap}
use Rattle.script_packages.proofs.Words.{apply_swaps, best_first, IsTotalOrder, preference, Solvable}
use Rattle.script_packages.proofs.Words.{swap, SwapsInRange, Versioned, versioned_preference}
use Rattle.script_packages.specs.Order.{with_version}
use Rattle.script_packages.proofs.Preferences.{sorted_is-best_first}

pub versioned_preference_total : IsTotalOrder versioned_preference
versioned_preference_total =
    then_total (on_total (λ v. v.version) (back_total nat_cmp_total)) (on_total (λ v. v.solvable) nat_cmp_total)

module _ (all : List (Solvable ℕ)) where
  -- what goes with the versions is what was there
  solvables_of : (list : List ℕ) → map (λ v. v.solvable) (map (with_version all) list) ≡ list
  solvables_of [] = refl
  solvables_of (s ∷ list) = ap (λ l. s ∷ l) (solvables_of list)

  -- versions move with their solvables
  moved_with_versions : (list : List ℕ) (moves : List (ℕ × ℕ)) →
      apply_swaps (map (with_version all) list) moves ≡ map (with_version all) (apply_swaps list moves)
  moved_with_versions list [] = refl
  moved_with_versions list (p ∷ moves) =
      ap (λ l. swap l p.0 p.1) (moved_with_versions list moves)
      ∙ sym (map-swap (with_version all) (apply_swaps list moves) p.0 p.1)

  sorted_without_versions : (list : List ℕ) → IsSorted versioned_preference (map (with_version all) list) →
      IsSorted (preference all) list
  sorted_without_versions list sorted k d low below =
      let f = with_version all in
      let within : k + 1 < length (map f list) = subst (λ n. k + 1 < n) (sym (length-map list f)) below in
      ap₂ (λ x y. is_lt (versioned_preference x y))
      (sym (get_or-map f list (k + 1) d (f d) below)) (sym (get_or-map f list k d (f d) (omega (arith, below))))
      ∙ sorted k (f d) low within

  -- a list that has versions beside it, and is sorted with them
  pub sorted_with_versions : (list : List ℕ) (sorted : List Versioned) →
      IsPermutation (map (with_version all) list) sorted → IsSorted versioned_preference sorted →
      (map (λ v. v.solvable) sorted ≡ best_first all list) × IsSorted (preference all) (map (λ v. v.solvable) sorted)
  sorted_with_versions list sorted moved up =
      let now = apply_swaps list moved.moves in
      let is : sorted ≡ map (with_version all) now = moved.is ∙ moved_with_versions list moved.moves in
      let without : map (λ v. v.solvable) sorted ≡ now = ap (λ l. map (λ v. v.solvable) l) is ∙ solvables_of now in
      let in_order : IsSorted (preference all) now =
      sorted_without_versions now (subst (IsSorted versioned_preference) is up) in
      let same : IsPermutation list now = record {
        moves = moved.moves;
        below = subst (λ n. SwapsInRange n moved.moves) (length-map list (with_version all)) moved.below;
        is = refl;
      } in (
        without ∙ sorted_is-best_first all list now same in_order,
        subst (IsSorted (preference all)) (sym without) in_order,
      )
