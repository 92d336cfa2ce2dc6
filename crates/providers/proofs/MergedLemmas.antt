-- Texts in ascending order, each once.
use Rattle.std.proofs.Common.{◌≡◌, ◌∙◌, ℕ, Bool, true, false, cond, List, [], ◌∷◌, Option, None}
use Rattle.std.proofs.Common.{Some, ◌++◌, codes, append_assoc, map, nat_eq, string_bytes, Less}
use Rattle.std.proofs.Common.{refl, sym, ap, inr, unwrap_or, is_some, slice_get, true≢false}
use Rattle.std.proofs.lemmas.List.Kept.{IsStrictlySortedBy-dedup, Contains-dedup, Contains-from_dedup}
use Rattle.std.proofs.lemmas.List.Filters.{dedup_is}
use Rattle.std.proofs.lemmas.List.Sorted.{IsPermutation-map, IsPermutation-sym, Contains-permutation}
use Rattle.std.specs.Cmp.Lexicographic.{pointwise, slice_cmp, nat_list_eq_equiv, same_text, texts_ties}
use Rattle.std.specs.List.{join_by, AllByRecursion, dedup, dedup_from}
use Rattle.std.specs.List.Retain.{DiffersFromLast, IsFiltered}
use Rattle.std.specs.List.Sorted.{IsPermutation, IsSorted, IsStrictlySortedBy}
use Rattle.std.specs.Ordering.{nat_cmp}
use Rattle.std.specs.String.{string_cmp, string_cmp_total, string_eq}
use Rattle.std.specs.declared.string.String.{String}
use Rattle.providers.specs.Provider.{Universe}
use Rattle.providers.specs.Texts.{Texts, IsAscending, IsMerged, IsMergedByDefault, IsOwnOr, IsSolvableName}
use Rattle.providers.proofs.JoinLemmas.{join_by-mapped}

module _ {Z : Type 0} where
  less_mapped : (x : String Z) (xs : List (String Z)) → AllByRecursion (λ y. string_cmp x y ≡ Less) xs
      → AllByRecursion (λ text. slice_cmp nat_cmp (string_bytes x) text ≡ Less) (map string_bytes xs)
  less_mapped x [] h = tt
  less_mapped x (y ∷ ys) h = (h.0, less_mapped x ys h.1)

  sorted_mapped : (xs : List (String Z)) → IsStrictlySortedBy string_cmp xs →
      IsStrictlySortedBy (slice_cmp nat_cmp) (map string_bytes xs)
  unfolding IsStrictlySortedBy
  sorted_mapped [] h = tt
  sorted_mapped (x ∷ xs) h = (less_mapped x xs h.0, sorted_mapped xs h.1)

  chosen_mapped : (b : Bool) (xs ys : List (String Z)) → map string_bytes (cond b xs ys)
      ≡ cond b (map string_bytes xs) (map string_bytes ys)
  chosen_mapped true xs ys = refl
  chosen_mapped false xs ys = refl

  dedup_from_mapped : (x : String Z) (xs : List (String Z)) → map string_bytes (dedup_from string_eq x xs) ≡
      dedup_from (pointwise nat_eq) (string_bytes x) (map string_bytes xs)
  dedup_from_mapped x [] = refl
  dedup_from_mapped x (y ∷ ys) =
      rw (
        chosen_mapped (string_eq y x) (dedup_from string_eq x ys) (x ∷ dedup_from string_eq y ys),
        dedup_from_mapped x ys,
        dedup_from_mapped y ys,
      ) refl

  dedup_mapped : (xs : List (String Z)) → map string_bytes (dedup string_eq xs)
      ≡ dedup (pointwise nat_eq) (map string_bytes xs)
  dedup_mapped [] = refl
  dedup_mapped (x ∷ xs) = dedup_from_mapped x xs

  -- what a sort and a dedup leave
  pub ascending : (texts ordered distinct : List (String Z)) → IsPermutation texts ordered → IsSorted string_cmp ordered
      → IsFiltered (DiffersFromLast string_eq) [] ordered distinct →
      IsAscending (map string_bytes texts) (map string_bytes distinct)
  ascending texts ordered distinct permuted in_order filtered =
      let kept : distinct ≡ dedup string_eq ordered = dedup_is string_eq ordered distinct filtered in
      let bytes : map string_bytes distinct ≡ dedup (pointwise nat_eq) (map string_bytes ordered) =
      ap (map string_bytes) kept ∙ dedup_mapped ordered in
      let moved : IsPermutation (map string_bytes texts) (map string_bytes ordered) =
      IsPermutation-map string_bytes texts ordered permuted in
      record {
        sorted = rw kept (sorted_mapped _ (IsStrictlySortedBy-dedup string_cmp_total
            (λ x y. texts_ties (string_bytes x) (string_bytes y)) ordered in_order));
        members = λ text. rw bytes (
          (λ h. Contains-dedup nat_list_eq_equiv (λ x y e. same_text x y (sym e)) _ text
              (Contains-permutation _ _ text moved h)),
          (λ h. Contains-permutation _ _ text (IsPermutation-sym _ _ moved) (Contains-from_dedup _ _ text h)),
        );
      }

  -- a name, then a blank, then what is joined
  pub merged : (name blank whole : List ℕ) (texts : List (List ℕ)) (distinct : List (String Z)) →
      IsAscending texts (map string_bytes distinct)
      → blank ≡ name ++ 32 ∷ [] → whole ≡ blank ++ join_by string_bytes (codes " | ") distinct →
      IsMerged name texts whole
  merged name blank whole texts distinct in_order e0 e1 = record {
    ascending = map string_bytes distinct;
    is_ascending = in_order;
    is = e1 ∙ (ap (λ b. b ++ join_by string_bytes (codes " | ") distinct) e0
        ∙ (append_assoc name (32 ∷ []) (join_by string_bytes (codes " | ") distinct)
        ∙ ap (λ joined. name ++ 32 ∷ joined) (join_by-mapped (codes " | ") string_bytes distinct)));
  }

-- what the default has
pub by_default : (IsDefault : List ℕ → Type 0) (own : Option (List ℕ)) (text : List ℕ) → IsDefault text →
    IsOwnOr IsDefault own text
by_default IsDefault None text h = h
by_default IsDefault (Some own) text h = inr h

module _ {N S : Type 0} (universe : Universe N S) (texts : Texts N S) (own_name : S → Option (List ℕ)) where
  -- the first one's name, with the texts of all
  pub of_solvables : (solvables : List S) (first : S) (name gathered text : List ℕ) (given : List (List ℕ)) →
      Some first ≡ slice_get solvables 0
      → IsSolvableName universe texts own_name first name → gathered ≡ name → given ≡ map texts.solvable solvables →
      IsMerged gathered given text
      → IsMergedByDefault universe texts own_name solvables text
  of_solvables [] first name gathered text given is_first named e0 e1 h = absurd (true≢false (ap is_some is_first))
  of_solvables (s ∷ rest) first name gathered text given is_first named e0 e1 h =
      let same : first ≡ s = ap (λ o. unwrap_or o first) is_first in
      (name, rw (sym same) named, rw (sym e0, sym e1) h)
