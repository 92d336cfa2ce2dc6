-- Where only equal members tie, a list has one sorted order, and `sort_by` gives it.
use Rattle.std.proofs.Common.{◌≡◌, ℕ, suc, ◌+◌, Bool, true, false, cond, List, [], ◌∷◌, refl}
use Rattle.std.proofs.Common.{sym, ap, ap₂, ◌∙◌, arith, add-one, true≢false, Ordering, Less}
use Rattle.std.proofs.Common.{Equal, Greater, is_lt, is_gt, sum_by, IsPermutation, IsSorted}
use Rattle.std.specs.Prelude.{if◌then◌else◌}
use Rattle.std.proofs.lemmas.Cmp.{tied_itself}
use Rattle.std.proofs.lemmas.List.Elements.{recursion_from_All}
use Rattle.std.proofs.lemmas.List.MinMax.{ranks_by}
use Rattle.std.proofs.lemmas.List.Sorted.{sorted_far, sum_by-IsPermutation}
use Rattle.std.proofs.lemmas.List.Sums.{sum_by-cons}
use Rattle.script_packages.proofs.Words.{AllByRecursion, insert_sorted, IsStrictWeakOrder, IsTotalOrder}
use Rattle.script_packages.proofs.Words.{ordering_reverse, sort_by, sort_by_permutes, ⊤}

module _ {X : Type 0} (cmp : X → X → Ordering) (total : IsTotalOrder cmp) (apart : (x y : X) → cmp x y ≡ Equal →
    x ≡ y) where
  abbrev lt : X → X → Bool
  lt x y = is_lt (cmp x y)

  ranks : IsStrictWeakOrder lt
  ranks = ranks_by total (λ x. x)

  tied : (a b : Ordering) → a ≡ ordering_reverse b → is_lt a ≡ false → is_lt b ≡ false → a ≡ Equal
  tied Less b e h k = absurd (true≢false h)
  tied Equal b e h k = refl
  tied Greater Less e h k = absurd (true≢false k)
  tied Greater Equal e h k = absurd (true≢false (ap is_gt e))
  tied Greater Greater e h k = absurd (true≢false (ap is_gt e))

  -- two of which neither is less are one
  same : (x y : X) → lt x y ≡ false → lt y x ≡ false → x ≡ y
  same x y h k = apart x y (tied (cmp x y) (cmp y x) (total.antisymm x y) h k)

  -- none of the list is less than x
  abbrev IsLeast : X → List X → Type 0
  IsLeast x ys = AllByRecursion (λ y. lt y x ≡ false) ys

  abbrev Ascends : List X → Type 0
  Ascends [] = ⊤
  Ascends (x ∷ xs) = IsLeast x xs × Ascends xs

  least_of_lesser : (x y : X) (zs : List X) → lt y x ≡ false → IsLeast y zs → IsLeast x zs
  least_of_lesser x y [] h all = tt
  least_of_lesser x y (z ∷ zs) h all = (ranks.chain z y x all.0 h, least_of_lesser x y zs h all.1)

  -- what a sort gives
  ascends_from_sorted : (xs : List X) → IsSorted cmp xs → Ascends xs
  ascends_from_sorted [] sorted = tt
  ascends_from_sorted (x ∷ xs) sorted =
      let tail : IsSorted cmp xs = λ k d p q. rw add-one (rw add-one at
      (sorted (suc k) d (omega arith) (omega arith))) in (
        recursion_from_All (λ y. lt y x ≡ false) xs (λ k d below. sorted_far lt ranks (x ∷ xs) sorted 0 (suc k) d
            (omega arith) (omega arith)),
        ascends_from_sorted xs tail,
      )

  -- `sort_by` ascends
  least-insert_sorted : (z x : X) (xs : List X) → lt x z ≡ false → IsLeast z xs → IsLeast z (insert_sorted cmp x xs)
  least-insert_sorted z x [] h all = (h, tt)
  least-insert_sorted z x (y ∷ ys) h all =
      elim (is_lt (cmp y x)) as (λ b. IsLeast z (if b then y ∷ insert_sorted cmp x ys else x ∷ y ∷ ys)) [
        | true ↦ (all.0, least-insert_sorted z x ys h all.1)
        | false ↦ (h, all)
      ]

  ascends-insert_sorted : (x : X) (xs : List X) → Ascends xs → Ascends (insert_sorted cmp x xs)
  ascends-insert_sorted x [] up = (tt, tt)
  ascends-insert_sorted x (y ∷ ys) up = go (lt y x) refl (ascends-insert_sorted x ys up.1)
    where
      go : (b : Bool) → lt y x ≡ b → Ascends (insert_sorted cmp x ys) →
          Ascends (if b then y ∷ insert_sorted cmp x ys else x ∷ y ∷ ys)
      go true e more = (least-insert_sorted y x ys (ranks.one_way y x e) up.0, more)
      go false e more = ((e, least_of_lesser x y ys e up.0), up)

  ascends-sort_by : (xs : List X) → Ascends (sort_by cmp xs)
  ascends-sort_by [] = tt
  ascends-sort_by (x ∷ xs) = ascends-insert_sorted x (sort_by cmp xs) (ascends-sort_by xs)

  -- how many of the list are less than x
  abbrev lesser : X → List X → ℕ
  lesser x ys = sum_by (λ y. cond (lt y x) 1 0) ys

  none_lesser : (x : X) (ys : List X) → IsLeast x ys → lesser x ys ≡ 0
  none_lesser x [] all = refl
  none_lesser x (y ∷ ys) all =
      sum_by-cons (λ y. cond (lt y x) 1 0) y ys ∙ ap₂ ◌+◌ (ap (λ b. cond b 1 0) all.0) (none_lesser x ys all.1)

  first_not_less : (x y : X) (ys : List X) → lesser x (y ∷ ys) ≡ 0 → lt y x ≡ false
  first_not_less x y ys none = go (lt y x) (sym (sum_by-cons (λ y. cond (lt y x) 1 0) y ys) ∙ none)
    where
      go : (b : Bool) → cond b 1 0 + lesser x ys ≡ 0 → b ≡ false
      go true e = absurd (omega (arith, e))
      go false e = refl

  -- the first of a list that ascends is not more than the first of another with the same members
  not_less : (x : X) (xs : List X) (y : X) (ys : List X) → Ascends (x ∷ xs) →
      ((f : X → ℕ) → sum_by f (y ∷ ys) ≡ sum_by f (x ∷ xs)) → lt y x ≡ false
  not_less x xs y ys up counts =
      let itself : lt x x ≡ false = ap is_lt (tied_itself total x) in
      first_not_less x y ys (counts (λ z. cond (lt z x) 1 0) ∙ none_lesser x (x ∷ xs) (itself, up.0))

  one_order : (xs ys : List X) → Ascends xs → Ascends ys → ((f : X → ℕ) → sum_by f ys ≡ sum_by f xs) → ys ≡ xs
  one_order [] [] up down counts = refl
  one_order [] (y ∷ ys) up down counts = absurd (omega (arith, counts (λ _. 1), sum_by-cons (λ _. 1) y ys))
  one_order (x ∷ xs) [] up down counts = absurd (omega (arith, counts (λ _. 1), sum_by-cons (λ _. 1) x xs))
  one_order (x ∷ xs) (y ∷ ys) up down counts =
      let first : y ≡ x = same y x (not_less x xs y ys up counts) (not_less y ys x xs down (λ f. sym (counts f))) in
      let later : (f : X → ℕ) → sum_by f ys ≡ sum_by f xs =
      λ f. omega (arith, counts f, sum_by-cons f y ys, sum_by-cons f x xs, ap f first) in
      ap₂ ◌∷◌ first (one_order xs ys up.1 down.1 later)

  pub sorted_is-sort_by : (xs ys : List X) → IsPermutation xs ys → IsSorted cmp ys → ys ≡ sort_by cmp xs
  sorted_is-sort_by xs ys moved sorted =
      one_order (sort_by cmp xs) ys (ascends-sort_by xs) (ascends_from_sorted ys sorted)
      (λ f. sum_by-IsPermutation f xs ys moved
      ∙ sym (sum_by-IsPermutation f xs (sort_by cmp xs) (sort_by_permutes cmp xs)))
