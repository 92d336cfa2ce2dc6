-- Of each name the first version that passes a test, if one does.
use Rattle.std.proofs.Common.{◌≡◌, ◌∙◌, ℕ, zero, suc, ◌<◌, ◌==◌, Bool, true, false, List, [], ◌∷◌, Option, None}
use Rattle.std.proofs.Common.{Some, All, Contains, ap, arith, inl, inr, map, refl, subst, sym}
use Rattle.std.specs.List.{IsDistinct, cons_option, find}
use Rattle.std.proofs.lemmas.Bool.{both_ways, cases_Bool, cases_lt, cond-false, cond-true, ne_eqb}
use Rattle.std.proofs.lemmas.List.Elements.{All-cons, All-map, All-nil, All-weaker, Contains-append_cases}
use Rattle.std.proofs.lemmas.List.Elements.{Contains-append_left, Contains-append_right, Contains-push}
use Rattle.std.proofs.lemmas.List.Elements.{recursion_from_All}
use Rattle.std.proofs.lemmas.Map.Keys.{IsDistinct-cons}
use Rattle.std.proofs.lemmas.Option.{none-some, same_Some}
use Rattle.debian_directory.proofs.Elements.{is_head}

-- THE FIRST OF A LIST

at_head : {X : Type 0} (x : X) (xs : List X) → Contains (x ∷ xs) x
at_head x xs = Contains-append_left (x ∷ []) xs x (Contains-push [] x)

module _ {X : Type 0} (test : X → Bool) where
  pub some_first : (xs : List X) (x : X) → Contains xs x → test x ≡ true → (y : X) × (find test xs ≡ Some y)
  some_first [] x at so = absurd (omega (arith, at.1))
  some_first (y ∷ rest) x at so =
      elim (cases_Bool (test y)) [
        | inl passes ↦ (y, cond-true (test y) (Some y) (find test rest) passes)
        | inr fails ↦ elim (Contains-append_cases (y ∷ []) rest x at) [
          | inl here ↦ absurd (both_ways (test y) fails (ap test (is_head y x here) ∙ so))
          | inr behind ↦
              let found = some_first rest x behind so in
              (found.0, cond-false (test y) (Some y) (find test rest) fails ∙ found.1)
        ]
      ]

  pub first_is : (xs : List X) (y : X) → find test xs ≡ Some y → Contains xs y × (test y ≡ true)
  first_is [] y at = absurd (none-some y at)
  first_is (x ∷ rest) y at =
      elim (cases_Bool (test x)) [
        | inl passes ↦
            let same : x ≡ y = same_Some x y (sym (cond-true (test x) (Some x) (find test rest) passes) ∙ at) in
            (subst (λ z. Contains (x ∷ rest) z) same (at_head x rest), ap test (sym same) ∙ passes)
        | inr fails ↦
            let found = first_is rest y (sym (cond-false (test x) (Some x) (find test rest) fails) ∙ at) in
            (Contains-append_right (x ∷ []) rest y found.0, found.1)
      ]

-- OF EACH NAME ONE

here : (o : Option ℕ) (xs : List ℕ) (s : ℕ) → o ≡ Some s → Contains (cons_option o xs) s
here None xs s at = absurd (none-some s at)
here (Some x) xs s at = subst (λ z. Contains (x ∷ xs) z) (same_Some x s at) (at_head x xs)

behind : (o : Option ℕ) (xs : List ℕ) (s : ℕ) → Contains xs s → Contains (cons_option o xs) s
behind None xs s at = at
behind (Some x) xs s at = Contains-append_right (x ∷ []) xs s at

all_more : (P : ℕ → Type 0) (o : Option ℕ) (xs : List ℕ) → ((s : ℕ) → o ≡ Some s → P s) → All P xs
    → All P (cons_option o xs)
all_more P None xs each all = all
all_more P (Some x) xs each all = All-cons P x xs (each x refl) all

distinct_more : (name : ℕ → ℕ) (count : ℕ) (o : Option ℕ) (xs : List ℕ) → ((s : ℕ) → o ≡ Some s → name s ≡ count)
    → All (λ s. name s < count) xs → IsDistinct ◌==◌ (map name xs) → IsDistinct ◌==◌ (map name (cons_option o xs))
distinct_more name count None xs is lower apart = apart
distinct_more name count (Some x) xs is lower apart =
    IsDistinct-cons ◌==◌ (name x) (map name xs)
    (recursion_from_All (λ y. (name x == y) ≡ false) (map name xs)
    (All-map (λ y. (name x == y) ≡ false) name xs
    (All-weaker (λ s. name s < count) (λ s. (name x == name s) ≡ false)
    (λ s lt. ne_eqb (name x) (name s) (λ e. absurd (omega (arith, e, lt, is x refl)))) xs lower))) apart

nothing_apart : IsDistinct ◌==◌ []
unfolding IsDistinct
nothing_apart = tt

module _ (pick : ℕ → Option ℕ) where
  -- what is picked of the names below this one
  abbrev pub picked_below : ℕ → List ℕ
  picked_below zero = []
  picked_below (suc n) = cons_option (pick n) (picked_below n)

  pub contains_picked : (count n s : ℕ) → n < count → pick n ≡ Some s → Contains (picked_below count) s
  contains_picked zero n s lt at = absurd (omega (arith, lt))
  contains_picked (suc count) n s lt at =
      elim (cases_lt n count) [
        | inl lower ↦ behind (pick count) (picked_below count) s (contains_picked count n s lower at)
        | inr no_lower ↦
            let same : n ≡ count = omega (arith, lt, no_lower) in
            here (pick count) (picked_below count) s (subst (λ k. pick k ≡ Some s) same at)
      ]

  pub all_picked : (P : ℕ → Type 0) → ((n s : ℕ) → pick n ≡ Some s → P s) → (count : ℕ) → All P (picked_below count)
  all_picked P each zero = All-nil P
  all_picked P each (suc count) =
      all_more P (pick count) (picked_below count) (each count) (all_picked P each count)

  module _ (name : ℕ → ℕ) (named : (n s : ℕ) → pick n ≡ Some s → name s ≡ n) where
    names_below : (count : ℕ) → All (λ s. name s < count) (picked_below count)
    names_below zero = All-nil (λ s. name s < zero)
    names_below (suc count) =
        all_more (λ s. name s < suc count) (pick count) (picked_below count)
        (λ s at. omega (arith, named count s at))
        (All-weaker (λ s. name s < count) (λ s. name s < suc count) (λ s lt. omega (arith, lt)) (picked_below count)
        (names_below count))

    pub names_apart : (count : ℕ) → IsDistinct ◌==◌ (map name (picked_below count))
    names_apart zero = nothing_apart
    names_apart (suc count) =
        distinct_more name count (pick count) (picked_below count) (named count) (names_below count) (names_apart count)
