-- What holds at each place of a list, place by place.
use Rattle.std.proofs.Common.{◌≡◌, ◌∙◌, ℕ, ◌<◌, ◌+◌, List, Some, ap, arith, get_or, inl, inr, length, map, subst, sym}
use Rattle.std.specs.Prelude.{option_map, slice_get}
use Rattle.std.proofs.lemmas.Bool.{cases_lt}
use Rattle.std.proofs.lemmas.List.{length-map}
use Rattle.std.proofs.lemmas.Option.{same_Some, slice_get-get_or, slice_get-map, slice_get_within}

module _ {X Y : Type 0} (view : X → Y) (xs : List X) (Holds : ℕ → Y → Type 0) where
  abbrev pub HoldsBefore : ℕ → Type 0
  HoldsBefore bound = (place : ℕ) (y : Y) → place < bound → slice_get (map view xs) place ≡ Some y → Holds place y

  pub none_before : HoldsBefore 0
  none_before place y lt at = absurd (omega (arith, lt))

  pub one_more : (bound : ℕ) (d : X) → bound < length xs → HoldsBefore bound → Holds bound (view (get_or xs bound d))
      → HoldsBefore (bound + 1)
  one_more bound d within so_far holds place y lt at =
      elim (cases_lt place bound) [
        | inl below ↦ so_far place y below at
        | inr not_below ↦
            let same : place ≡ bound = omega (arith, lt, not_below) in
            let one : slice_get (map view xs) bound ≡ Some (view (get_or xs bound d)) =
            slice_get-map view xs bound ∙ ap (option_map view) (slice_get-get_or xs bound d within) in
            let is : view (get_or xs bound d) ≡ y =
            same_Some (view (get_or xs bound d)) y
            (sym one ∙ subst (λ n. slice_get (map view xs) n ≡ Some y) same at) in
            subst (λ n. Holds n y) (sym same) (subst (Holds bound) is holds)
      ]

  pub all_hold : (bound : ℕ) → (bound < length xs → ⊥) → HoldsBefore bound → (place : ℕ) (y : Y)
      → slice_get (map view xs) place ≡ Some y → Holds place y
  all_hold bound past so_far place y at =
      so_far place y (omega (arith, past, slice_get_within (map view xs) place y at, length-map xs view)) at
