-- The places of the packages that may be picked.
use Rattle.std.proofs.Common.{◌≡◌, ◌∙◌, ℕ, zero, suc, ◌<◌, ◌==◌, true, List, [], ◌∷◌, None, Some}
use Rattle.std.proofs.Common.{arith, get_or, inl, inr, length, ap, subst, sym}
use Rattle.std.proofs.lemmas.Bool.{eqb-true, false≢true, or_cases}
use Rattle.std.proofs.lemmas.Option.{none-some, same_Some, slice_get-map}
use Rattle.std.proofs.lemmas.Slice.Eq.{bytes_eq-Decides}
use Rattle.debian_directory.proofs.Names.{placed_by_name}
use Rattle.debian_directory.proofs.Places.{is_among}
use Rattle.debian_provider.proofs.Words.{Contains, IsPlaceOf, may_be_picked, Name, name_of, NameText, native_in}
use Rattle.debian_provider.proofs.Words.{option_map, Package, packages_in, places_of, plain_name}
use Rattle.debian_provider.proofs.Words.{plain_package, request_in, Rules, slice_get}
use Rattle.debian_provider.proofs.Named.{default}

-- a place that is among these is at an index
pub record IsAmong (places : List ℕ) (place : ℕ) : Type 0 where
  pub index : ℕ
  pub within : index < length places
  pub is : get_or places index 0 ≡ place

pub among_at : (places : List ℕ) (place : ℕ) → is_among places place ≡ true → IsAmong places place
among_at [] place h = absurd (false≢true h)
among_at (first ∷ places) place h = elim (or_cases (first == place) (is_among places place) h) [
  | inl e ↦ record { index = zero; within = omega arith; is = eqb-true first place e }
  | inr e ↦ let later = among_at places place e in
      record { index = suc later.index; within = omega (arith, later.within); is = later.is }
]

pub contains_place : (places : List ℕ) (place : ℕ) → is_among places place ≡ true → Contains places place
contains_place places place h =
    let found = among_at places place h in
    (found.index, found.within, default places found.index place 0 found.within ∙ found.is)

-- A PLACE

module _ (rules : Rules) (name : NameText) (place : ℕ) where
  pub pick_none : slice_get rules.packages.now place ≡ None → IsPlaceOf rules name place → ⊥
  pick_none none is = none-some is.one
      (sym (slice_get-map plain_package rules.packages.now place ∙ ap (option_map plain_package) none) ∙ is.at)

  module _ (one : Package) (at : slice_get rules.packages.now place ≡ Some one) where
    text_at : slice_get (packages_in rules) place ≡ Some (plain_package one)
    text_at = slice_get-map plain_package rules.packages.now place ∙ ap (option_map plain_package) at

    same_package : (is : IsPlaceOf rules name place) → plain_package one ≡ is.one
    same_package is = same_Some _ _ (sym text_at ∙ is.at)

    pub pick_other : (name_of (native_in rules) (plain_package one) ≡ name → ⊥) → IsPlaceOf rules name place → ⊥
    pick_other apart is = apart (ap (name_of (native_in rules)) (same_package is) ∙ is.named)

    pub pick_yes : name_of (native_in rules) (plain_package one) ≡ name
        → may_be_picked (request_in rules) (packages_in rules) (plain_package one) ≡ true → IsPlaceOf rules name place
    pick_yes named may = record { one = plain_package one; at = text_at; named = named; pickable = may }

    pub pick_may : IsPlaceOf rules name place
        → may_be_picked (request_in rules) (packages_in rules) (plain_package one) ≡ true
    pick_may is = ap (may_be_picked (request_in rules) (packages_in rules)) (same_package is) ∙ is.pickable

-- each place is among those under the name
pub all_found : (rules : Rules) (name : Name) (places : List ℕ) → places ≡ places_of rules.directory.now name.name.now
    → (found : List ℕ) → ((k : ℕ) → k < length places → IsPlaceOf rules (plain_name name) (get_or places k 0)
    → Contains found (get_or places k 0))
    → (place : ℕ) → IsPlaceOf rules (plain_name name) place → Contains found place
all_found rules name places are found each place is =
    let under = placed_by_name (packages_in rules) rules.directory.now rules.of_packages place is.one is.at
    name.name.now
    ((bytes_eq-Decides name.name.now is.one.identity.name).1 (sym (ap (λ (n : NameText). n.name) is.named))) in
    let at = among_at places place (subst (λ (l : List ℕ). is_among l place ≡ true) (sym are) under) in
    subst (Contains found) at.is
    (each at.index at.within (subst (IsPlaceOf rules (plain_name name)) (sym at.is) is))
