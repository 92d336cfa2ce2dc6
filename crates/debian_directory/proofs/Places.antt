-- What is so of a package at one of some places, and what is so of any.
use Rattle.std.proofs.Common.{◌≡◌, ℕ, zero, suc, ◌+◌, ◌-◌, ◌==◌, ◌||◌, Bool, true, false, List, [], ◌∷◌, Option, Some}
use Rattle.std.proofs.Common.{drop, refl, sym, ◌∙◌, ap, inl, inr, arith, zero-add}
use Rattle.std.specs.Prelude.{nat_le, option_map, slice_get, unwrap_or}
use Rattle.std.specs.List.{list_all, list_any}
use Rattle.std.proofs.lemmas.Bool.{and_cases, and_left, and_right, eqb-true, false≢true, true≢false, leb-false}
use Rattle.std.proofs.lemmas.Bool.{lt-leb, or_cases, or_from, or_left, or_parts, or_right}
use Rattle.debian_scenario.specs.Packages.{PackageText}
use Rattle.debian_directory.specs.Directory.{all_at, any_at}

same_Bool : (a b : Bool) → (a ≡ true → b ≡ true) → (b ≡ true → a ≡ true) → a ≡ b
same_Bool true true f g = refl
same_Bool true false f g = sym (f refl)
same_Bool false true f g = g refl
same_Bool false false f g = refl

same_Bool-false : (a b : Bool) → (a ≡ false → b ≡ false) → (b ≡ false → a ≡ false) → a ≡ b
same_Bool-false true true f g = refl
same_Bool-false true false f g = g refl
same_Bool-false false true f g = sym (f refl)
same_Bool-false false false f g = refl

-- ONE OF THE PLACES

one_is_so : {X : Type 0} (p : X → Bool) (b : Bool) → ((x : X) → p x ≡ true → b ≡ true) → (xs : List X) →
    list_any p xs ≡ true → b ≡ true
one_is_so p b each [] h = absurd (false≢true h)
one_is_so p b each (x ∷ xs) h =
    elim (or_cases (p x) (list_any p xs) h) [ inl e ↦ each x e | inr e ↦ one_is_so p b each xs e ]

one_is_not : {X : Type 0} (p : X → Bool) (b : Bool) → ((x : X) → p x ≡ false → b ≡ false) → (xs : List X) →
    list_all p xs ≡ false → b ≡ false
one_is_not p b each [] h = absurd (true≢false h)
one_is_not p b each (x ∷ xs) h =
    elim (and_cases (p x) (list_all p xs) h) [ inl e ↦ each x e | inr e ↦ one_is_not p b each xs e ]

-- a place is among these
abbrev pub is_among : List ℕ → ℕ → Bool
is_among places place = list_any (λ at. at == place) places

place_is_so : (p : ℕ → Bool) (place : ℕ) → p place ≡ true → (places : List ℕ) → is_among places place ≡ true →
    list_any p places ≡ true
place_is_so p place so [] h = absurd (false≢true h)
place_is_so p place so (at ∷ places) h = elim (or_cases (at == place) (is_among places place) h) [
  | inl e ↦ or_left (p at) (list_any p places) (ap p (eqb-true at place e) ∙ so)
  | inr e ↦ or_right (p at) (list_any p places) (place_is_so p place so places e)
]

place_is_not : (p : ℕ → Bool) (place : ℕ) → p place ≡ false → (places : List ℕ) → is_among places place ≡ true →
    list_all p places ≡ false
place_is_not p place so [] h = absurd (false≢true h)
place_is_not p place so (at ∷ places) h = elim (or_cases (at == place) (is_among places place) h) [
  | inl e ↦ and_left (p at) (list_all p places) (ap p (eqb-true at place e) ∙ so)
  | inr e ↦ and_right (p at) (list_all p places) (place_is_not p place so places e)
]

-- THE PACKAGE AT A PLACE

any_at-true : (test : PackageText → Bool) (packages : List PackageText) (place : ℕ) →
    any_at test packages place ≡ true → list_any test packages ≡ true
any_at-true test [] place h = absurd (false≢true h)
any_at-true test (p ∷ ps) zero h = or_left (test p) (list_any test ps) h
any_at-true test (p ∷ ps) (suc place) h = or_right (test p) (list_any test ps) (any_at-true test ps place h)

all_at-false : (test : PackageText → Bool) (packages : List PackageText) (place : ℕ) →
    all_at test packages place ≡ false → list_all test packages ≡ false
all_at-false test [] place h = absurd (true≢false h)
all_at-false test (p ∷ ps) zero h = and_left (test p) (list_all test ps) h
all_at-false test (p ∷ ps) (suc place) h = and_right (test p) (list_all test ps) (all_at-false test ps place h)

-- a place at which the test gives this
pub record IsAnswered (test : PackageText → Bool) (packages : List PackageText) (answer : Bool) : Type 0 where
  pub place : ℕ
  pub found : PackageText
  pub at : slice_get packages place ≡ Some found
  pub answered : test found ≡ answer

later : (test : PackageText → Bool) (p : PackageText) (ps : List PackageText) (answer : Bool) →
    IsAnswered test ps answer → IsAnswered test (p ∷ ps) answer
later test p ps answer h = record { place = suc h.place; found = h.found; at = h.at; answered = h.answered }

some_true : (test : PackageText → Bool) (packages : List PackageText) → list_any test packages ≡ true →
    IsAnswered test packages true
some_true test [] h = absurd (false≢true h)
some_true test (p ∷ ps) h = elim (or_cases (test p) (list_any test ps) h) [
  | inl e ↦ record { place = zero; found = p; at = refl; answered = e }
  | inr e ↦ later test p ps true (some_true test ps e)
]

some_false : (test : PackageText → Bool) (packages : List PackageText) → list_all test packages ≡ false →
    IsAnswered test packages false
some_false test [] h = absurd (true≢false h)
some_false test (p ∷ ps) h = elim (and_cases (test p) (list_all test ps) h) [
  | inl e ↦ record { place = zero; found = p; at = refl; answered = e }
  | inr e ↦ later test p ps false (some_false test ps e)
]

-- WHAT IS SO AT THE PLACES

-- each package at which the test gives this is at one of the places
abbrev pub AreFound : (PackageText → Bool) → Bool → List PackageText → List ℕ → Type 0
AreFound test answer packages places =
    (place : ℕ) (p : PackageText) → slice_get packages place ≡ Some p → test p ≡ answer → is_among places place ≡ true

pub list_any-places : (test : PackageText → Bool) (packages : List PackageText) (places : List ℕ) →
    AreFound test true packages places → list_any (any_at test packages) places ≡ list_any test packages
list_any-places test packages places found =
    same_Bool _ _ (one_is_so (any_at test packages) (list_any test packages) (any_at-true test packages) places)
    (λ h. let w = some_true test packages h in
    place_is_so (any_at test packages) w.place
    (ap (λ (o : Option PackageText). unwrap_or (option_map test o) false) w.at ∙ w.answered) places
    (found w.place w.found w.at w.answered))

pub list_all-places : (test : PackageText → Bool) (packages : List PackageText) (places : List ℕ) →
    AreFound test false packages places → list_all (all_at test packages) places ≡ list_all test packages
list_all-places test packages places found =
    same_Bool-false _ _ (one_is_not (all_at test packages) (list_all test packages) (all_at-false test packages) places)
    (λ h. let w = some_false test packages h in
    place_is_not (all_at test packages) w.place
    (ap (λ (o : Option PackageText). unwrap_or (option_map test o) true) w.at ∙ w.answered) places
    (found w.place w.found w.at w.answered))

-- LATER PLACES

abbrev pub all_later : ℕ → (PackageText → Bool) → List PackageText → ℕ → Bool
all_later place test packages at = nat_le at place || all_at test packages at

slice_get-drop : {X : Type 0} (n : ℕ) (xs : List X) (i : ℕ) → slice_get (drop n xs) i ≡ slice_get xs (n + i)
slice_get-drop zero xs i = ap (slice_get xs) (sym (zero-add i))
slice_get-drop (suc n) [] i = refl
slice_get-drop (suc n) (x ∷ xs) i =
    let e : suc (n + i) ≡ suc n + i = omega arith in slice_get-drop n xs i ∙ ap (slice_get (x ∷ xs)) e

all_later-false : (place : ℕ) (test : PackageText → Bool) (packages : List PackageText) (at : ℕ) →
    all_later place test packages at ≡ false → list_all test (drop (place + 1) packages) ≡ false
all_later-false place test packages at h =
    let w = or_parts (nat_le at place) (all_at test packages at) h in
    let e : (place + 1) + (at - (place + 1)) ≡ at = omega (arith, leb-false at place w.0) in
    all_at-false test (drop (place + 1) packages) (at - (place + 1))
    (ap (λ (o : Option PackageText). unwrap_or (option_map test o) true)
    (slice_get-drop (place + 1) packages (at - (place + 1)) ∙ ap (slice_get packages) e)
    ∙ w.1)

pub list_all-later : (place : ℕ) (test : PackageText → Bool) (packages : List PackageText) (places : List ℕ) →
    AreFound test false packages places → list_all (all_later place test packages) places
    ≡ list_all test (drop (place + 1) packages)
list_all-later place test packages places found =
    same_Bool-false _ _ (one_is_not (all_later place test packages) _ (all_later-false place test packages) places)
    (λ h. let w = some_false test (drop (place + 1) packages) h in
    let at : slice_get packages (place + 1 + w.place) ≡ Some w.found =
    sym (slice_get-drop (place + 1) packages w.place) ∙ w.at in
    place_is_not (all_later place test packages) (place + 1 + w.place)
    (or_from (nat_le (place + 1 + w.place) place) _ (lt-leb (place + 1 + w.place) place (omega arith))
    (ap (λ (o : Option PackageText). unwrap_or (option_map test o) true) at ∙ w.answered))
    places
    (found (place + 1 + w.place) w.found at w.answered))
