-- Packages that have a cause.
use Rattle.std.proofs.Common.{◌≡◌, ◌∙◌, ℕ, ◌<◌, ◌+◌, ◌++◌, ◌∷◌, ◌||◌, [], Bool, true, false, List, ap, arith}
use Rattle.std.proofs.Common.{get_or}
use Rattle.std.proofs.Common.{length, map, refl, subst, sym}
use Rattle.std.specs.Prelude.{take}
use Rattle.std.specs.List.{list_any}
use Rattle.std.proofs.lemmas.List.{length-take-le, map-append, take-map, take_at, take_more}
use Rattle.debian_scenario.specs.Packages.{PackageText}
use Rattle.debian_scenario.specs.Plain.{plain_package}
use Rattle.debian_scenario.specs.Requests.{RequestText}
use Rattle.debian_scenario.specs.declared.package.Package.{Package}
use Rattle.debian_directory.specs.Answers.{is_asked, is_name_installed, name_of}
use Rattle.apt_solver.specs.Causes.{brings_in, has_cause}

-- one of three
pub first_so : (a b c : Bool) → a ≡ true → (a || b || c) ≡ true
first_so a b c so = subst (λ x. (x || b || c) ≡ true) (sym so) refl

second_true : (a c : Bool) → (a || true || c) ≡ true
second_true true c = refl
second_true false c = refl

pub second_so : (a b c : Bool) → b ≡ true → (a || b || c) ≡ true
second_so a b c so = subst (λ x. (a || x || c) ≡ true) (sym so) (second_true a c)

third_true : (a b : Bool) → (a || b || true) ≡ true
third_true true b = refl
third_true false true = refl
third_true false false = refl

pub third_so : (a b c : Bool) → c ≡ true → (a || b || c) ≡ true
third_so a b c so = subst (λ x. (a || b || x) ≡ true) (sym so) (third_true a b)

-- the package at a place has a cause
abbrev pub HasCauseAt : RequestText → List PackageText → List Package → ℕ → PackageText → Type 0
HasCauseAt request packages there place q =
    has_cause request packages (take place (map plain_package there)) q ≡ true

-- the packages up to a place, and those before it
module _ (those there : List Package) (place : ℕ) (d : Package) (within : place < length those)
    (first : there ≡ take (place + 1) those) where
  abbrev last : Package
  last = get_or those place d

  split : there ≡ take place those ++ last ∷ []
  split = first ∙ take_more those place d within

  earlier : take place there ≡ take place those
  earlier = ap (take place) split
      ∙ take_at (take place those) (last ∷ []) place (length-take-le place those (omega (arith, within)))

  pub last_of_first : there ≡ take place there ++ last ∷ []
  last_of_first = split ∙ ap (λ l. l ++ last ∷ []) (sym earlier)

  pub by_the_first : (request : RequestText) (packages : List PackageText)
      → has_cause request packages (map plain_package (take place there)) (plain_package last) ≡ true
      → has_cause request packages (take place (map plain_package those)) (plain_package last) ≡ true
  by_the_first request packages caused =
      subst (λ (l : List PackageText). has_cause request packages l (plain_package last) ≡ true)
      (ap (map plain_package) earlier ∙ sym (take-map plain_package place those)) caused

-- a package before the last one brings it in
pub brought_in_so : (request : RequestText) (packages : List PackageText) (there : List Package) (before : ℕ)
    (one : Package) → there ≡ take before there ++ one ∷ []
    → list_any (brings_in request packages (map plain_package (take before there)) (map plain_package there))
    (map plain_package (take before there)) ≡ true
    → has_cause request packages (map plain_package (take before there)) (plain_package one) ≡ true
unfolding has_cause
brought_in_so request packages there before one last found =
    let early = map plain_package (take before there) in
    let name = name_of request.architecture (plain_package one) in
    third_so (is_name_installed request packages name) (is_asked request packages name)
    (list_any (brings_in request packages early (early ++ plain_package one ∷ [])) early)
    (subst (λ (l : List PackageText). list_any (brings_in request packages early l) early ≡ true)
    (ap (map plain_package) last ∙ map-append plain_package (take before there) (one ∷ [])) found)
