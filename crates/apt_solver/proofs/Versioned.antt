-- Packages whose version changes in need.
use Rattle.std.proofs.Common.{◌≡◌, ◌<◌, ◌+◌, ◌∷◌, ◌∙◌, ℕ, All, List, Some, [], ap, false, get_or, length, map}
use Rattle.std.proofs.Common.{subst, sym, take, true}
use Rattle.std.specs.Prelude.{option_map, slice_get, slice_set}
use Rattle.std.proofs.lemmas.Bool.{false≢true}
use Rattle.std.proofs.lemmas.List.{map-append, map-set, take_more}
use Rattle.std.proofs.lemmas.List.Elements.{All-push}
use Rattle.std.proofs.lemmas.Option.{same_Some, slice_get-get_or, slice_get-map}
use Rattle.debian_scenario.specs.Packages.{PackageText}
use Rattle.debian_scenario.specs.Plain.{plain_package}
use Rattle.debian_scenario.specs.Requests.{RequestText}
use Rattle.debian_scenario.specs.declared.package.Package.{Package}
use Rattle.debian_directory.specs.Answers.{is_answer, is_installed_as, name_of}
use Rattle.apt_solver.specs.Versions.{IsNeededAt, is_changed}

-- the package at a place is asked for, or changes in need
abbrev pub ChangesAt : RequestText → List PackageText → List Package → ℕ → PackageText → Type 0
ChangesAt request packages there place p =
    is_changed request packages p ≡ true → All (IsNeededAt request packages (map plain_package there) place) packages

-- what holds of the first i packages, and of the next one
pub one_further : (P : PackageText → Type 0) (xs : List Package) (i : ℕ) (d : Package) → i < length xs
    → All P (map plain_package (take i xs)) → P (plain_package (get_or xs i d))
    → All P (map plain_package (take (i + 1) xs))
one_further P xs i d within so_far holds =
    subst (All P) (sym (ap (map plain_package) (take_more xs i d within)
    ∙ map-append plain_package (take i xs) (get_or xs i d ∷ [])))
    (All-push P (map plain_package (take i xs)) (plain_package (get_or xs i d)) so_far holds)

pub text_at : (there : List Package) (place : ℕ) (one : Package) → place < length there → one ≡ get_or there place one
    → slice_get (map plain_package there) place ≡ Some (plain_package one)
text_at there place one within is =
    slice_get-map plain_package there place
    ∙ ap (option_map plain_package) (slice_get-get_or there place one within ∙ ap Some (sym is))

module _ (request : RequestText) (packages : List PackageText) (there : List Package) (place : ℕ) (q : Package) where
  -- it isn't the installed version of the name there
  pub not_this : (one : PackageText) → slice_get (map plain_package there) place ≡ Some one
      → is_installed_as request packages (name_of request.architecture one) (plain_package q) ≡ false
      → IsNeededAt request packages (map plain_package there) place (plain_package q)
  unfolding IsNeededAt
  not_this one at isn't p here is =
      absurd (false≢true (sym isn't
      ∙ ap (λ (r : PackageText). is_installed_as request packages (name_of request.architecture r) (plain_package q))
      (same_Some one p (sym at ∙ here)) ∙ is))

  -- with it there is no answer
  pub no_answer : is_answer request packages (map plain_package (slice_set there place q)) ≡ false
      → IsNeededAt request packages (map plain_package there) place (plain_package q)
  unfolding IsNeededAt
  no_answer none p here is =
      ap (λ (l : List PackageText). is_answer request packages l) (sym (map-set plain_package there place q)) ∙ none
