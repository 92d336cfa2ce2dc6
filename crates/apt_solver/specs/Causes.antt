-- Why packages are there.
use Rattle.std.specs.Prelude.{◌≡◌, ◌&&◌, ◌||◌, ◌++◌, ◌∷◌, ℕ, Bool, true, List, [], Some, not, slice_get, take}
use Rattle.std.specs.List.{list_any}
use Rattle.debian_scenario.specs.Packages.{PackageText}
use Rattle.debian_scenario.specs.Requests.{RequestText}
use Rattle.debian_installable.specs.Fields.{groups}
use Rattle.debian_installable.specs.Installable.{is_group_met}
use Rattle.debian_directory.specs.Answers.{is_asked, is_name_installed, name_of}

-- what is there meets a group of p's, and what was there before didn't
abbrev pub is_newly_met : List ℕ → List PackageText → List PackageText → PackageText → List ℕ → Bool
is_newly_met native before there p group =
    is_group_met native there p group && not (is_group_met native before p group)

abbrev pub has_newly_met : List ℕ → List PackageText → List PackageText → PackageText → List ℕ → Bool
has_newly_met native before there p field = list_any (is_newly_met native before there p) (groups field)

-- p depends on what is new there; or recommends it, if no version of p's name is installed
unfoldable pub brings_in : RequestText → List PackageText → List PackageText → List PackageText → PackageText → Bool
brings_in request packages before there p =
    has_newly_met request.architecture before there p p.relations.pre_depends
    || has_newly_met request.architecture before there p p.relations.depends
    || (not (is_name_installed request packages (name_of request.architecture p))
    && has_newly_met request.architecture before there p p.relations.recommends)

-- a version of q's name is installed, or asked for; or q is brought in by one of the packages before it
unfoldable pub has_cause : RequestText → List PackageText → List PackageText → PackageText → Bool
has_cause request packages before q =
    is_name_installed request packages (name_of request.architecture q)
    || is_asked request packages (name_of request.architecture q)
    || list_any (brings_in request packages before (before ++ q ∷ [])) before

-- each of these packages has a cause, which may be one before it
abbrev pub HaveCauses : RequestText → List PackageText → List PackageText → Type 0
HaveCauses request packages there =
    (place : ℕ) (q : PackageText) → slice_get there place ≡ Some q →
    has_cause request packages (take place there) q ≡ true
