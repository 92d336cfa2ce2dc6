-- Which installed packages get another version.
use Rattle.std.specs.Prelude.{◌≡◌, ◌&&◌, ◌||◌, ℕ, Bool, true, false, All, List, Some, not, slice_get, slice_set}
use Rattle.debian_scenario.specs.Packages.{PackageText}
use Rattle.debian_scenario.specs.Requests.{RequestText}
use Rattle.debian_directory.specs.Answers.{is_answer, is_asked, is_installed_as, is_name_installed, name_of}

-- all that is installed is to get apt's candidate
abbrev pub is_upgrade : RequestText → Bool
is_upgrade request = request.actions.upgrade_all || request.actions.upgrade || request.actions.dist_upgrade

-- p isn't installed, though a version of its name is, and the request doesn't say that it is to get another version
unfoldable pub is_changed : RequestText → List PackageText → PackageText → Bool
is_changed request packages p =
    is_name_installed request packages (name_of request.architecture p)
    && not (p.state.is_installed || is_asked request packages (name_of request.architecture p) || is_upgrade request)

-- if q is the installed version of the name at a place, the packages are no answer with q in this place
unfoldable pub IsNeededAt : RequestText → List PackageText → List PackageText → ℕ → PackageText → Type 0
IsNeededAt request packages there place q =
    (p : PackageText) → slice_get there place ≡ Some p →
    is_installed_as request packages (name_of request.architecture p) q ≡ true →
    is_answer request packages (slice_set there place q) ≡ false

-- so of each of these packages that is changed, and each package of the scenario
abbrev pub ChangeInNeed : RequestText → List PackageText → List PackageText → Type 0
ChangeInNeed request packages there =
    (place : ℕ) (p : PackageText) → slice_get there place ≡ Some p → is_changed request packages p ≡ true →
    All (IsNeededAt request packages there place) packages
