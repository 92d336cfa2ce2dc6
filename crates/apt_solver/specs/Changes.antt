-- What is installed once apt has done what an answer says.
use Rattle.std.specs.Prelude.{◌≡◌, ℕ, ◌&&◌, ◌++◌, not, true, Bool, Contains, List, filter}
use Rattle.debian_scenario.specs.Packages.{PackageText}
use Rattle.debian_directory.specs.Answers.{has, is_same, name_of}
use Rattle.apt_solver.specs.Difference.{is_new}

-- an installed package that isn't removed: a version of its name is there, and none that is new and takes its place
abbrev pub is_left : List ℕ → List PackageText → PackageText → Bool
is_left native there p =
    p.state.is_installed && has native there (name_of native p)
    && not (has native (filter is_new there) (name_of native p))

-- what is new, and what is left
abbrev pub changed : List ℕ → List PackageText → List PackageText → List PackageText
changed native packages there = filter is_new there ++ filter (is_left native there) packages

-- of each name one version is installed at most
abbrev pub AreOneVersion : List ℕ → List PackageText → Type 0
AreOneVersion native packages =
    (p q : PackageText) → Contains packages p → Contains packages q
    → p.state.is_installed ≡ true → q.state.is_installed ≡ true
    → is_same (name_of native p) (name_of native q) ≡ true → p ≡ q
