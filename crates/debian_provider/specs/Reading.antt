-- What an archive has once all that was reached was read.
use Rattle.std.specs.Prelude.{◌≡◌, ℕ, ◌<◌, ◌≤◌, All, List, Some, length, option_map, slice_get}
use Rattle.debian_scenario.specs.Packages.{PackageText}
use Rattle.debian_scenario.specs.Plain.{plain_package}
use Rattle.debian_scenario.specs.declared.package.Package.{Package}
use Rattle.resolvo_pool.specs.Dependencies.{Needs, needs_of}
use Rattle.resolvo_pool.specs.Pool.{IsLater}
use Rattle.resolvo_pool.specs.Types.ConditionalRequirement.{ConditionalRequirement}
use Rattle.debian_provider.specs.Answers.{package_in}
use Rattle.debian_provider.specs.Growing.{AreNamed}
use Rattle.debian_provider.specs.Needs.{AreNeeds, IsAnswer, IsDemand, IsKeepingMore}
use Rattle.debian_provider.specs.declared.archive.Archive.{Archive}

-- what the solvable's package needs was read
pub record IsRead (archive : Archive) (solvable : ℕ) : Type 0 where
  pub one : Package
  pub is : package_in archive.reached.pool archive.rules.packages.now solvable ≡ Some one
  pub needs : Needs
  pub at : option_map needs_of (slice_get archive.needs.items solvable) ≡ Some needs
  pub so : AreNeeds archive.rules archive.reached.pool (plain_package one) needs

abbrev pub AreRead : Archive → Type 0
AreRead archive = (solvable : ℕ) → solvable < length archive.needs.items → IsRead archive solvable

-- each answer has what is required
abbrev pub AreRequired : Archive → Type 0
AreRequired archive =
    All (IsDemand archive.rules archive.reached.pool (IsAnswer archive.rules)) archive.requirements.items

-- each answer that keeps all that some packages keep, and more, has what these require
abbrev pub AreKept : List PackageText → Archive → List ConditionalRequirement → Type 0
AreKept few archive requirements =
    All (IsDemand archive.rules archive.reached.pool (IsKeepingMore few archive.rules)) requirements

-- of the same scenario, with more in its pool, and perhaps more that was read and is required
pub record IsWider (old new : Archive) : Type 0 where
  pub rules : new.rules ≡ old.rules
  pub later : IsLater old.reached.pool new.reached.pool
  pub named : AreNamed old.rules old.reached → AreNamed old.rules new.reached
  pub read : AreRead old → AreRead new
  pub required : AreRequired old → AreRequired new

-- names have all their versions, what each solvable needs was read, and each answer has what is required
pub record IsWhole (archive : Archive) : Type 0 where
  pub named : AreNamed archive.rules archive.reached
  pub read : AreRead archive
  pub closed : length archive.reached.pool.solvables ≤ length archive.needs.items
  pub required : AreRequired archive
