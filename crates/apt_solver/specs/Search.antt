-- What the search says, and what it leaves as it is.
use Rattle.std.specs.Prelude.{◌≡◌, false, map, All, Contains, List, ⊤}
use Rattle.debian_scenario.specs.Packages.{PackageText}
use Rattle.debian_scenario.specs.Plain.{plain_package}
use Rattle.debian_directory.specs.declared.rules.Rules.{Rules}
use Rattle.debian_provider.specs.Needs.{IsAnswer, IsKeepingMore}
use Rattle.debian_provider.specs.Reading.{IsWhole}
use Rattle.debian_provider.specs.declared.archive.Archive.{Archive}
use Rattle.picking.specs.Answers.{IfUnsolvable}
use Rattle.picking.specs.declared.finding.Answer.{Answer}
use Rattle.apt_solver.specs.declared.finding.Found.{Found}
use Rattle.apt_solver.specs.declared.finding.Found.TheVariants.{Packages, NoAnswer, StepsUsed, Unconfirmed}

-- no packages of the scenario are such
abbrev pub HasNoSuch : (Rules → List PackageText → Type 0) → Rules → Type 0
HasNoSuch IsSuch rules = (there : List PackageText) → IsSuch rules there → ⊥

-- if the search says that there is no solution, none are
abbrev pub FindsNoSuch : {N S A : Type 0} → (Rules → List PackageText → Type 0) → Rules → Answer N S A → Type 0
FindsNoSuch IsSuch rules = IfUnsolvable (λ refutation. HasNoSuch IsSuch rules)

-- what was found holds: packages of the scenario; and if it says that none are an answer, or none keep more, none do
abbrev pub IsFound : Rules → Found → Type 0
IsFound rules (Packages ordered keeps_all) =
    All (Contains rules.packages.now) ordered.there.items
    × (keeps_all ≡ false → HasNoSuch (IsKeepingMore (map plain_package ordered.there.items)) rules)
IsFound rules (NoAnswer reasons) = HasNoSuch IsAnswer rules
IsFound rules StepsUsed = ⊤
IsFound rules Unconfirmed = ⊤

-- the archive is of the same scenario, and whole if it was
pub record StaysWhole (old new : Archive) : Type 0 where
  pub rules : new.rules ≡ old.rules
  pub whole : IsWhole old → IsWhole new
