use Rattle.std.proofs.Common.{◌≡◌, ℕ, ◌<◌, true, List, Some, map}
use Rattle.std.specs.Prelude.{slice_get}
use Rattle.debian_scenario.specs.Packages.{PackageText}
use Rattle.debian_scenario.specs.Plain.{plain_package}
use Rattle.debian_directory.specs.Directory.{is_placed, is_provided, IsInStep, Keeps}
use Rattle.debian_directory.proofs.directory.Directory.add_provisions.Given as goal

-- the packages so far are under what they provide
abbrev pub invariant-loop-place : goal.invariant-loop-place
invariant-loop-place l = record {
  in_step : IsInStep l.self;
  kept : Keeps l.initial.self l.self;
  added : (place : ℕ) → place < l.place → (p : PackageText) → slice_get (map plain_package l.packages) place ≡ Some p →
      (name : List ℕ) → is_provided name p.relations.provides ≡ true → is_placed l.self name place ≡ true;
}
