use Rattle.std.proofs.Common.{◌≡◌, ℕ, ◌<◌, true, Some, map}
use Rattle.std.specs.Prelude.{slice_get}
use Rattle.debian_scenario.specs.Packages.{PackageText}
use Rattle.debian_scenario.specs.Plain.{plain_package}
use Rattle.debian_directory.specs.Directory.{is_placed, IsInStep}
use Rattle.debian_directory.proofs.directory.Directory.add_names.Given as goal

-- the packages so far are under their names
abbrev pub invariant-loop-place : goal.invariant-loop-place
invariant-loop-place l = record {
  in_step : IsInStep l.self;
  added : (place : ℕ) → place < l.place → (p : PackageText) → slice_get (map plain_package l.packages) place ≡ Some p →
      is_placed l.self p.identity.name place ≡ true;
}
