use Rattle.std.proofs.Common.{◌≡◌, drop, map}
use Rattle.debian_scenario.specs.Plain.{plain_package}
use Rattle.debian_installable.specs.Installable.{stand_together}
use Rattle.debian_directory.proofs.together.Together.stand_together.Given as goal

-- the packages before are as they have to be
abbrev pub invariant-loop-place : goal.invariant-loop-place
invariant-loop-place l =
    stand_together l.self.native.now (map plain_package l.self.packages.now)
    ≡ stand_together l.self.native.now (map plain_package (drop l.place l.self.packages.now))
