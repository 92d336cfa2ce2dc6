use Rattle.std.proofs.Common.{◌≡◌, drop, map}
use Rattle.debian_scenario.specs.Plain.{plain_package}
use Rattle.debian_installable.specs.Installable.{stand_together}
use Rattle.debian_installable.proofs.installable.stand_together.Given as goal

-- the packages before are as they have to be
abbrev pub invariant-packages : goal.invariant-packages
invariant-packages l =
    stand_together l.native (map plain_package l.there) ≡ stand_together l.native (map plain_package (drop l.i l.there))
