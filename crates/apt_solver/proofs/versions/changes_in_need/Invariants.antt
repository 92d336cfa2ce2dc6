use Rattle.std.proofs.Common.{All, map, take}
use Rattle.debian_scenario.specs.Plain.{plain_package, plain_request}
use Rattle.apt_solver.specs.Versions.{IsNeededAt}
use Rattle.apt_solver.proofs.versions.changes_in_need.Given as goal

abbrev pub invariant-loop-other : goal.invariant-loop-other
invariant-loop-other l =
    All (IsNeededAt (plain_request l.rules.request.now) (map plain_package l.rules.packages.now)
    (map plain_package l.there) l.place)
    (map plain_package (take l.other-index l.rules.packages.now))
