use Rattle.std.specs.Prelude.{map}
use Rattle.debian_scenario.specs.Plain.{plain_package, plain_request}
use Rattle.apt_solver.proofs.Places.{HoldsBefore}
use Rattle.apt_solver.proofs.Versioned.{ChangesAt}
use Rattle.apt_solver.proofs.versions.change_in_need.Given as goal

abbrev pub invariant-loop-place : goal.invariant-loop-place
invariant-loop-place l =
    HoldsBefore plain_package l.there
    (ChangesAt (plain_request l.rules.request.now) (map plain_package l.rules.packages.now) l.there) l.place
