use Rattle.std.proofs.Common.{arith, map}
use Rattle.debian_scenario.specs.Plain.{plain_package, plain_request}
use Rattle.apt_solver.proofs.Places.{all_hold, none_before, one_more}
use Rattle.apt_solver.proofs.Versioned.{ChangesAt}
use Rattle.apt_solver.proofs.versions.change_in_need.Goals as goal

pub loop-place-init : goal.loop-place-init
loop-place-init c =
    let rules = c.args.rules.now in
    let there = c.args.there.now in
    none_before plain_package there
    (ChangesAt (plain_request rules.request.now) (map plain_package rules.packages.now) there)

pub loop-place-preserved : goal.loop-place-preserved
loop-place-preserved c =
    let rules = c.args.rules.now in
    let there = c.args.there.now in
    one_more plain_package there
    (ChangesAt (plain_request rules.request.now) (map plain_package rules.packages.now) there)
    c.loop-place.place _ c.loop-place-test.true c.loop-place.invariant
    (c.in_ok-changes_in_need.ensures c.if-not-branch.false)

pub returns : goal.returns
returns c = λ _.
    let rules = c.args.rules.now in
    let there = c.args.there.now in
    all_hold plain_package there
    (ChangesAt (plain_request rules.request.now) (map plain_package rules.packages.now) there)
    c.loop-place.place (λ lt. absurd (omega (arith, lt, c.loop-place-test.false))) c.loop-place.invariant
