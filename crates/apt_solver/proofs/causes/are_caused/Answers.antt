use Rattle.std.proofs.Common.{arith, map}
use Rattle.debian_scenario.specs.Plain.{plain_package, plain_request}
use Rattle.apt_solver.proofs.Caused.{HasCauseAt, by_the_first, last_of_first}
use Rattle.apt_solver.proofs.Places.{all_hold, none_before, one_more}
use Rattle.apt_solver.proofs.causes.are_caused.Goals as goal

pub loop-place-init : goal.loop-place-init
loop-place-init c =
    let rules = c.args.rules.now in
    let those = c.args.together.now.packages.now in
    none_before plain_package those
    (HasCauseAt (plain_request rules.request.now) (map plain_package rules.packages.now) those)

pub is_caused-requires-clause-last : goal.is_caused-requires-clause-last
is_caused-requires-clause-last c =
    last_of_first c.args.together.now.packages.now c.first-there.result.packages.now c.loop-place.place _
    c.loop-place-test.true c.first-there.ensures.packages

pub loop-place-preserved : goal.loop-place-preserved
loop-place-preserved c =
    let rules = c.args.rules.now in
    let request = plain_request rules.request.now in
    let packages = map plain_package rules.packages.now in
    let those = c.args.together.now.packages.now in
    let place = c.loop-place.place in
    one_more plain_package those (HasCauseAt request packages those) place _ c.loop-place-test.true
    c.loop-place.invariant
    (by_the_first those c.first-there.result.packages.now place _ c.loop-place-test.true c.first-there.ensures.packages
    request packages (c.is_caused.ensures c.if-not-is_caused.false))

pub returns : goal.returns
returns c = λ _.
    let rules = c.args.rules.now in
    let those = c.args.together.now.packages.now in
    all_hold plain_package those
    (HasCauseAt (plain_request rules.request.now) (map plain_package rules.packages.now) those)
    c.loop-place.place (λ lt. absurd (omega (arith, lt, c.loop-place-test.false))) c.loop-place.invariant
