use Rattle.std.proofs.Common.{◌∙◌, All, arith, map, subst, sym}
use Rattle.std.proofs.lemmas.Bool.{false≢true}
use Rattle.std.proofs.lemmas.List.{take_all}
use Rattle.std.proofs.lemmas.List.Elements.{All-nil}
use Rattle.debian_scenario.specs.Plain.{plain_package, plain_request}
use Rattle.apt_solver.specs.Versions.{IsNeededAt}
use Rattle.apt_solver.proofs.Versioned.{one_further}
use Rattle.apt_solver.proofs.versions.changes_in_need.Goals as goal

pub returns-then-not-is_changed : goal.returns-then-not-is_changed
returns-then-not-is_changed c = λ _ changed.
    absurd (false≢true (sym c.if-not-is_changed.true ∙ c.is_changed.ensures ∙ changed))

pub loop-other-init : goal.loop-other-init
loop-other-init c =
    let rules = c.args.rules.now in
    All-nil (IsNeededAt (plain_request rules.request.now) (map plain_package rules.packages.now)
    (map plain_package c.args.there.now) c.args.place)

pub loop-other-preserved : goal.loop-other-preserved
loop-other-preserved c =
    let rules = c.args.rules.now in
    one_further (IsNeededAt (plain_request rules.request.now) (map plain_package rules.packages.now)
    (map plain_package c.args.there.now) c.args.place)
    rules.packages.now c.loop-other.other-index _ c.loop-other-test.true c.loop-other.invariant
    (c.in_ok-is_needed.ensures c.if-not-branch.false)

pub returns : goal.returns
returns c = λ _ _.
    let rules = c.args.rules.now in
    subst (λ l. All (IsNeededAt (plain_request rules.request.now) (map plain_package rules.packages.now)
    (map plain_package c.args.there.now) c.args.place) (map plain_package l))
    (take_all _ _ (omega (arith, c.loop-other-test.false))) c.loop-other.invariant
