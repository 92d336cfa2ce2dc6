use Rattle.std.proofs.Common.{◌∙◌, ap, get_or, refl}
use Rattle.std.proofs.lemmas.List.{take_all}
use Rattle.solutions.proofs.Words.{package_of, packages_of, Requirement, Single}
use Rattle.solutions.proofs.EncodingLemmas.{own_default}
use Rattle.solutions.proofs.NewestLemmas.{next_list}
use Rattle.solutions.proofs.newest.packages_of.Invariants.{provided}
use Rattle.solutions.proofs.newest.packages_of.Goals as goal

pub loop-requirement-preserved : goal.loop-requirement-preserved
loop-requirement-preserved g c =
    let one = package_of (provided g c.args.provider.now) in
    let requirements = c.args.requirements.now in
    let i = c.loop-requirement.requirement-index in
    let default : Requirement = Single (record { 0 = 0 }) in
    let requirement = get_or requirements i default in
    next_list requirements i requirement c.loop-requirement-test.true
    (own_default requirements i default c.loop-requirement-test.true)
    one c.loop-requirement.packages.items c.push_package.new.packages.items (one requirement)
    c.loop-requirement.invariant c.in_ok-push_package.ensures refl

pub returns : goal.returns
returns g c =
    c.loop-requirement.invariant
    ∙ ap (packages_of (provided g c.args.provider.now))
    (take_all c.loop-requirement.requirement-index c.args.requirements.now c.loop-requirement-test.false)
