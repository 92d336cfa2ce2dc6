use Rattle.std.proofs.Common.{◌∙◌, List, map, subst, sym}
use Rattle.debian_scenario.specs.Plain.{plain_package, plain_request}
use Rattle.debian_scenario.specs.declared.package.Package.{Package}
use Rattle.apt_solver.specs.Causes.{HaveCauses}
use Rattle.apt_solver.proofs.answering.answer_caused.Goals as goal

pub answer_found-requires-clause-caused : goal.answer_found-requires-clause-caused
answer_found-requires-clause-caused c =
    let rules = c.args.rules.now in
    subst (λ (ps : List Package). HaveCauses (plain_request rules.request.now) (map plain_package rules.packages.now)
    (map plain_package ps)) (c.deref.ensures.value ∙ sym c.deref-then-branch.ensures.value)
    (c.in_ok-have_causes.ensures c.if-branch.true)
