use Rattle.std.proofs.Common.{map}
use Rattle.std.proofs.lemmas.Result.{IfOk-weaker}
use Rattle.debian_scenario.specs.Plain.{plain_package, plain_request}
use Rattle.apt_solver.proofs.Known.{checked_said, keeps_most}
use Rattle.apt_solver.proofs.answering.answer_found.Goals as goal

pub returns-then-changes : goal.returns-then-changes
returns-then-changes c =
    let rules = c.args.rules.now in
    let keeps = keeps_most rules (map plain_package c.args.there.now) c.args.is_to_keep_all c.in_ok-keeps.keeps
    c.if-keeps.true c.requires.none c.in_ok-keeps.ensures in
    IfOk-weaker c.difference.result _ _
    (λ said is. checked_said (plain_request rules.request.now) rules.packages.now c.args.there.now
    c.in_ok-answers.answers said.items c.requires.known c.if-answers.true c.in_ok-answers.ensures keeps
    c.requires.caused (c.in_ok-changes.ensures c.if-changes.true) is) c.difference.ensures
