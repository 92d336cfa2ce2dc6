use Rattle.std.proofs.Common.{◌∙◌, ap, map, sym}
use Rattle.debian_scenario.specs.Plain.{plain_package, plain_request}
use Rattle.debian_directory.specs.Answers.{is_asked, is_name_installed}
use Rattle.apt_solver.specs.Causes.{has_cause}
use Rattle.apt_solver.proofs.Caused.{brought_in_so, first_so, second_so}
use Rattle.apt_solver.proofs.causes.is_caused.Goals as goal

pub returns-then-is_installed : goal.returns-then-is_installed
unfolding has_cause
returns-then-is_installed c = λ _.
    let rules = c.args.rules.now in
    first_so _ _ _ (ap (is_name_installed (plain_request rules.request.now) (map plain_package rules.packages.now))
    (sym c.name_of-name.ensures) ∙ sym c.is_installed.ensures ∙ c.if-is_installed.true)

pub returns-then-is_asked : goal.returns-then-is_asked
unfolding has_cause
returns-then-is_asked c = λ _.
    let rules = c.args.rules.now in
    second_so _ _ _ (ap (is_asked (plain_request rules.request.now) (map plain_package rules.packages.now))
    (sym c.name_of-name.ensures) ∙ sym c.is_asked.ensures ∙ c.if-is_asked.true)

pub returns : goal.returns
returns c = λ found.
    let rules = c.args.rules.now in
    brought_in_so (plain_request rules.request.now) (map plain_package rules.packages.now) c.args.there.now.packages.now
    c.args.before c.args.one.now c.requires.last (c.is_brought_in.ensures found)
