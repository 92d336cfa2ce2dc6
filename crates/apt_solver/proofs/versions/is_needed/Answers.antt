use Rattle.std.proofs.Common.{◌∙◌, ap, arith, map, sym}
use Rattle.std.proofs.lemmas.Bool.{not-true}
use Rattle.std.proofs.lemmas.List.{length-map}
use Rattle.std.proofs.lemmas.Option.{slice_get_within}
use Rattle.debian_directory.specs.Answers.{is_installed_as}
use Rattle.debian_scenario.specs.Plain.{plain_package, plain_request}
use Rattle.apt_solver.specs.Versions.{IsNeededAt}
use Rattle.apt_solver.proofs.Versioned.{no_answer, not_this, text_at}
use Rattle.apt_solver.proofs.versions.is_needed.Goals as goal

pub returns-in_default : goal.returns-in_default
unfolding IsNeededAt
returns-in_default c = λ _ p here is.
    absurd (omega (
      arith,
      slice_get_within (map plain_package c.args.there.now) c.args.place p here,
      length-map c.args.there.now plain_package,
      c.in_default.ensures.lookup,
    ))

pub returns-then-not-is_installed_as : goal.returns-then-not-is_installed_as
returns-then-not-is_installed_as c = λ _.
    let rules = c.args.rules.now in
    let request = plain_request rules.request.now in
    let packages = map plain_package rules.packages.now in
    let there = c.args.there.now in
    let one = c.in-Some.one.now in
    let got = c.in-Some.ensures.lookup in
    not_this request packages there c.args.place c.args.other.now (plain_package one)
    (text_at there c.args.place one got.3.0 got.1)
    (ap (λ name. is_installed_as request packages name (plain_package c.args.other.now)) (sym c.name_of.ensures)
    ∙ sym c.is_installed_as.ensures ∙ c.if-not-is_installed_as.true)

pub returns : goal.returns
returns c = λ needed.
    let rules = c.args.rules.now in
    no_answer (plain_request rules.request.now) (map plain_package rules.packages.now) c.args.there.now c.args.place
    c.args.other.now (sym c.in_ok-is_answer.ensures ∙ not-true _ needed)
