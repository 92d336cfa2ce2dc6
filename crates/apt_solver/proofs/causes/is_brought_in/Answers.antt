use Rattle.std.proofs.Common.{◌≡◌, ◌∙◌, List, ap, map, subst, sym, take, true}
use Rattle.std.specs.List.{list_any}
use Rattle.debian_scenario.specs.Packages.{PackageText}
use Rattle.debian_scenario.specs.Plain.{plain_package, plain_request}
use Rattle.apt_solver.specs.Causes.{brings_in}
use Rattle.debian_directory.proofs.Elements.{any_of}
use Rattle.apt_solver.proofs.Known.{Contains-map}
use Rattle.apt_solver.proofs.causes.is_brought_in.Goals as goal

pub returns-in-Some-get : goal.returns-in-Some-get
returns-in-Some-get c = λ yes.
    let rules = c.args.rules.now in
    let there = c.args.there.now.packages.now in
    let earlier = c.first-earlier.result.packages.now in
    let by = c.in-Some-get.by.now in
    let brings = brings_in (plain_request rules.request.now) (map plain_package rules.packages.now)
    (map plain_package (take c.args.before there)) (map plain_package there) in
    let got = c.in-Some-get.ensures.lookup in
    subst (λ (l : List PackageText). list_any brings l ≡ true) (ap (map plain_package) c.first-earlier.ensures.packages)
    (any_of brings (map plain_package earlier) (plain_package by)
    (Contains-map plain_package earlier by (c.in-Some.place, got.3.0, sym got.1)) (sym c.brings_in.ensures ∙ yes))
