use Rattle.std.proofs.Common.{◌&&◌, map, rules, tests, ap, ◌∙◌, sym}
use Rattle.std.specs.List.{list_all}
use Rattle.std.proofs.lemmas.Iterator.{YieldsList-from_slice}
use Rattle.std.proofs.lemmas.Iterator.Search.{all_from_yields_List}
use Rattle.std.proofs.lemmas.List.Folds.{list_all-map}
use Rattle.debian_installable.specs.Installable.{is_served}
use Rattle.debian_scenario.specs.Plain.{plain_package}
use Rattle.debian_installable.proofs.installable.is_installable.Goals as goal

pub returns-then-stand_together : goal.returns-then-stand_together
returns-then-stand_together c =
    let packages = map plain_package c.args.there.now in
    let test = is_served c.args.native.now packages in
    all_from_yields_List (λ q. test (plain_package q)) _ _ c.all.result c.all.ensures.ran
    (YieldsList-from_slice c.args.there.now cc) (λ x b q k. search (rules, tests))
    ∙ sym (list_all-map test plain_package c.args.there.now)
    ∙ ap (λ b. b && list_all test packages) (sym (sym c.stand_together.ensures ∙ c.if-stand_together.true))
