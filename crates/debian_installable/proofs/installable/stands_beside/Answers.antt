use Rattle.std.proofs.Common.{rules, tests, ◌∙◌, sym}
use Rattle.std.proofs.lemmas.Iterator.{YieldsList-from_slice}
use Rattle.std.proofs.lemmas.Iterator.Search.{all_from_yields_List}
use Rattle.std.proofs.lemmas.List.Folds.{list_all-map}
use Rattle.debian_installable.specs.Installable.{may_stand_beside}
use Rattle.debian_scenario.specs.Plain.{plain_package}
use Rattle.debian_installable.proofs.installable.stands_beside.Goals as goal

pub returns : goal.returns
returns c =
    let test = may_stand_beside c.args.native.now (plain_package c.args.one.now) in
    all_from_yields_List (λ q. test (plain_package q)) _ _ c.all.result c.all.ensures.ran
    (YieldsList-from_slice c.args.others.now cc) (λ x b q k. search (rules, tests))
    ∙ sym (list_all-map test plain_package c.args.others.now)
