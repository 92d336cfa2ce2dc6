use Rattle.std.proofs.Common.{map, rules, tests, ap, ◌∙◌, sym}
use Rattle.std.proofs.lemmas.Iterator.{YieldsList-from_slice}
use Rattle.std.proofs.lemmas.Iterator.Search.{any_from_yields_List}
use Rattle.debian_installable.proofs.ListLemmas.{list_any-map}
use Rattle.debian_installable.specs.Installable.{is_met, is_met_by}
use Rattle.debian_scenario.specs.Plain.{plain_package}
use Rattle.debian_text.specs.Plain.{plain_relation}
use Rattle.debian_installable.proofs.installable.is_met.Goals as goal

pub returns : goal.returns
returns c =
    let one = plain_package c.args.one.now in
    let test = is_met_by c.args.native.now one (plain_relation c.in-Some.relation) in
    any_from_yields_List (λ q. test (plain_package q)) _ _ c.any.result c.any.ensures.ran
    (YieldsList-from_slice c.args.there.now cc) (λ x b q k. search (rules, tests))
    ∙ sym (list_any-map test plain_package c.args.there.now)
    ∙ ap (is_met c.args.native.now (map plain_package c.args.there.now) one) c.in-Some.ensures
