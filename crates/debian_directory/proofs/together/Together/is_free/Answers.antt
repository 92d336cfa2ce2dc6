use Rattle.std.proofs.Common.{map, rules, tests, ap, ◌∙◌}
use Rattle.std.proofs.lemmas.Bool.{and_parts, not-false, or_parts}
use Rattle.std.proofs.lemmas.Iterator.{YieldsList-from_slice}
use Rattle.std.proofs.lemmas.Iterator.Search.{all_from_yields_List}
use Rattle.debian_text.specs.Plain.{plain_relation}
use Rattle.debian_scenario.specs.Plain.{plain_package}
use Rattle.debian_installable.specs.Installable.{is_free, is_free_of}
use Rattle.debian_directory.specs.Directory.{all_at, places_of}
use Rattle.debian_directory.proofs.Names.{placed_by_relation}
use Rattle.debian_directory.proofs.Places.{list_all-places}
use Rattle.debian_directory.proofs.together.Together.is_free.Goals as goal

pub returns : goal.returns
returns c =
    let own = c.args.self.now in
    let packages = map plain_package own.packages.now in
    let one = plain_package c.args.one.now in
    let relation = plain_relation c.in-Some.relation in
    let test = is_free_of own.native.now one relation in
    let places = places_of own.directory.now relation.name in
    all_from_yields_List (all_at test packages) _ _ c.all.result c.all.ensures.ran
    (YieldsList-from_slice places (cc)) (λ x b q k. search (rules, tests))
    ∙ list_all-places test packages places
    (λ place p at e. placed_by_relation packages own.directory.now own.of_packages place p at relation
    (and_parts _ _ (not-false _ (or_parts _ _ e).1)).0)
    ∙ ap (is_free own.native.now packages one) c.in-Some.ensures
