use Rattle.std.proofs.Common.{map, rules, tests, ◌∙◌}
use Rattle.std.proofs.lemmas.Bool.{not-false, or_parts}
use Rattle.std.proofs.lemmas.Iterator.{YieldsList-from_slice}
use Rattle.std.proofs.lemmas.Iterator.Search.{all_from_yields_List}
use Rattle.debian_scenario.specs.Plain.{plain_package}
use Rattle.debian_installable.specs.Installable.{may_stand_beside}
use Rattle.debian_directory.specs.Directory.{places_of}
use Rattle.debian_directory.proofs.Names.{placed_by_name}
use Rattle.debian_directory.proofs.Places.{all_later, list_all-later}
use Rattle.debian_directory.proofs.together.Together.stands_beside_later.Goals as goal

pub returns : goal.returns
returns c =
    let own = c.args.self.now in
    let packages = map plain_package own.packages.now in
    let one = plain_package c.args.one.now in
    let test = may_stand_beside own.native.now one in
    let places = places_of own.directory.now one.identity.name in
    all_from_yields_List (all_later c.args.place test packages) _ _ c.all.result c.all.ensures.ran
    (YieldsList-from_slice places (cc)) (λ x b q k. search (rules, tests))
    ∙ list_all-later c.args.place test packages places
    (λ place p at e. placed_by_name packages own.directory.now own.of_packages place p at one.identity.name
    (not-false _ (or_parts _ _ e).0))
