use Rattle.std.proofs.Common.{map, rules, tests, ◌∙◌}
use Rattle.std.proofs.lemmas.Bool.{and_parts}
use Rattle.std.proofs.lemmas.Iterator.{YieldsList-from_slice}
use Rattle.std.proofs.lemmas.Iterator.Search.{any_from_yields_List}
use Rattle.debian_scenario.specs.Plain.{plain_package}
use Rattle.debian_directory.specs.Answers.{is_of_name}
use Rattle.debian_directory.specs.Directory.{any_at, places_of}
use Rattle.debian_directory.specs.Plain.{plain_name}
use Rattle.debian_directory.proofs.Names.{placed_by_name}
use Rattle.debian_directory.proofs.Places.{list_any-places}
use Rattle.debian_directory.proofs.together.Together.has.Goals as goal

pub returns : goal.returns
returns c =
    let own = c.args.self.now in
    let packages = map plain_package own.packages.now in
    let name = plain_name c.args.name in
    let test = is_of_name own.native.now name in
    let places = places_of own.directory.now name.name in
    any_from_yields_List (any_at test packages) _ _ c.any.result c.any.ensures.ran
    (YieldsList-from_slice places (cc)) (λ x b q k. search (rules, tests))
    ∙ list_any-places test packages places
    (λ place p at e. placed_by_name packages own.directory.now own.of_packages place p at name.name (and_parts _ _ e).0)
