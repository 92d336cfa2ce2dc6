use Rattle.std.proofs.Common.{map, rules, tests, ◌∙◌, sym}
use Rattle.std.proofs.lemmas.Iterator.{YieldsList-from_slice}
use Rattle.std.proofs.lemmas.Iterator.Search.{all_from_yields_List}
use Rattle.std.proofs.lemmas.List.Folds.{list_all-map}
use Rattle.debian_scenario.specs.Plain.{plain_package}
use Rattle.debian_directory.specs.Answers.{has}
use Rattle.debian_directory.specs.Plain.{plain_name}
use Rattle.debian_directory.proofs.answer.are_there.Goals as goal

pub returns : goal.returns
returns c =
    let together = c.args.together.now in
    let test = has together.native.now (map plain_package together.packages.now) in
    all_from_yields_List (λ n. test (plain_name n)) _ _ c.all.result c.all.ensures.ran
    (YieldsList-from_slice c.args.names.now cc) (λ x b q k. search (rules, tests))
    ∙ sym (list_all-map test plain_name c.args.names.now)
