use Rattle.std.proofs.Common.{map, rules, tests, ◌∙◌, sym}
use Rattle.std.proofs.lemmas.Iterator.{YieldsList-from_slice}
use Rattle.std.proofs.lemmas.Iterator.Search.{all_from_yields_List}
use Rattle.std.proofs.lemmas.List.Folds.{list_all-map}
use Rattle.debian_scenario.specs.Plain.{plain_package, plain_request}
use Rattle.debian_directory.specs.Answers.{is_kept}
use Rattle.debian_directory.proofs.answer.are_kept.Goals as goal

pub returns : goal.returns
returns c =
    let rule = c.args.rules.now in
    let test = is_kept (plain_request rule.request.now) (map plain_package rule.packages.now)
    (map plain_package c.args.together.now.packages.now) in
    all_from_yields_List (λ q. test (plain_package q)) _ _ c.all.result c.all.ensures.ran
    (YieldsList-from_slice rule.packages.now cc) (λ x b q k. search (rules, tests))
    ∙ sym (list_all-map test plain_package rule.packages.now)
