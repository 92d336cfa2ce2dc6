use Rattle.std.proofs.Common.{◌==◌, not, filter, length, rules, tests, ◌∙◌, sym}
use Rattle.std.specs.Char.{is_ascii_whitespace}
use Rattle.std.specs.List.{slice_split}
use Rattle.std.proofs.lemmas.Iterator.Consumers.{YieldsList-from_filter}
use Rattle.std.proofs.lemmas.Iterator.Search.{any_from_yields_List}
use Rattle.std.proofs.lemmas.Iterator.Splits.{YieldsList-from_slice_split}
use Rattle.debian_installable.proofs.ListLemmas.{list_any-map}
use Rattle.debian_directory.specs.Answers.{is_same, named}
use Rattle.debian_directory.specs.Plain.{plain_name}
use Rattle.debian_directory.proofs.words.is_named.Goals as goal

pub returns : goal.returns
returns c =
    let name = plain_name c.args.name in
    let native = c.args.native.now in
    any_from_yields_List (λ word. is_same name (named native word)) _ _ c.any.result c.any.ensures.ran
    (YieldsList-from_filter _ (λ word. not (length word == 0))
    (YieldsList-from_slice_split _ is_ascii_whitespace c.args.words.now (cc) (cc) (cc)
    (λ x b q k. search (rules, tests))) c.filter.ensures.closure (λ x b q k. search (rules, tests)))
    (λ x b q k. search (rules, tests))
    ∙ sym (list_any-map (is_same name) (named native) (filter (λ word. not (length word == 0))
    (slice_split is_ascii_whitespace c.args.words.now)))
