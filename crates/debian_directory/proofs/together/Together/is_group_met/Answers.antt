use Rattle.std.proofs.Common.{◌==◌, map, rules, tests}
use Rattle.std.proofs.lemmas.Iterator.Search.{any_from_yields_List}
use Rattle.std.proofs.lemmas.Iterator.Splits.{YieldsList-from_slice_split}
use Rattle.debian_installable.specs.Installable.{is_met}
use Rattle.debian_scenario.specs.Plain.{plain_package}
use Rattle.debian_text.specs.Relations.{relation_of}
use Rattle.debian_directory.proofs.together.Together.is_group_met.Goals as goal

pub returns : goal.returns
returns c =
    any_from_yields_List (λ part. is_met c.args.self.now.native.now (map plain_package c.args.self.now.packages.now)
    (plain_package c.args.one.now) (relation_of part)) _ _ _ c.any.ensures.ran
    (YieldsList-from_slice_split _ (λ b. b == 124) c.args.group.now c.split.ensures.rest c.split.ensures.done
    c.split.ensures.closure (λ x b q k. search (rules, tests)))
    (λ x b q k. search (rules, tests))
