use Rattle.std.proofs.Common.{◌==◌, not, map, rules, tests}
use Rattle.std.proofs.lemmas.Iterator.Consumers.{YieldsList-from_filter}
use Rattle.std.proofs.lemmas.Iterator.Search.{all_from_yields_List}
use Rattle.std.proofs.lemmas.Iterator.Splits.{YieldsList-from_slice_split}
use Rattle.debian_installable.specs.Fields.{is_blank}
use Rattle.debian_installable.specs.Installable.{is_group_met}
use Rattle.debian_scenario.specs.Plain.{plain_package}
use Rattle.debian_installable.proofs.installable.are_met.Goals as goal

pub returns : goal.returns
returns c =
    all_from_yields_List (is_group_met c.args.native.now (map plain_package c.args.there.now)
    (plain_package c.args.one.now)) _ _ _ c.all.ensures.ran
    (YieldsList-from_filter _ (λ part. not (is_blank part))
    (YieldsList-from_slice_split _ (λ b. b == 44) c.args.field.now (cc) (cc) (cc)
    (λ x b q k. search (rules, tests))) c.filter.ensures.closure (λ x b q k. search (rules, tests)))
    (λ x b q k. search (rules, tests))
