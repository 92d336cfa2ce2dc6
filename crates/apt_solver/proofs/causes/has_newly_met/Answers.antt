use Rattle.std.proofs.Common.{◌==◌, not, map, rules, take, tests}
use Rattle.std.proofs.lemmas.Iterator.Consumers.{YieldsList-from_filter}
use Rattle.std.proofs.lemmas.Iterator.Search.{any_from_yields_List}
use Rattle.std.proofs.lemmas.Iterator.Splits.{YieldsList-from_slice_split}
use Rattle.debian_installable.specs.Fields.{is_blank}
use Rattle.debian_scenario.specs.Plain.{plain_package}
use Rattle.apt_solver.specs.Causes.{is_newly_met}
use Rattle.apt_solver.proofs.causes.has_newly_met.Goals as goal

pub returns : goal.returns
returns c =
    let there = c.args.there.now in
    any_from_yields_List (is_newly_met there.native.now (map plain_package (take c.args.before there.packages.now))
    (map plain_package there.packages.now) (plain_package c.args.by.now)) _ _ _ c.any.ensures.ran
    (YieldsList-from_filter _ (λ part. not (is_blank part))
    (YieldsList-from_slice_split _ (λ b. b == 44) c.args.field.now (cc) (cc) (cc)
    (λ x b q k. search (rules, tests))) c.filter.ensures.closure (λ x b q k. search (rules, tests)))
    (λ x b q k. search (rules, tests))
