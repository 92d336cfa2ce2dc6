use Rattle.std.proofs.Common.{◌∷◌, [], vec_len, ◌∙◌}
use Rattle.std.proofs.lemmas.List.{map-append}
use Rattle.debian_text.specs.Fields.{fields}
use Rattle.debian_scenario.specs.Plain.{plain_package, plain_packages}
use Rattle.debian_scenario.specs.Stanzas.{stanzas}
use Rattle.debian_scenario.proofs.ReadLemmas.{package_more}
use Rattle.debian_scenario.proofs.scenario.read_packages.Goals as goal

pub packages-preserved : goal.packages-preserved
packages-preserved c =
    let pushed = c.in_ok-push-in-Ok-Some.ensures in
    let first = rw c.in-Ok-Some.field-0-is at c.in-Ok-Some.ensures.value in
    rw (pushed.len, pushed.items, map-append plain_package c.packages.packages.items (c.in-Ok-Some.package ∷ []))
    (package_more (plain_packages c.packages.packages) (vec_len c.packages.packages)
    (stanzas (fields c.packages.rest.now)) (stanzas (fields c.in-Ok-Some.others.now))
    (plain_package c.in-Ok-Some.package) first
    ∙ c.packages.invariant)
