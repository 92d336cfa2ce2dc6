use Rattle.std.proofs.Common.{Ok, Some, ap, ◌∙◌}
use Rattle.debian_text.specs.Fields.{fields}
use Rattle.debian_scenario.specs.Plain.{plain_stanza}
use Rattle.debian_scenario.specs.Results.{result_map}
use Rattle.debian_scenario.specs.Stanzas.{stanzas}
use Rattle.debian_scenario.proofs.ReadLemmas.{package_by}
use Rattle.debian_scenario.proofs.scenario.next_package.Goals as goal

pub returns-clause-value : goal.returns-clause-value
returns-clause-value c =
    let rest = stanzas (fields c.in-Some.rest.now) in
    ap (result_map (λ first. Some (first, rest))) c.in_ok-package.ensures
    ∙ package_by (stanzas (fields c.args.text.now)) (Ok (Some (plain_stanza c.in-Some.stanza, rest)))
    (rw c.in-Some.is at c.in_ok-stanza.ensures.value)
