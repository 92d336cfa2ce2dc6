use Rattle.std.proofs.Common.{◌≡◌, ◌++◌, length, vec_len}
use Rattle.debian_text.specs.Fields.{fields}
use Rattle.debian_scenario.specs.Plain.{plain_packages}
use Rattle.debian_scenario.specs.Results.{result_map}
use Rattle.debian_scenario.specs.Scenarios.{packages_from}
use Rattle.debian_scenario.specs.Stanzas.{stanzas}
use Rattle.debian_scenario.proofs.scenario.read_packages.Given as goal

-- the packages so far, and those of the text that is left
abbrev pub invariant-packages : goal.invariant-packages
invariant-packages l =
    result_map (λ others. plain_packages l.packages ++ others)
    (packages_from (vec_len l.packages) (stanzas (fields l.rest)))
    ≡ packages_from 0 (stanzas (fields l.text))

abbrev pub decreases-packages : goal.decreases-packages
decreases-packages l = length l.rest
