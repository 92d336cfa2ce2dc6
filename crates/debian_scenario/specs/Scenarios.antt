-- What a scenario means.
use Rattle.std.specs.Prelude.{ℕ, ◌+◌, List, [], ◌∷◌, Option, None, Some, Result, Ok, Err}
use Rattle.debian_text.specs.Fields.{fields}
use Rattle.debian_scenario.specs.Packages.{PackageText, package_of}
use Rattle.debian_scenario.specs.Requests.{RequestText, request_of}
use Rattle.debian_scenario.specs.Results.{◌>>=◌, result_map, result_map_err}
use Rattle.debian_scenario.specs.Stanzas.{stanzas}
use Rattle.debian_scenario.specs.Values.{Values, values_of}
use Rattle.debian_scenario.specs.declared.fault.ScenarioFault.{ScenarioFault}
use Rattle.debian_scenario.specs.declared.fault.ScenarioFault.TheVariants as In
use Rattle.debian_scenario.specs.declared.fault.StanzaFault.{StanzaFault}
use Rattle.debian_scenario.specs.declared.fault.StanzaFault.TheVariants.{Missing}
use Rattle.debian_scenario.specs.declared.key.Key.TheVariants as Field

pub record ScenarioText : Type 0 where
  pub request : RequestText
  pub packages : List PackageText

-- the packages of these stanzas; `before` counts those before the first of them
abbrev pub packages_from : ℕ → List (List (List ℕ)) → Result (List PackageText) ScenarioFault
packages_from before [] = Ok []
packages_from before (stanza ∷ rest) =
    result_map_err (In.Package before) (package_of stanza) >>=
    (λ first. result_map (λ others. first ∷ others) (packages_from (before + 1) rest))

-- the first stanza is the request, and each other one is about a package
abbrev pub scenario_in : List (List (List ℕ)) → Result ScenarioText ScenarioFault
scenario_in [] = Err (In.Request (Missing Field.Request))
scenario_in (stanza ∷ rest) =
    result_map_err In.Request (request_of stanza) >>=
    (λ request. result_map (λ packages. record { request = request; packages = packages }) (packages_from 0 rest))

-- what the text of a scenario means, or why its first stanza that can't be read can't
abbrev pub scenario_of : List ℕ → Result ScenarioText ScenarioFault
scenario_of text = scenario_in (stanzas (fields text))

-- the values of the first stanza, and the other stanzas
abbrev pub first_values : List (List (List ℕ)) → Result (Option (Values × List (List (List ℕ)))) StanzaFault
first_values [] = Ok None
first_values (stanza ∷ rest) = result_map (λ values. Some (values, rest)) (values_of stanza)

abbrev pub first_package : List (List (List ℕ)) → Result (Option (PackageText × List (List (List ℕ)))) StanzaFault
first_package [] = Ok None
first_package (stanza ∷ rest) = result_map (λ first. Some (first, rest)) (package_of stanza)

abbrev pub first_request : List (List (List ℕ)) → Result (RequestText × List (List (List ℕ))) StanzaFault
first_request [] = Err (Missing Field.Request)
first_request (stanza ∷ rest) = result_map (λ request. (request, rest)) (request_of stanza)
