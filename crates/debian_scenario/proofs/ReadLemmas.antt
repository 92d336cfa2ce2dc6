-- What the first stanzas say, step by step.
use Rattle.std.proofs.Common.{◌≡◌, ℕ, ◌+◌, ◌==◌, false, List, [], ◌∷◌, ◌++◌, length, Option, None, Some, Result, Ok}
use Rattle.std.proofs.Common.{Err, refl, ap, ◌∙◌, sym, append_assoc}
use Rattle.debian_scenario.specs.Packages.{PackageText, package_in, package_of}
use Rattle.debian_scenario.specs.Requests.{RequestText, request_in, request_of}
use Rattle.debian_scenario.specs.Results.{◌>>=◌, result_map, result_map_err}
use Rattle.debian_scenario.specs.Scenarios.{ScenarioText, first_package, first_request, first_values, packages_from}
use Rattle.debian_scenario.specs.Scenarios.{scenario_in}
use Rattle.debian_scenario.specs.Stanzas.{behind, front, stanzas}
use Rattle.debian_scenario.specs.Values.{Values, values_of}
use Rattle.debian_scenario.specs.declared.fault.ScenarioFault.{ScenarioFault}
use Rattle.debian_scenario.specs.declared.fault.ScenarioFault.TheVariants as In
use Rattle.debian_scenario.specs.declared.fault.StanzaFault.{StanzaFault}
use Rattle.debian_scenario.specs.declared.fault.StanzaFault.TheVariants.{Missing}
use Rattle.debian_scenario.specs.declared.key.Key.TheVariants as Field
use Rattle.debian_scenario.proofs.StanzaLemmas.{stanzas-filled}

abbrev Fields : Type 0
Fields = List (List ℕ)

-- FROM FIELDS

-- what was read of the first stanza
pub read_first : (fs : Fields) (field : List ℕ) (others : Fields) → fs ≡ field ∷ others →
    (length field == 0) ≡ false → (read : Result Values StanzaFault) → read ≡ values_of (front fs) →
    result_map (λ values. Some (values, stanzas (behind fs))) read ≡ first_values (stanzas fs)
read_first fs field others first filled read is =
    ap (result_map (λ values. Some (values, stanzas (behind fs)))) is
    ∙ sym (ap first_values (ap stanzas first ∙ stanzas-filled field others filled
    ∙ ap (λ fs. front fs ∷ stanzas (behind fs)) (sym first)))

-- FROM VALUES

abbrev pub package_behind : Option (Values × List Fields) → Result (Option (PackageText × List Fields)) StanzaFault
package_behind None = Ok None
package_behind (Some r) = result_map (λ first. Some (first, r.1)) (package_in r.0)

pub package_by : (ss : List Fields) (read : Result (Option (Values × List Fields)) StanzaFault) →
    read ≡ first_values ss → (read >>= package_behind) ≡ first_package ss
package_by [] read is = ap (λ read. read >>= package_behind) is
package_by (stanza ∷ rest) read is =
    ap (λ read. read >>= package_behind) is
    ∙ elim (values_of stanza) as (λ values. (result_map (λ values. Some (values, rest)) values >>= package_behind)
    ≡ result_map (λ first. Some (first, rest)) (values >>= package_in)) [ Ok values ↦ refl | Err e ↦ refl ]

abbrev pub request_behind : Option (Values × List Fields) → Result (RequestText × List Fields) StanzaFault
request_behind None = Err (Missing Field.Request)
request_behind (Some r) = result_map (λ request. (request, r.1)) (request_in r.0)

pub request_by : (ss : List Fields) (read : Result (Option (Values × List Fields)) StanzaFault) →
    read ≡ first_values ss → (read >>= request_behind) ≡ first_request ss
request_by [] read is = ap (λ read. read >>= request_behind) is
request_by (stanza ∷ rest) read is =
    ap (λ read. read >>= request_behind) is
    ∙ elim (values_of stanza) as (λ values. (result_map (λ values. Some (values, rest)) values >>= request_behind)
    ≡ result_map (λ request. (request, rest)) (values >>= request_in)) [ Ok values ↦ refl | Err e ↦ refl ]

-- FROM PACKAGES

abbrev packages_behind : ℕ → Option (PackageText × List Fields) → Result (List PackageText) ScenarioFault
packages_behind before None = Ok []
packages_behind before (Some r) = result_map (λ others. r.0 ∷ others) (packages_from (before + 1) r.1)

packages_by : (before : ℕ) (ss : List Fields) (read : Result (Option (PackageText × List Fields)) StanzaFault) →
    read ≡ first_package ss → (result_map_err (In.Package before) read >>= packages_behind before)
    ≡ packages_from before ss
packages_by before [] read is = ap (λ read. result_map_err (In.Package before) read >>= packages_behind before) is
packages_by before (stanza ∷ rest) read is =
    ap (λ read. result_map_err (In.Package before) read >>= packages_behind before) is
    ∙ elim (package_of stanza) as (λ package_read. (result_map_err (In.Package before)
    (result_map (λ first. Some (first, rest)) package_read) >>= packages_behind before)
    ≡ (result_map_err (In.Package before) package_read >>= (λ first. result_map (λ others. first ∷ others)
    (packages_from (before + 1) rest)))) [ Ok first ↦ refl | Err e ↦ refl ]

one_more : {A E : Type 0} (xs : List A) (x : A) (r : Result (List A) E) →
    result_map (λ others. (xs ++ x ∷ []) ++ others) r ≡ result_map (λ others. xs ++ others)
    (result_map (λ others. x ∷ others) r)
one_more xs x (Ok others) = ap Ok (append_assoc xs (x ∷ []) others)
one_more xs x (Err e) = refl

-- behind the packages so far there is one more
pub package_more : (sofar : List PackageText) (before : ℕ) (ss rest : List Fields) (first : PackageText) →
    Ok (Some (first, rest)) ≡ first_package ss →
    result_map (λ others. (sofar ++ first ∷ []) ++ others) (packages_from (before + 1) rest)
    ≡ result_map (λ others. sofar ++ others) (packages_from before ss)
package_more sofar before ss rest first is =
    one_more sofar first (packages_from (before + 1) rest)
    ∙ ap (result_map (λ others. sofar ++ others)) (packages_by before ss (Ok (Some (first, rest))) is)

abbrev scenario_behind : RequestText × List Fields → Result ScenarioText ScenarioFault
scenario_behind r = result_map (λ packages. record { request = r.0; packages = packages }) (packages_from 0 r.1)

pub scenario_by : (ss : List Fields) (read : Result (RequestText × List Fields) StanzaFault) →
    read ≡ first_request ss → (result_map_err In.Request read >>= scenario_behind) ≡ scenario_in ss
scenario_by [] read is = ap (λ read. result_map_err In.Request read >>= scenario_behind) is
scenario_by (stanza ∷ rest) read is =
    ap (λ read. result_map_err In.Request read >>= scenario_behind) is
    ∙ elim (request_of stanza) as (λ request_read. (result_map_err In.Request
    (result_map (λ request. (request, rest)) request_read) >>= scenario_behind)
    ≡ (result_map_err In.Request request_read >>= (λ request. result_map
    (λ packages. record { request = request; packages = packages }) (packages_from 0 rest)))) [
      | Ok request ↦
          refl
      | Err e ↦ refl
    ]
