-- Packages of a scenario, and what is said of them.
use Rattle.std.proofs.Common.{◌≡◌, ◌∙◌, ◌<◌, ◌++◌, ◌&&◌, Bool, true, false, List, [], ◌∷◌, ℕ, All, Contains, Err, Ok}
use Rattle.std.proofs.Common.{Result, ap, arith}
use Rattle.std.proofs.Common.{codes, get_or, inl, inr, length, map, not, refl, subst, sym}
use Rattle.std.proofs.lemmas.Bool.{and_parts, false≢true, or_cases}
use Rattle.std.proofs.lemmas.List.{get_or-map, length-map}
use Rattle.std.proofs.lemmas.List.Elements.{All-map, All-push, All-same, All-weaker}
use Rattle.debian_scenario.specs.Packages.{PackageText}
use Rattle.debian_scenario.specs.Plain.{plain_package, plain_request, plain_scenario}
use Rattle.debian_scenario.specs.Requests.{RequestText}
use Rattle.debian_scenario.specs.Results.{IsRead}
use Rattle.debian_scenario.specs.Scenarios.{ScenarioText}
use Rattle.debian_scenario.specs.declared.fault.ReadError.{ReadError}
use Rattle.debian_scenario.specs.declared.fault.ReadError.TheVariants.{Faulty, OutOfMemory}
use Rattle.debian_scenario.specs.declared.fault.ScenarioFault.{ScenarioFault}
use Rattle.debian_scenario.specs.declared.package.Package.{Package}
use Rattle.debian_scenario.specs.declared.scenario.Scenario.{Scenario}
use Rattle.debian_directory.specs.Answers.{has, is_answer, is_kept, is_lost, is_to_be_kept, keeps_all, keeps_another}
use Rattle.debian_directory.specs.Answers.{name_of}
use Rattle.debian_directory.specs.declared.rules.Rules.{Rules}
use Rattle.debian_directory.proofs.Elements.{all_of, some_of}
use Rattle.debian_provider.specs.Growing.{packages_in, request_in}
use Rattle.debian_provider.specs.Needs.{IsAnswer, IsKeepingMore}
use Rattle.apt_solver.specs.Causes.{HaveCauses}
use Rattle.apt_solver.specs.Difference.{answer_text}
use Rattle.apt_solver.specs.Errors.{none_text, unread_text}
use Rattle.apt_solver.specs.Program.{IsSaidOf, IsSaidTo, KeepsMost}
use Rattle.apt_solver.specs.Search.{HasNoSuch}
use Rattle.apt_solver.specs.Versions.{ChangeInNeed}

pub Contains-map : {X Y : Type 0} (f : X → Y) (xs : List X) (x : X) → Contains xs x → Contains (map f xs) (f x)
Contains-map f xs x at =
    let within : at.0 < length (map f xs) = omega (arith, at.1, length-map xs f) in
    (at.0, within, get_or-map f xs at.0 x (f x) at.1 ∙ ap f at.2)

known_texts : (packages there : List Package) → All (Contains packages) there
    → All (Contains (map plain_package packages)) (map plain_package there)
known_texts packages there known =
    All-map (Contains (map plain_package packages)) plain_package there
    (All-weaker (Contains packages) (λ p. Contains (map plain_package packages) (plain_package p))
    (Contains-map plain_package packages) there known)

-- packages that passed the checks are said to be there
pub checked_said : (request : RequestText) (packages there : List Package) (confirmed : Bool) (said : List ℕ)
    → All (Contains packages) there → confirmed ≡ true
    → confirmed ≡ is_answer request (map plain_package packages) (map plain_package there)
    → KeepsMost request (map plain_package packages) (map plain_package there)
    → HaveCauses request (map plain_package packages) (map plain_package there)
    → ChangeInNeed request (map plain_package packages) (map plain_package there)
    → said ≡ answer_text request.architecture (map plain_package packages) (map plain_package there)
    → IsSaidOf request (map plain_package packages) said
checked_said request packages there confirmed said known passed checked keeps caused changes is =
    inl (inl (record {
      there = map plain_package there;
      known = known_texts packages there known;
      answers = sym checked ∙ passed;
      keeps = keeps;
      caused = caused;
      changes = changes;
      is = is;
    }))

-- if they keep all that is to be kept, nothing is lost
none_lost : (request : RequestText) (packages there other : List PackageText) → keeps_all request packages there ≡ true
    → keeps_another request packages there other ≡ true → ⊥
none_lost request packages there other keeps another =
    let some = some_of (λ p. is_lost request packages there p
    && has request.architecture other (name_of request.architecture p)) packages another in
    let stays = is_to_be_kept request packages some.0 in
    let is_there = has request.architecture there (name_of request.architecture some.0) in
    let lost = and_parts stays (not is_there) (and_parts (stays && not is_there) _ some.2).0 in
    elim (or_cases (not stays) is_there (all_of (is_kept request packages there) packages some.0 keeps some.1)) [
      | inl may_go ↦ absurd (false≢true (ap not (sym lost.0) ∙ may_go))
      | inr found ↦ absurd (false≢true (ap not (sym found) ∙ lost.1))
    ]

-- they keep all that is to be kept; or, if that wasn't sought, no answer keeps all that they keep, and more
pub keeps_most : (rules : Rules) (there : List PackageText) (sought keeps : Bool) → keeps ≡ true
    → (sought ≡ false → HasNoSuch (IsKeepingMore there) rules)
    → (sought ≡ true → keeps ≡ keeps_all (request_in rules) (packages_in rules) there)
    → KeepsMost (request_in rules) (packages_in rules) there
keeps_most rules there true keeps passed none checked other known answers as_much another =
    none_lost (request_in rules) (packages_in rules) there other (sym (checked refl) ∙ passed) another
keeps_most rules there false keeps passed none checked other known answers as_much another =
    none refl other (record {
      answer = record { known = known; answers = answers };
      as_much = as_much;
      another = another;
    })

-- what is said to a scenario is said to its text
pub of_scenario : (meant : Result ScenarioText ScenarioFault) (scenario : Scenario) (packages : List Package)
    (said : List ℕ) → meant ≡ Ok (plain_scenario scenario) → packages ≡ scenario.packages.items
    → IsSaidOf (plain_request scenario.request) (map plain_package packages) said → IsSaidTo meant said
of_scenario meant scenario packages said means same says =
    subst (λ m. IsSaidTo m said) (sym means)
    (subst (λ (ps : List Package). IsSaidOf (plain_request scenario.request) (map plain_package ps) said) same says)

-- and so is why it wasn't read
pub of_unread : (meant : Result ScenarioText ScenarioFault) (error : ReadError) (said : List ℕ)
    → IsRead plain_scenario meant (Err error) → said ≡ unread_text error → IsSaidTo meant said
of_unread meant (Faulty fault) said read is = subst (λ m. IsSaidTo m said) (sym read) (inl is)
of_unread (Ok scenario) OutOfMemory said read is = inr (codes "out of memory", is)
of_unread (Err fault) OutOfMemory said read is = inr is

-- one package more
pub add_known : (packages there more : List Package) (place : ℕ) (p : Package) → All (Contains packages) there
    → place < length packages → p ≡ get_or packages place p → more ≡ there ++ p ∷ [] → All (Contains packages) more
add_known packages there more place p known within is same =
    All-same (Contains packages) more (there ++ p ∷ []) same
    (All-push (Contains packages) there p known (place, within, sym is))

-- that no packages are an answer
pub none_said : (rules : Rules) (said reasons : List ℕ) → HasNoSuch IsAnswer rules → said ≡ none_text reasons
    → IsSaidOf (request_in rules) (packages_in rules) said
none_said rules said reasons none is =
    inl (inr (record {
      none = λ there known answers. none there (record { known = known; answers = answers });
      reasons = reasons;
      is = is;
    }))
