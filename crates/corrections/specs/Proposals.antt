-- Which requirements to leave out, by the reasons for which there is no solution, and their text. N are the names, S
-- the
-- solvables.
use Rattle.std.specs.Prelude.{ℕ, All, Contains, List, [], ◌∷◌, ◌++◌, Option, None, Some, codes, if◌then◌else◌}
use Rattle.std.specs.List.{filter_map}
use Rattle.resolvo_pool.specs.Functions.{Provider}
use Rattle.resolvo_pool.specs.Provider.{Universe, knows_requirement}
use Rattle.resolvo_pool.specs.Texts.{Texts, requirement_text}
use Rattle.resolvo_pool.specs.Types.ConditionalRequirement.{ConditionalRequirement}
use Rattle.resolvo_pool.specs.Types.Requirement.{Requirement}
use Rattle.solutions.specs.Solutions.{IsUnsolvable}
use Rattle.solutions.specs.declared.reason.Reason.{Reason}
use Rattle.solutions.specs.declared.reason.Reason.TheVariants as R

-- the requirement of the request that a reason names
abbrev pub requirement_in : {N S : Type 0} → Reason N S → Option ConditionalRequirement
requirement_in (R.Needs None requirement) = Some requirement
requirement_in (R.Lacks None requirement) = Some requirement
requirement_in reason = None

-- those that the reasons name, in their order
abbrev pub named_in : {N S : Type 0} → List (Reason N S) → List ConditionalRequirement
named_in reasons = filter_map requirement_in reasons

-- a request that has all of these has no solution
abbrev pub IsForbidden : {N S : Type 0} → Provider N S → List ConditionalRequirement → Type 0
IsForbidden p requirements = (requested : List ConditionalRequirement) → All (Contains requested) requirements →
    IsUnsolvable p requested

-- of a condition only that there is one
abbrev pub text_of_condition : Option ℕ → List ℕ
text_of_condition None = []
text_of_condition (Some condition) = codes " if .."

module _ {N S : Type 0} (universe : Universe N S) (texts : Texts N S) where
  -- what the interner doesn't know has no text
  abbrev pub text_of_requirement : Requirement → List ℕ
  text_of_requirement requirement =
      if knows_requirement universe requirement then requirement_text universe texts requirement else []

  abbrev pub text_of_named : ConditionalRequirement → List ℕ
  text_of_named named = text_of_requirement named.requirement ++ text_of_condition named.condition

  -- each requirement behind a comma
  abbrev pub text_of_each : List ConditionalRequirement → List ℕ
  text_of_each [] = []
  text_of_each (named ∷ others) = codes ", " ++ (text_of_named named ++ text_of_each others)

  abbrev pub text_of_all : List ConditionalRequirement → List ℕ
  text_of_all [] = []
  text_of_all (first ∷ others) = text_of_named first ++ text_of_each others

  abbrev pub text_of_proposals : List ConditionalRequirement → List ℕ
  text_of_proposals named = codes "at least one has to go: " ++ (text_of_all named ++ codes "\n")
