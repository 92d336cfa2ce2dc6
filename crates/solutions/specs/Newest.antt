-- The wishes of a request for the newest versions. N are the names, S the solvables.
use Rattle.std.specs.Prelude.{Bool, true, false, ◌++◌, List, [], ◌∷◌, map, filter, flat_map, is_none}
use Rattle.std.specs.List.{list_any}
use Rattle.resolvo_pool.specs.Functions.{Provider}
use Rattle.resolvo_pool.specs.Provider.{filtered, sets_of, sorted}
use Rattle.resolvo_pool.specs.Types.ConditionalRequirement.{ConditionalRequirement}
use Rattle.resolvo_pool.specs.Types.Requirement.{Requirement}
use Rattle.resolvo_pool.specs.Types.Requirement.TheVariants.{Single, Union}
use Rattle.solutions.specs.declared.wish.Alternative.{Alternative}

-- what is requested without a condition
abbrev pub unconditional : List ConditionalRequirement → List Requirement
unconditional requested = map (λ c. c.requirement) (filter (λ c. is_none c.condition) requested)

-- the alternatives that a solvable is picked, of each of these
abbrev pub alternatives_for : {S : Type 0} → List S → List (Alternative S)
alternatives_for solvables = map (λ s. record { solvable = s; is_picked = true }) solvables

module _ {N S : Type 0} (p : Provider N S) where
  -- the package of a requirement that is one version set
  abbrev pub package_of : Requirement → List N
  package_of (Single set) = p.universe.set_name set ∷ []
  package_of (Union union) = []

  -- the packages that these requirements need anyway: by one version set
  abbrev pub packages_of : List Requirement → List N
  packages_of requirements = flat_map package_of requirements

  -- the solvable's package is one of these
  abbrev pub is_of_one : List N → S → Bool
  is_of_one packages s = list_any (λ n. p.same_name n (p.universe.solvable_name s)) packages

  -- the candidates of a requirement's version sets, in turn, each list in the order of preference
  abbrev pub offers : Requirement → List S
  offers requirement = flat_map (sorted p.universe p.answers p.same_solvable) (sets_of p.universe requirement)

  -- the wish for a requirement's best candidate; those of these packages come first
  abbrev pub wish_for : List N → Requirement → List (Alternative S)
  wish_for packages requirement =
      alternatives_for (filtered (is_of_one packages) false (offers requirement))
      ++ alternatives_for (filtered (is_of_one packages) true (offers requirement))

  -- the wishes for the best candidates of what is requested without a condition, in the order of the request; those of
  -- packages that are needed anyway come first
  abbrev pub newest : List ConditionalRequirement → List (List (Alternative S))
  newest requested = map (wish_for (packages_of (unconditional requested))) (unconditional requested)
