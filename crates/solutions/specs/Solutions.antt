-- When solvables are a solution: in the words of the packages alone. N are the names, S the solvables.
use Rattle.std.specs.Prelude.{◌≡◌, ℕ, Bool, true, false, not, ◌&&◌, All, List, map, Option, None, Some}
use Rattle.std.specs.List.{list_all, list_any, IsDistinct}
use Rattle.resolvo_ids.specs.Types.StringId.{StringId}
use Rattle.resolvo_ids.specs.Types.VersionSetId.{VersionSetId}
use Rattle.resolvo_pool.specs.Conditions.{Formula, Denotes, formula_holds}
use Rattle.resolvo_pool.specs.Dependencies.{Needs, Known, Unknown}
use Rattle.resolvo_pool.specs.Functions.{Provider}
use Rattle.resolvo_pool.specs.Provider.{matching, non_matching, sets_of, knows_requirement}
use Rattle.resolvo_pool.specs.Types.ConditionalRequirement.{ConditionalRequirement}
use Rattle.resolvo_pool.specs.Types.Requirement.{Requirement}

module _ {N S : Type 0} (p : Provider N S) (is_picked : S → Bool) where
  -- a candidate that the version set holds is picked
  abbrev pub has_picked : VersionSetId → Bool
  has_picked set = p.universe.knows_set set && list_any is_picked (matching p.universe p.answers set)

  -- one of the requirement's version sets has a picked candidate
  abbrev pub is_satisfied : Requirement → Bool
  is_satisfied requirement =
      knows_requirement p.universe requirement && list_any has_picked (sets_of p.universe requirement)

  -- the condition's formula holds of the version sets that have a picked candidate
  abbrev pub ConditionHolds : ℕ → Type 0
  ConditionHolds condition =
      (formula : Formula) × Denotes p.universe condition formula × (formula_holds has_picked formula ≡ true)

  -- the requirement is satisfied; under a condition, that is known, and if it holds, the requirement is satisfied
  abbrev pub IsSatisfiedUnder : Option ℕ → Requirement → Type 0
  IsSatisfiedUnder None requirement = is_satisfied requirement ≡ true
  IsSatisfiedUnder (Some condition) requirement =
      (p.universe.knows_condition condition ≡ true) × (ConditionHolds condition → is_satisfied requirement ≡ true)

  abbrev pub IsSatisfied : ConditionalRequirement → Type 0
  IsSatisfied conditional = IsSatisfiedUnder conditional.condition conditional.requirement

  -- no candidate of its package that the version set doesn't hold is picked
  abbrev pub is_respected : VersionSetId → Bool
  is_respected set = p.universe.knows_set set && not (list_any is_picked (non_matching p.universe p.answers set))

  -- the needs are known, each requirement is satisfied, and each constraint respected
  abbrev pub AreNeedsSatisfied : Needs → Type 0
  AreNeedsSatisfied (Known requirements constrains) =
      All IsSatisfied requirements × (list_all is_respected constrains ≡ true)
  AreNeedsSatisfied (Unknown reason) = ⊥

module _ {N S : Type 0} (p : Provider N S) where
  -- the solvable is one of these
  abbrev pub is_among : List S → S → Bool
  is_among solvables solvable = list_any (p.same_solvable solvable) solvables

  -- the solvable is one of these, which have reasons
  abbrev pub is_excluded_by : List (S × StringId) → S → Bool
  is_excluded_by excluded solvable = list_any (λ e. p.same_solvable solvable e.0) excluded

  -- another one is locked
  abbrev pub is_locked_out_by : Option S → S → Bool
  is_locked_out_by None solvable = false
  is_locked_out_by (Some locked) solvable = not (p.same_solvable solvable locked)

  -- a candidate of its package, which the package doesn't exclude, and which isn't locked to another one
  abbrev pub is_allowed : S → Bool
  is_allowed solvable =
      let name = p.universe.solvable_name solvable in
      is_among (p.answers.candidates name) solvable && (not (is_excluded_by (p.answers.excluded name) solvable)
      && not (is_locked_out_by (p.answers.locked name) solvable))

-- these solvables are a solution of the request, which is a list of requirements
pub record IsSolution {N S : Type 0} (p : Provider N S) (requested : List ConditionalRequirement)
    (picked : List S) : Type 0 where
  pub known : All (λ s. p.universe.knows_solvable s ≡ true) picked
  pub allowed : All (λ s. is_allowed p s ≡ true) picked
  -- one version of a package, once
  pub one_a_package : IsDistinct p.same_name (map p.universe.solvable_name picked)
  pub satisfied : All (IsSatisfied p (is_among p picked)) requested
  pub needs_satisfied : All (λ s. AreNeedsSatisfied p (is_among p picked) (p.answers.needs s)) picked

-- there is no solution
abbrev pub IsUnsolvable : {N S : Type 0} → Provider N S → List ConditionalRequirement → Type 0
IsUnsolvable {N} {S} p requested = (picked : List S) → IsSolution p requested picked → ⊥
