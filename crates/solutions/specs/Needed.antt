-- Why a solvable is picked. N are the names, S the solvables.
use Rattle.std.specs.Prelude.{◌≡◌, ℕ, Bool, true, ◌&&◌, Any, Contains, List, Option, None, Some, slice_get, take, ⊤}
use Rattle.std.specs.List.{list_any}
use Rattle.resolvo_ids.specs.Types.VersionSetId.{VersionSetId}
use Rattle.resolvo_pool.specs.Dependencies.{Needs, Known, Unknown}
use Rattle.resolvo_pool.specs.Functions.{Provider}
use Rattle.resolvo_pool.specs.Provider.{matching, sets_of, knows_requirement}
use Rattle.resolvo_pool.specs.Types.ConditionalRequirement.{ConditionalRequirement}
use Rattle.resolvo_pool.specs.Types.Requirement.{Requirement}
use Rattle.solutions.specs.Solutions.{ConditionHolds, is_among}
use Rattle.solutions.specs.declared.needed.Cause.{Cause}
use Rattle.solutions.specs.declared.needed.Cause.TheVariants.{Requested, Required, Wished}
use Rattle.solutions.specs.declared.wish.Alternative.{Alternative}

module _ {N S : Type 0} (p : Provider N S) where
  -- the solvable is a candidate that the version set holds
  abbrev pub is_candidate : S → VersionSetId → Bool
  is_candidate solvable set = p.universe.knows_set set && is_among p (matching p.universe p.answers set) solvable

  -- the solvable is a candidate of one of the requirement's version sets
  abbrev pub is_offered : Requirement → S → Bool
  is_offered requirement solvable =
      knows_requirement p.universe requirement && list_any (is_candidate solvable) (sets_of p.universe requirement)

-- the wish at this place has the alternative that the solvable is picked
abbrev pub IsWishedAt : {S : Type 0} → List (List (Alternative S)) → ℕ → S → Type 0
IsWishedAt {S} wishes place solvable = (wish : List (Alternative S)) × (slice_get wishes place ≡ Some wish) ×
    Contains wish (record { solvable = solvable; is_picked = true })

-- one of the wishes has it
abbrev pub IsWished : {S : Type 0} → List (List (Alternative S)) → S → Type 0
IsWished wishes solvable = Any (λ wish. Contains wish (record { solvable = solvable; is_picked = true })) wishes

module _ {N S : Type 0} (p : Provider N S) (is_picked : S → Bool) where
  -- the condition is known and holds, if there is one
  abbrev pub HoldsIfAny : Option ℕ → Type 0
  HoldsIfAny None = ⊤
  HoldsIfAny (Some condition) = (p.universe.knows_condition condition ≡ true) × ConditionHolds p is_picked condition

  -- the requirement, whose condition holds, offers the solvable
  abbrev pub Offers : S → ConditionalRequirement → Type 0
  Offers solvable c = (is_offered p c.requirement solvable ≡ true) × HoldsIfAny c.condition

  -- the requirement at this place does
  abbrev pub IsOfferedAt : List ConditionalRequirement → ℕ → S → Type 0
  IsOfferedAt requirements place solvable =
      (c : ConditionalRequirement) × (slice_get requirements place ≡ Some c) × Offers solvable c

  -- one of the requirements does
  abbrev pub IsOfferedBy : List ConditionalRequirement → S → Type 0
  IsOfferedBy requirements solvable = Any (Offers solvable) requirements

  -- one of what is needed does
  abbrev pub IsOfferedByNeeds : Needs → S → Type 0
  IsOfferedByNeeds (Known requirements constrains) solvable = IsOfferedBy requirements solvable
  IsOfferedByNeeds (Unknown reason) solvable = ⊥

  -- the cause is so of the solvable, where these are picked before it
  abbrev pub IsCausedBy : List ConditionalRequirement → List (List (Alternative S)) → (before : List S) → Cause → S →
      Type 0
  IsCausedBy requested wishes before (Requested place) solvable = IsOfferedAt requested place solvable
  IsCausedBy requested wishes before (Wished place) solvable = IsWishedAt wishes place solvable
  IsCausedBy requested wishes before (Required place) solvable =
      (parent : S) × (slice_get before place ≡ Some parent) × IsOfferedByNeeds (p.answers.needs parent) solvable

-- each solvable is picked for the cause at its place; one that another solvable requires comes after that one
abbrev pub AreCaused : {N S : Type 0} → Provider N S → List ConditionalRequirement → List (List (Alternative S)) →
    (picked : List S) → List Cause → Type 0
AreCaused {N} {S} p requested wishes picked causes = (place : ℕ) (solvable : S) →
    slice_get picked place ≡ Some solvable → (cause : Cause) × (slice_get causes place ≡ Some cause) ×
    IsCausedBy p (is_among p picked) requested wishes (take place picked) cause solvable

-- why a solvable is picked: the request offers it, or a wish has it, or a picked one, which is needed itself, needs it
pub data IsNeeded {N S : Type 0} (p : Provider N S) (requested : List ConditionalRequirement)
    (wishes : List (List (Alternative S))) (picked : List S) : S → Type 0 where
  requested : (solvable : S) → IsOfferedBy p (is_among p picked) requested solvable →
      IsNeeded p requested wishes picked solvable
  wished : (solvable : S) → IsWished wishes solvable → IsNeeded p requested wishes picked solvable
  required : (solvable parent : S) → Contains picked parent → IsNeeded p requested wishes picked parent →
      IsOfferedByNeeds p (is_among p picked) (p.answers.needs parent) solvable →
      IsNeeded p requested wishes picked solvable
