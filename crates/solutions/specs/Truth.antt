-- What is so of a selection of solvables, and what clauses say of it. N are the names, S the solvables, A the
-- allocators.
use Rattle.std.specs.Prelude.{◌≡◌, Bool, true, false, ◌||◌, List, All, take}
use Rattle.std.specs.List.{list_all, list_any}
use Rattle.std.specs.declared.vec.Vec.{Vec}
use Rattle.resolvo_ids.specs.Types.VersionSetId.{VersionSetId}
use Rattle.resolvo_pool.specs.Functions.{Provider}
use Rattle.resolvo_pool.specs.Types.ConditionalRequirement.{ConditionalRequirement}
use Rattle.resolvo_pool.specs.Types.Requirement.{Requirement}
use Rattle.solutions.specs.Clauses.{AreSatisfied, has_true}
use Rattle.solutions.specs.Solutions.{AreNeedsSatisfied, IsSatisfied, has_picked, is_allowed, is_among}
use Rattle.solutions.specs.Solutions.{is_satisfied}
use Rattle.solutions.specs.declared.literal.Fact.{Fact}
use Rattle.solutions.specs.declared.literal.Fact.TheVariants.{Picked, Held, First}
use Rattle.solutions.specs.declared.literal.Literal.{Literal}

-- the solvable is picked; one is picked that the version set holds; one is picked of the package's first candidates
abbrev pub truth : {N S : Type 0} → Provider N S → List S → Fact N S → Bool
truth p picked (Picked s) = is_among p picked s
truth p picked (Held set) = has_picked p (is_among p picked) set
truth p picked (First n count) = list_any (is_among p picked) (take count (p.answers.candidates n))

-- if this is so of a selection, and it satisfies the old clauses, it satisfies the new ones
abbrev pub AreStillSatisfied : {N S A : Type 0} → Provider N S → (List S → Type 0) →
    (old new : List (Vec (Literal N S) A)) → Type 0
AreStillSatisfied {N} {S} p IsSo old new =
    (picked : List S) → IsSo picked → AreSatisfied (truth p picked) old → AreSatisfied (truth p picked) new

-- in each selection one of the new literals is true exactly if one of the old ones is, or this is so
abbrev pub HasTrueOr : {N S : Type 0} → Provider N S → (List S → Bool) → (old new : List (Literal N S)) → Type 0
HasTrueOr {N} {S} p is_so old new =
    (picked : List S) → has_true (truth p picked) new ≡ (has_true (truth p picked) old || is_so picked)

module _ {N S : Type 0} (p : Provider N S) (unless : List (Literal N S)) (picked : List S) where
  -- if none of these literals is true, this is so of the selection
  abbrev pub Unless : Type 0 → Type 0
  Unless IsSo = has_true (truth p picked) unless ≡ false → IsSo

  abbrev pub AreSatisfiedUnless : List ConditionalRequirement → Type 0
  AreSatisfiedUnless requirements = Unless (All (IsSatisfied p (is_among p picked)) requirements)

  abbrev pub NonePickedUnless : List S → Type 0
  NonePickedUnless solvables = Unless (list_any (is_among p picked) solvables ≡ false)

  -- if each version set of one of these lists has a picked candidate, the requirement is satisfied
  abbrev pub IsSatisfiedUnless : List (List VersionSetId) → Requirement → Type 0
  IsSatisfiedUnless lists requirement = Unless (list_any (list_all (has_picked p (is_among p picked))) lists ≡ true →
      is_satisfied p (is_among p picked) requirement ≡ true)

-- the solvable is allowed, and its needs are satisfied
abbrev pub IsFit : {N S : Type 0} → Provider N S → (S → Bool) → S → Type 0
IsFit p is_picked s = (is_allowed p s ≡ true) × AreNeedsSatisfied p is_picked (p.answers.needs s)

-- each selected solvable is allowed, and its needs are satisfied
abbrev pub AreAllFit : {N S : Type 0} → Provider N S → List S → Type 0
AreAllFit p picked = All (IsFit p (is_among p picked)) picked
