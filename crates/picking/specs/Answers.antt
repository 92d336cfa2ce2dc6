-- What an answer says. N are the names, S the solvables.
use Rattle.std.specs.Prelude.{◌≡◌, ℕ, ◌≤◌, true, All, List, length, map, take, ⊤}
use Rattle.resolvo_pool.specs.Functions.{Provider}
use Rattle.resolvo_pool.specs.Types.ConditionalRequirement.{ConditionalRequirement}
use Rattle.solutions.specs.Needed.{AreCaused, IsNeeded}
use Rattle.solutions.specs.Reasons.{AreEnough, AreSo, NoReasonSpare}
use Rattle.solutions.specs.Solutions.{IsSolution, IsUnsolvable}
use Rattle.solutions.specs.Wishes.{AreGranted, IsBest, NoneSpare, rank}
use Rattle.solutions.specs.declared.wish.Alternative.{Alternative}
use Rattle.picking.specs.declared.finding.Answer.{Answer}
use Rattle.picking.specs.declared.finding.Answer.TheVariants.{Picked, Unsolvable, Uncertified, StepsUsed, NotASolution}
use Rattle.picking.specs.declared.finding.Choice.{Choice}
use Rattle.picking.specs.declared.finding.Refutation.{Refutation}

-- what is picked has this
abbrev pub IfPicked : {N S A : Type 0} → (Choice S A → Type 0) → Answer N S A → Type 0
IfPicked Has (Picked choice) = Has choice
IfPicked Has (Unsolvable refutation) = ⊤
IfPicked Has (Uncertified refutation) = ⊤
IfPicked Has StepsUsed = ⊤
IfPicked Has NotASolution = ⊤

-- if it says that there is no solution, what it says of that has this
abbrev pub IfUnsolvable : {N S A : Type 0} → (Refutation N S A → Type 0) → Answer N S A → Type 0
IfUnsolvable Has (Picked choice) = ⊤
IfUnsolvable Has (Unsolvable refutation) = Has refutation
IfUnsolvable Has (Uncertified refutation) = ⊤
IfUnsolvable Has StepsUsed = ⊤
IfUnsolvable Has NotASolution = ⊤

-- the same, also if the check didn't certify that there is none
abbrev pub IfRefuted : {N S A : Type 0} → (Refutation N S A → Type 0) → Answer N S A → Type 0
IfRefuted Has (Picked choice) = ⊤
IfRefuted Has (Unsolvable refutation) = Has refutation
IfRefuted Has (Uncertified refutation) = Has refutation
IfRefuted Has StepsUsed = ⊤
IfRefuted Has NotASolution = ⊤

module _ {N S A : Type 0} (p : Provider N S) (requested : List ConditionalRequirement) where
  -- what is picked is a solution
  abbrev pub PicksSolution : Answer N S A → Type 0
  PicksSolution = IfPicked (λ choice. IsSolution p requested choice.solvables.items)

  -- if it says that there is no solution, there is none
  abbrev pub FindsNone : Answer N S A → Type 0
  FindsNone = IfUnsolvable (λ refutation. IsUnsolvable p requested)

  -- the reasons that it gives are so
  abbrev pub GivesSo : Answer N S A → Type 0
  GivesSo = IfUnsolvable (λ refutation. AreSo p requested refutation.reasons.items)

  module _ (wishes : List (List (Alternative S))) where
    -- no solution is better, by as many wishes as it says
    abbrev pub PicksBest : Answer N S A → Type 0
    PicksBest = IfPicked (λ choice. IsBest p requested (take choice.best_up_to wishes) choice.solvables.items)

    -- it says so of no more wishes than there are, and of all before the first whose first alternative isn't so
    abbrev pub PicksWithin : Answer N S A → Type 0
    PicksWithin = IfPicked (λ choice. choice.best_up_to ≤ length wishes)

    abbrev pub PicksGranted : Answer N S A → Type 0
    PicksGranted = IfPicked (λ choice. (first : ℕ) → first ≤ length wishes →
        AreGranted p choice.solvables.items (take first wishes) → first ≤ choice.best_up_to)

    -- each solvable is picked for the cause at its place
    abbrev pub PicksCaused : Answer N S A → Type 0
    PicksCaused = IfPicked (λ choice. AreCaused p requested wishes choice.solvables.items choice.causes.items)

    -- the request, a wish or what is picked needs each solvable
    abbrev pub PicksNeeded : Answer N S A → Type 0
    PicksNeeded = IfPicked (λ choice. All (IsNeeded p requested wishes choice.solvables.items) choice.solvables.items)

    -- no solvable can be left out
    abbrev pub PicksNoneSpare : Answer N S A → Type 0
    PicksNoneSpare = IfPicked (λ choice. NoneSpare p requested wishes choice.solvables.items)

-- the ranks are what they are called
abbrev pub PicksRanked : {N S A : Type 0} → Provider N S → List (List (Alternative S)) → Answer N S A → Type 0
PicksRanked p wishes = IfPicked (λ choice. choice.ranks.items ≡ map (rank p choice.solvables.items) wishes)

-- no choice of solvables meets all reasons that it gives
abbrev pub GivesEnough : {N S A : Type 0} → Provider N S → Answer N S A → Type 0
GivesEnough p = IfUnsolvable (λ refutation. AreEnough p refutation.reasons.items)

-- if it says that none of the reasons is spare, none is
abbrev pub GivesNoneSpare : {N S A : Type 0} → Provider N S → Answer N S A → Type 0
GivesNoneSpare p =
    IfRefuted (λ refutation. refutation.none_spare ≡ true → NoReasonSpare p refutation.reasons.items)
