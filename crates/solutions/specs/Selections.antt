-- What counts as picked in a selection, and how good that is, by wishes. S are the solvables.
use Rattle.std.specs.Prelude.{◌≡◌, ℕ, Bool, not, ◌&&◌, if◌then◌else◌, List, map, Option, None, Some}
use Rattle.resolvo_pool.specs.Functions.{Provider}
use Rattle.resolvo_pool.specs.Types.ConditionalRequirement.{ConditionalRequirement}
use Rattle.solutions.specs.Solutions.{IsSolution, is_among}
use Rattle.solutions.specs.Wishes.{before_true}
use Rattle.solutions.specs.declared.wish.Alternative.{Alternative}

-- the solvable is one of a set, and isn't the one that is left out, if there is one
abbrev pub is_kept : {S : Type 0} → (same : S → S → Bool) → (is_picked : S → Bool) → (left_out : Option S) → S → Bool
is_kept same is_picked None solvable = is_picked solvable
is_kept same is_picked (Some left_out) solvable = not (same solvable left_out) && is_picked solvable

module _ {S : Type 0} (is_picked : S → Bool) where
  -- the solvable is picked, or, if the alternative says so, it isn't
  abbrev pub is_so_by : Alternative S → Bool
  is_so_by a = if a.is_picked then is_picked a.solvable else not (is_picked a.solvable)

  -- the rank of a wish
  abbrev pub rank_by : List (Alternative S) → ℕ
  rank_by wish = before_true (map is_so_by wish)

-- what is picked is no solution
abbrev pub IsNoSolution : {N S : Type 0} → Provider N S → List ConditionalRequirement → (is_picked : S → Bool) → Type 0
IsNoSolution {N} {S} p requested is_picked =
    (picked : List S) → ((s : S) → is_picked s ≡ is_among p picked s) → IsSolution p requested picked → ⊥
