-- What a request wishes of its solution, and when a solution is the best one. N are the names, S the solvables. A wish
-- is a list of alternatives, the best first.
use Rattle.std.specs.Prelude.{◌≡◌, ℕ, suc, ◌≤◌, Bool, true, false, not, if◌then◌else◌}
use Rattle.std.specs.Prelude.{All, List, [], ◌∷◌, map, filter, take, slice_get, Some}
use Rattle.resolvo_pool.specs.Functions.{Provider}
use Rattle.resolvo_pool.specs.Types.ConditionalRequirement.{ConditionalRequirement}
use Rattle.solutions.specs.Solutions.{IsSolution, is_among}
use Rattle.solutions.specs.declared.wish.Alternative.{Alternative}
use Rattle.solutions.specs.declared.wish.Wish.{Wish}

-- how many are false before the first that is true; all, if none is
abbrev pub before_true : List Bool → ℕ
before_true [] = 0
before_true (true ∷ rest) = 0
before_true (false ∷ rest) = suc (before_true rest)

-- the alternatives of wishes
abbrev pub alternatives_of : {S A : Type 0} → List (Wish S A) → List (List (Alternative S))
alternatives_of wishes = map (λ wish. wish.alternatives.items) wishes

module _ {N S : Type 0} (p : Provider N S) where
  -- the solvable is picked, or, if the alternative says so, it isn't
  abbrev pub is_so : List S → Alternative S → Bool
  is_so picked a = if a.is_picked then is_among p picked a.solvable else not (is_among p picked a.solvable)

  -- how many alternatives of a wish come before the first that is so: 0, if the first one is; all, if none is
  abbrev pub rank : List S → List (Alternative S) → ℕ
  rank picked wish = before_true (map (is_so picked) wish)

  -- of each of these wishes the first alternative is so, if it has any
  abbrev pub AreGranted : List S → List (List (Alternative S)) → Type 0
  AreGranted picked wishes = All (λ wish. rank picked wish ≡ 0) wishes

  -- two choices have the same rank by each of these wishes
  abbrev pub AreRanksSame : (picked other : List S) → List (List (Alternative S)) → Type 0
  AreRanksSame picked other wishes = All (λ wish. rank picked wish ≡ rank other wish) wishes

  -- what is picked, but for one solvable
  abbrev pub without : List S → S → List S
  without picked solvable = filter (λ s. not (p.same_solvable s solvable)) picked

-- a solution; and none that has the same ranks by the wishes before one of them has a lower rank by this one
pub record IsBest {N S : Type 0} (p : Provider N S) (requested : List ConditionalRequirement)
    (wishes : List (List (Alternative S))) (picked : List S) : Type 0 where
  pub solution : IsSolution p requested picked
  pub unbeaten : (place : ℕ) (wish : List (Alternative S)) → slice_get wishes place ≡ Some wish → (other : List S) →
      IsSolution p requested other → AreRanksSame p picked other (take place wishes) →
      rank p picked wish ≤ rank p other wish

module _ {N S : Type 0} (p : Provider N S) (requested : List ConditionalRequirement)
    (wishes : List (List (Alternative S))) (picked : List S) where
  -- the other choice is a solution, with the same ranks
  abbrev pub IsAsGood : (other : List S) → Type 0
  IsAsGood other = IsSolution p requested other × AreRanksSame p picked other wishes

  -- this solvable can be left out: what is left is a solution, with the same ranks
  abbrev pub IsSpare : S → Type 0
  IsSpare solvable = IsAsGood (without p picked solvable)

  -- the one at this place can
  abbrev pub IsSpareAt : ℕ → Type 0
  IsSpareAt place = (solvable : S) × (slice_get picked place ≡ Some solvable) × IsSpare solvable

  -- no solvable can be left out
  abbrev pub NoneSpare : Type 0
  NoneSpare = All (λ solvable. IsSpare solvable → ⊥) picked
