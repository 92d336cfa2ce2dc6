-- What clauses name by ids. N are the names of packages, S the solvables, A the allocators.
use Rattle.std.specs.Prelude.{◌≡◌, ℕ, ◌<◌, ◌^◌, true, List, [], length, Option, IsSome, IfSome}
use Rattle.resolvo_queue.specs.Types.{condition_literals, Disjunction, stored_in, knows_requirement, Lit, lookup}
use Rattle.resolvo_queue.specs.Types.{Requirement, RequiresClause, same_requirement, sets_of, Universe, Vec}
use Rattle.resolvo_queue.specs.Types.{VersionSetId}
use Rattle.resolvo_queue.specs.Rows.{Row, lists_loaded, loaded_rows, candidates}

-- the lists of candidates by requirements
abbrev pub Lists : Type 0 → Type 0
Lists A = List (Requirement × Vec (Vec ℕ A) A)

-- how the provider's ids belong together, the lists of candidates, and the disjunctions
pub record References (N S A : Type 0) : Type 0 where
  pub universe : Universe N S
  pub lists : Lists A
  pub disjunctions : List (Disjunction A)

abbrev pub references : {N S A : Type 0} → Universe N S → Lists A → List (Disjunction A) → References N S A
references universe lists disjunctions = record { universe = universe; lists = lists; disjunctions = disjunctions }

-- a requirement whose rows can be walked: the provider knows it, it has one list a version set, and its rows are so few
-- that they can be counted
pub record IsWalkable {N S A : Type 0} (universe : Universe N S) (lists : Lists A) (r : Requirement) : Type 0 where
  pub known : knows_requirement universe r ≡ true
  pub entry : IsSome (lookup (same_requirement r) lists)
  pub one_a_set : length (lists_loaded lists r) ≡ length (sets_of universe r)
  pub few : length (candidates lists r) < 2 ^ 40

module _ {N S A : Type 0} (refs : References N S A) where
  -- the rows of a requirement
  abbrev pub rows_in : Requirement → List Row
  rows_in r = loaded_rows refs.universe refs.lists r

  -- the literals of a condition, those of its disjunction; none without one
  abbrev pub literals_in : Option ℕ → List Lit
  literals_in condition = condition_literals (stored_in [] [] refs.disjunctions) condition

  -- the score of a version set is its package's
  abbrev pub score_in : (N → ℕ) → VersionSetId → ℕ
  score_in scores v = scores (refs.universe.set_name v)

  -- what a clause names is there: lists for its requirement, and its disjunction if it has one
  pub record HasParts (c : RequiresClause) : Type 0 where
    pub lists : IsSome (lookup (same_requirement c.requirement) refs.lists)
    pub disjunction : IfSome c.condition (λ d. d < length refs.disjunctions)

  -- the rows of a clause's requirement can be walked
  abbrev pub CanWalk : RequiresClause → Type 0
  CanWalk c = IsWalkable refs.universe refs.lists c.requirement
