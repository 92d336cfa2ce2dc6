-- What a question asks of the clauses, and of the scores.
use Rattle.std.specs.Prelude.{◌≡◌, ℕ, ◌<◌, ◌≤◌, List, slice_get, length, Some, IfSome}
use Rattle.resolvo_queue.specs.Types.{Lit, TrackedClause, VersionSetId}
use Rattle.resolvo_queue.specs.References.{References, IsWalkable, literals_in}

-- no score is above this
abbrev pub AreUpTo : ℕ → (VersionSetId → ℕ) → Type 0
AreUpTo largest score = (set : VersionSetId) → score set ≤ largest

module _ {N S A : Type 0} (refs : References N S A) where
  -- the literals of a clause's condition
  abbrev pub clause_literals : TrackedClause → List Lit
  clause_literals c = literals_in refs c.condition

  -- what the code needs to look at a clause
  pub record CanInspect (c : TrackedClause) : Type 0 where
    pub condition : IfSome c.condition (λ d. d < length refs.disjunctions)
    pub walkable : IsWalkable refs.universe refs.lists c.requirement

  abbrev pub CanInspectAll : List TrackedClause → Type 0
  CanInspectAll clauses = (n : ℕ) (c : TrackedClause) → slice_get clauses n ≡ Some c → CanInspect c
