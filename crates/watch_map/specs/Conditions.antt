-- The condition of a requires clause: the id of a disjunction, and the literals that are stored under this id.
use Rattle.std.specs.Prelude.{◌≡◌, ℕ, List, [], Option, Some, None}
use Rattle.std.specs.Borrow.{Bor}
use Rattle.decisions.specs.Literals.{Lit}
use Rattle.providers.specs.declared.requirement.Requirement.{Requirement}
use Rattle.clauses.specs.Clauses.{StoredLiterals, condition_literals, required_literals}

-- the id of the disjunction, if there is a condition
abbrev pub disjunction_id : Option (ℕ × Bor (List Lit)) → Option ℕ
disjunction_id None = None
disjunction_id (Some condition) = Some condition.0

-- the literals of the disjunction; none without a condition
abbrev pub disjunction_literals : Option (ℕ × Bor (List Lit)) → List Lit
disjunction_literals None = []
disjunction_literals (Some condition) = condition.1.now

-- the literals of a requires clause but its parent's: those of its condition, and then its candidates
abbrev pub literals_but_parent : Option (ℕ × Bor (List Lit)) → List (List ℕ) → List Lit
literals_but_parent condition lists = required_literals (disjunction_literals condition) lists

-- the literals of the condition and the lists of the requirement are those that are stored for the clause
pub record MatchStored (k : StoredLiterals) (condition : Option (ℕ × Bor (List Lit))) (requirement : Requirement)
    (lists : List (List ℕ)) : Type 0 where
  pub literals : condition_literals k (disjunction_id condition) ≡ disjunction_literals condition
  pub candidates : k.lists requirement ≡ lists
