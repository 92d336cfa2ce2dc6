-- When a requires clause is falsified, and which falsified one comes first.
use Rattle.std.specs.Prelude.{ℕ, Bool, ◌&&◌, [], length, Option}
use Rattle.std.specs.List.{list_all}
use Rattle.decisions.specs.Literals.{Pos, Neg}
use Rattle.clauses.specs.Clauses.{condition_literals}
use Rattle.clauses.specs.Stored.{stored_in}
use Rattle.clause_counters.specs.First.{IsFirstOf}
use Rattle.falsified_clauses.specs.declared.demand.Demand.{Demand}
use Rattle.falsified_clauses.specs.Clauses.{Counted, clause_at, rows}

module _ {A : Type 0} (s : Counted A) where
  -- its parent's negation is false, and so is each literal of its condition's disjunction, and each row
  abbrev pub is_falsified : Demand → Bool
  is_falsified clause = s.is_false (Neg clause.parent)
      && list_all s.is_false (condition_literals (stored_in [] [] s.disjunctions) clause.condition)
      && list_all (list_all (λ row. s.is_false (Pos row))) (rows s.lists clause.requirement)

  -- whether the clause with this number is falsified
  abbrev pub is_falsified_at : ℕ → Bool
  is_falsified_at number = is_falsified (clause_at s number).demand

  -- the answer is the first of the falsified clauses
  abbrev pub IsFirstFalsified : Option ℕ → Type 0
  IsFirstFalsified answer = IsFirstOf (λ c. (clause_at s c).first_of_parent) (length s.clauses) is_falsified_at answer
