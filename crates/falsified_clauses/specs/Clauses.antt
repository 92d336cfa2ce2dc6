-- Requires clauses with the first clauses of their parents, over lists of rows, disjunctions and false literals.
use Rattle.std.specs.Prelude.{ℕ, Bool, not, ◌&&◌, ◌||◌, List, [], ◌∷◌, ◌++◌, slice_index_or, Option, None}
use Rattle.std.specs.Map.{lookup}
use Rattle.std.specs.declared.vec.Vec.{Vec}
use Rattle.providers.specs.Requirement.{same_requirement}
use Rattle.providers.specs.declared.requirement.Requirement.{Requirement}
use Rattle.providers.specs.declared.requirement.Requirement.TheVariants.{Single}
use Rattle.decisions.specs.Literals.{Lit, is_false_literal}
use Rattle.decisions.specs.Decisions.{values_in}
use Rattle.clauses.specs.Clauses.{same_literal}
use Rattle.clauses.specs.Stored.{lists_found}
use Rattle.clauses.specs.declared.disjunction.Disjunction.{Disjunction}
use Rattle.falsified_clauses.specs.declared.demand.Demand.{Demand}

-- a clause, and the number of the first clause of its parent, which places it among the clauses
pub record PlacedDemand : Type 0 where
  pub demand : Demand
  pub first_of_parent : ℕ

-- what stands past the last clause
abbrev pub no_clause : PlacedDemand
no_clause = record {
  demand = record { parent = 0; requirement = Single (record { 0 = 0 }); condition = None };
  first_of_parent = 0;
}

-- the lists of candidates by requirements; A are the allocators
abbrev pub Lists : Type 0 → Type 0
Lists A = List (Requirement × Vec (Vec ℕ A) A)

-- the variables of a requirement's candidates, list by list
abbrev pub rows : {A : Type 0} → Lists A → Requirement → List (List ℕ)
rows lists requirement = lists_found (lookup (same_requirement requirement) lists)

-- clauses in the order of their numbers, what they name, and which literals are false
pub record Counted (A : Type 0) : Type 0 where
  pub lists : Lists A
  pub disjunctions : List (Disjunction A)
  pub clauses : List PlacedDemand
  pub is_false : Lit → Bool

abbrev pub counted : {A : Type 0} → Lists A → List (Disjunction A) → List PlacedDemand → (Lit → Bool) → Counted A
counted lists disjunctions clauses is_false = record {
  lists = lists;
  disjunctions = disjunctions;
  clauses = clauses;
  is_false = is_false;
}

-- the literals are false that the decisions make false
abbrev pub counted_under : {A : Type 0} → Lists A → List (Disjunction A) → List (Option (Bool × ℕ)) →
    List PlacedDemand → Counted A
counted_under lists disjunctions decisions clauses =
    counted lists disjunctions clauses (is_false_literal (values_in decisions))

module _ {A : Type 0} where
  abbrev pub clause_at : Counted A → ℕ → PlacedDemand
  clause_at s number = slice_index_or s.clauses number no_clause

  -- a clause comes
  abbrev pub with_clause : Demand → ℕ → Counted A → Counted A
  with_clause demand first_of_parent s =
      record s { clauses = s.clauses ++ (record { demand = demand; first_of_parent = first_of_parent }) ∷ [] }

  -- a literal becomes false, or undecided
  abbrev pub with_false : Lit → Counted A → Counted A
  with_false literal s = record s { is_false = λ other. same_literal literal other || s.is_false other }

  abbrev pub with_undecided : Lit → Counted A → Counted A
  with_undecided literal s = record s { is_false = λ other. not (same_literal literal other) && s.is_false other }
