-- What clauses refer to by ids, stored in three places.
use Rattle.std.specs.Prelude.{ℕ, List, [], map, Option, Some, None}
use Rattle.std.specs.Map.{lookup}
use Rattle.std.specs.declared.vec.Vec.{Vec}
use Rattle.providers.specs.Requirement.{same_requirement}
use Rattle.providers.specs.declared.requirement.Requirement.{Requirement}
use Rattle.decisions.specs.Literals.{Lit}
use Rattle.clauses.specs.Clauses.{StoredLiterals}
use Rattle.clauses.specs.declared.disjunction.Disjunction.{Disjunction}

-- the lists that a look-up gave; no list where it gave none
abbrev pub lists_found : {A : Type 0} → Option (Vec (Vec ℕ A) A) → List (List ℕ)
lists_found None = []
lists_found (Some lists) = map (λ list. list.items) lists.items

-- what learnt clauses, lists of candidates and disjunctions store
abbrev pub stored_in : {A : Type 0} → List (Vec Lit A) → List (Requirement × Vec (Vec ℕ A) A) →
    List (Disjunction A) → StoredLiterals
stored_in learnt lists disjunctions = record {
  learnt = map (λ clause. clause.items) learnt;
  lists = λ requirement. lists_found (lookup (same_requirement requirement) lists);
  disjunctions = map (λ disjunction. disjunction.literals.items) disjunctions;
}
