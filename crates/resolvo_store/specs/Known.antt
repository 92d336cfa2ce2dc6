-- Whether what a command names is known, as the parts of a store tell it. N are the names, S the solvables, A the
-- allocators.
use Rattle.std.specs.Prelude.{ℕ, Bool, true, not, ◌&&◌, nat_lt, List, [], length, slice_get, option_map, unwrap_or}
use Rattle.std.specs.List.{list_all}
use Rattle.std.specs.Option.{option_map_or}
use Rattle.providers.specs.Provider.{Universe, knows_requirement}
use Rattle.variables.specs.declared.variable_origin.VariableOrigin.{VariableOrigin}
use Rattle.decisions.specs.Literals.{Lit, variable_of}
use Rattle.clauses.specs.Clauses.{literals_of}
use Rattle.clauses.specs.Stored.{stored_in}
use Rattle.clauses.specs.declared.disjunction.Disjunction.{Disjunction}
use Rattle.falsified_clauses.specs.Clauses.{Lists}
use Rattle.falsified_clauses.specs.declared.demand.Demand.{Demand}
use Rattle.watch_map.specs.ClauseList.{Clauses}
use Rattle.watch_map.specs.Watching.{is_literal_in}
use Rattle.resolvo_store.specs.Tracking.{is_helper_among}

module _ {N S : Type 0} where
  -- the variables of the literals are below the number, and the provider knows the condition
  abbrev pub knows_parts : Universe N S → ℕ → List Lit → ℕ → Bool
  knows_parts universe variables ls condition =
      list_all (λ l. nat_lt (variable_of l) variables) ls && universe.knows_condition condition

  -- a demand's parent is one of the variables, the provider knows its requirement, and its disjunction is there
  abbrev pub knows_demand : {A : Type 0} → Universe N S → List (VariableOrigin N S) → List (Disjunction A) →
      Demand → Bool
  knows_demand universe origins disjunctions demand = nat_lt demand.parent (length origins) &&
      (knows_requirement universe demand.requirement
      && option_map_or (λ d. nat_lt d (length disjunctions)) demand.condition true)

  -- there is the clause, and the variables of both literals
  abbrev pub knows_watches : Clauses N → List (VariableOrigin N S) → ℕ → Lit → Lit → Bool
  knows_watches clauses origins clause from to = nat_lt clause (length clauses.clauses)
      && (nat_lt (variable_of from) (length origins) && nat_lt (variable_of to) (length origins))

  -- the provider knows the name, and the variable is one of these that isn't a helper itself
  abbrev pub may_track : Universe N S → List (VariableOrigin N S) → N → ℕ → Bool
  may_track universe origins name variable =
      universe.knows_name name && (nat_lt variable (length origins) && not (is_helper_among origins variable))

-- the literal is one of the clause's, which refers to these lists and disjunctions
abbrev pub has_literal : {N A : Type 0} → Clauses N → Lists A → List (Disjunction A) → ℕ → Lit → Bool
has_literal clauses lists disjunctions clause literal =
    let stored = record (stored_in [] lists disjunctions) { learnt = clauses.learnt } in
    is_literal_in literal (unwrap_or (option_map (literals_of stored) (slice_get clauses.clauses clause)) [])
