-- What the counters count: clauses of groups that are found by keys.
use Rattle.std.specs.Prelude.{◌≡◌, ℕ, ◌<◌, List, length, map, IsTrue}
use Rattle.std.specs.List.{All}
use Rattle.clause_counters.specs.CounterState.{CounterState}
use Rattle.clause_counters.specs.GroupedClauses.{GroupedClauses, Represents, GroupClause}
use Rattle.falsified_clauses.specs.declared.demand.Demand.{Demand}
use Rattle.falsified_clauses.specs.declared.group_key.GroupKey.{GroupKey}
use Rattle.falsified_clauses.specs.Clauses.{PlacedDemand, Counted}
use Rattle.falsified_clauses.specs.GroupKeys.{literals_of, IsKnown, numbers_in, HasGroups}

-- the keys of the groups, in the order of the groups' numbers, and the state of the counters
pub record KeyedCounters : Type 0 where
  pub keys : List GroupKey
  pub counters : CounterState

-- a clause as the counters have it: the numbers of its groups, and that of the first clause of its parent
abbrev pub group_clause : List GroupKey → PlacedDemand → GroupClause
group_clause keys clause = record { groups = numbers_in keys clause.demand; first_of_parent = clause.first_of_parent }

module _ {A : Type 0} where
  -- what the counters represent: the literals of each key's group, the clauses, and the false literals
  abbrev pub grouped_by : List GroupKey → Counted A → GroupedClauses
  grouped_by keys s = record {
    groups = map (literals_of s.lists s.disjunctions) keys;
    clauses = map (group_clause keys) s.clauses;
    is_false = s.is_false;
  }

  -- these clauses are counted
  pub record Counts (state : KeyedCounters) (s : Counted A) : Type 0 where
    pub represents : Represents state.counters (grouped_by state.keys s)
    pub grouped : All (λ c. HasGroups state.keys c.demand) s.clauses
    pub known : All (IsKnown s.lists s.disjunctions) state.keys

  -- whatever clauses were counted still are: the function gives the rest, which is the same before and after
  abbrev pub KeepsCounts : (List PlacedDemand → Counted A) → KeyedCounters → KeyedCounters → Type 0
  KeepsCounts at old new = (clauses : List PlacedDemand) → Counts old (at clauses) → Counts new (at clauses)

-- there are these groups, and there is room for a clause
pub record CanAdd (state : KeyedCounters) (groups : List ℕ) : Type 0 where
  pub within : All (λ group. group < length state.counters.groups) groups
  pub room : IsTrue state.counters.has_room

-- and they are the groups of this clause
pub record IsReady (state : KeyedCounters) (clause : Demand) (groups : List ℕ) : Type 0 where
  pub can_add : CanAdd state groups
  pub numbers : groups ≡ numbers_in state.keys clause
  pub grouped : HasGroups state.keys clause
