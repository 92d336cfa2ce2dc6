-- The abstract store, and the state of a clause store. N are the names, S the solvables.
use Rattle.std.specs.Prelude.{ℕ, List, [], ◌∷◌, map, flat_map, slice_index_or, Option, option_map, slice_get, unwrap_or}
use Rattle.std.specs.Map.{lookup}
use Rattle.typed_ids.specs.declared.version_set_id.VersionSetId.{VersionSetId}
use Rattle.providers.specs.declared.requirement.Requirement.{Requirement}
use Rattle.providers.specs.Requirement.{same_requirement}
use Rattle.providers.specs.Provider.{sorted, sets_of}
use Rattle.variables.specs.declared.variable_origin.VariableOrigin.{VariableOrigin}
use Rattle.variables.specs.declared.variable_origin.VariableOrigin.TheVariants.{Root}
use Rattle.decisions.specs.Literals.{Lit, Values}
use Rattle.decisions.specs.Trail.{Entry, val}
use Rattle.clauses.specs.Clauses.{StoredLiterals, literals_of, condition_literals}
use Rattle.clauses.specs.declared.clause.Clause.{Clause}
use Rattle.at_most_once.specs.AtMostOne.{Tracker, BitClause, TrackerState, empty}
use Rattle.at_most_once.specs.NameTrackers.{tracker_of}
use Rattle.resolvo_store.specs.QueueState.{QueueState}
use Rattle.resolvo_store.specs.Tracking.{bits_of}
use Rattle.watch_map.specs.WatchLists.{WatchLists, Watches, literals_in, watchers}
use Rattle.resolvo_queue.specs.declared.requires_clause.RequiresClause.{RequiresClause}
use Rattle.resolvo_queue.specs.Rows.{Row, rows}
pub use Rattle.solver_cache.specs.Functions.{Provider, gathered}

-- the literals of a disjunction, and the condition that they come of
pub record StoredDisjunction : Type 0 where
  pub literals : List Lit
  pub condition : ℕ

-- the abstract store
pub record Store (N S : Type 0) : Type 0 where
  pub provider : Provider N S
  -- what each variable stands for
  pub origins : List (VariableOrigin N S)
  -- the requirements that were loaded, with the lists of their candidates' variables, one list a version set
  pub loaded : List (Requirement × List (List ℕ))
  -- the disjunctions: the id of each is its place
  pub disjunctions : List StoredDisjunction
  -- the literals of the learnt clauses
  pub learnt : List (List Lit)
  -- all clauses: a clause's id is its place
  pub clauses : List (Clause N)
  -- the two literals that each clause watches, or none
  pub watches : List (List Lit)
  -- the requires clauses in the order of registration
  pub requires : List RequiresClause
  -- the trail, the oldest entry first
  pub trail : List Entry
  -- how many entries of the trail the search was handed to propagate
  pub place : ℕ
  -- how active each package was in the search
  pub scores : N → ℕ
  -- the variables that are tracked under each name, and their helpers
  pub trackers : N → Tracker ℕ
  -- the clauses that watch each literal, front first
  pub watchers : Lit → List ℕ

-- the state of a clause store. C is its map from names to scores
pub record StoreState (D N S C : Type 0) : Type 0 where
  pub provider : D
  pub origins : List (VariableOrigin N S)
  pub loaded : List (Requirement × List (List ℕ))
  pub disjunctions : List StoredDisjunction
  pub learnt : List (List Lit)
  pub clauses : List (Clause N)
  -- a record for each clause that watches something, and the lists that belong to them
  pub records : Watches
  pub lists : WatchLists
  pub requires : List RequiresClause
  pub trail : List Entry
  pub place : ℕ
  -- the trackers of the names that have one
  pub trackers : List (N × TrackerState ℕ)
  pub scores : C
  -- the queue's last sync, and how often it walked rows: no part of the abstract store
  pub queue_state : QueueState

-- the abstract store of a state, where `scored` gives the scores that a map has
abbrev pub store_of : {D N S C : Type 0} → (D → Provider N S) → (C → N → ℕ) → StoreState D N S C → Store N S
store_of provided scored state = record {
  provider = provided state.provider;
  origins = state.origins;
  loaded = state.loaded;
  disjunctions = state.disjunctions;
  learnt = state.learnt;
  clauses = state.clauses;
  watches = map literals_in state.records;
  requires = state.requires;
  trail = state.trail;
  place = state.place;
  scores = scored state.scores;
  trackers = tracker_of (provided state.provider).same_name state.trackers;
  watchers = watchers state.lists state.records;
}

-- the store that has the root's variable and nothing else
abbrev pub new_store : {N S : Type 0} → Provider N S → Store N S
new_store provider = record {
  provider = provider;
  origins = Root ∷ [];
  loaded = [];
  disjunctions = [];
  learnt = [];
  clauses = [];
  watches = [];
  requires = [];
  trail = [];
  place = 0;
  scores = λ n. 0;
  trackers = λ n. empty;
  watchers = λ l. [];
}

module _ {N S : Type 0} (st : Store N S) where
  -- the values of the variables
  abbrev pub values : Values
  values = val st.trail

  -- the lists of a requirement, if it was loaded
  abbrev pub lists_of : Requirement → Option (List (List ℕ))
  lists_of r = lookup (same_requirement r) st.loaded

  -- what the literals of its clauses are read from
  abbrev pub stored_of : StoredLiterals
  stored_of = record {
    learnt = st.learnt;
    lists = λ r. unwrap_or (lists_of r) [];
    disjunctions = map (λ d. d.literals) st.disjunctions;
  }

  -- the literals of a clause, none of an unknown one
  abbrev pub clause_literals : ℕ → List Lit
  clause_literals c = unwrap_or (option_map (literals_of stored_of) (slice_get st.clauses c)) []

  -- the literals of a condition: those of its disjunction, none without one
  abbrev pub condition_of : Option ℕ → List Lit
  condition_of d = condition_literals stored_of d

  -- the clauses that tracking added under a name
  abbrev pub bits : N → List (BitClause ℕ)
  bits name = flat_map (bits_of (st.provider.same_name name)) st.clauses

  -- the two literals that a clause watches, or none
  abbrev pub watched_by : ℕ → List Lit
  watched_by c = slice_index_or st.watches c []

  -- the rows of a requirement, none if it wasn't loaded
  abbrev pub rows_of : Requirement → List Row
  rows_of r = rows (sets_of st.provider.universe r) (unwrap_or (lists_of r) [])

  -- the score of a version set: its package's
  abbrev pub score_of : VersionSetId → ℕ
  score_of v = st.scores (st.provider.universe.set_name v)

  -- the candidates of a version set, the best first
  abbrev pub candidates_of : VersionSetId → List S
  candidates_of v = sorted st.provider.universe st.provider.answers st.provider.same_solvable v

  -- all candidates of a requirement, one version set after another
  abbrev pub all_candidates : Requirement → List S
  all_candidates r = flat_map candidates_of (sets_of st.provider.universe r)
