-- What is true of each store that commands can make of a new one. N are the names, S the solvables.
use Rattle.std.specs.Prelude.{◌≡◌, ℕ, Bool, true, ◌+◌, ◌<◌, ◌≤◌, List, [], ◌∷◌, map, length, slice_get, All, IsSome}
use Rattle.std.specs.Prelude.{IfSome, Some}
use Rattle.std.specs.List.{IsDistinct}
use Rattle.providers.specs.declared.requirement.Requirement.{Requirement}
use Rattle.providers.specs.Requirement.{same_requirement}
use Rattle.providers.specs.Provider.{sets_of}
use Rattle.variables.specs.declared.variable_origin.VariableOrigin.TheVariants.{Solvable}
use Rattle.variables.specs.Variables.{IsRootFirst, variable_of_solvable}
use Rattle.variables.specs.VariableTexts.{knows_origin}
use Rattle.decisions.specs.Literals.{Lit, variable_of}
use Rattle.decisions.specs.Trail.{Entry, IsTrail}
use Rattle.clauses.specs.declared.clause.Clause.{Clause}
use Rattle.clauses.specs.declared.clause.Clause.TheVariants as Kind
use Rattle.clauses.specs.ClauseTexts.{IsKnownClause}
use Rattle.resolvo_queue.specs.declared.requires_clause.RequiresClause.{RequiresClause}
use Rattle.watch_map.specs.Watching.{is_literal_in, IsExact}
use Rattle.resolvo_store.specs.Store.{Store, lists_of, clause_literals, watched_by, bits}
use Rattle.resolvo_store.specs.Tracking.{bits_of, IsTracking}

-- the requires clauses among these, the first of which has this id
abbrev pub requires_from : {N : Type 0} → ℕ → List (Clause N) → List RequiresClause
requires_from id [] = []
requires_from id (Kind.Requires parent disjunction r ∷ cs) =
    record { parent = parent; requirement = r; condition = disjunction; clause_id = id } ∷ requires_from (id + 1) cs
requires_from id (c ∷ cs) = requires_from (id + 1) cs

-- a clause that isn't registered for decisions, and that no tracking added
pub record IsPlain {N : Type 0} (c : Clause N) : Type 0 where
  pub unregistered : (id : ℕ) → requires_from id (c ∷ []) ≡ []
  pub untracked : (named : N → Bool) → bits_of named c ≡ []

module _ {N S : Type 0} (st : Store N S) where
  -- a variable of the store
  abbrev pub IsVariable : ℕ → Type 0
  IsVariable variable = variable < length st.origins

  -- the id of a clause
  abbrev pub IsClause : ℕ → Type 0
  IsClause clause = clause < length st.clauses

  -- no solvable has two variables: each variable of a solvable is the one that the solvable is found to have
  abbrev pub HasOneVariableEach : Type 0
  HasOneVariableEach = (variable : ℕ) (solvable : S) → slice_get st.origins variable ≡ Some (Solvable solvable) →
      variable_of_solvable st.provider.same_solvable st.origins solvable ≡ Some variable

  -- what is kept for a loaded requirement: a list for each of its version sets, and the lists are of variables
  pub record IsLoaded (entry : Requirement × List (List ℕ)) : Type 0 where
    pub one_a_set : length entry.1 ≡ length (sets_of st.provider.universe entry.0)
    pub variables : All (All IsVariable) entry.1

  -- a registered clause: its parent is a variable, its requirement is loaded, and its disjunction, if it has one, is
  -- kept
  pub record IsRegistered (clause : RequiresClause) : Type 0 where
    pub parent : IsVariable clause.parent
    pub loaded : IsSome (lists_of st clause.requirement)
    pub condition : IfSome clause.condition (λ d. d < length st.disjunctions)

  -- literals of the store's variables
  abbrev pub AreLiterals : List Lit → Type 0
  AreLiterals literals = All (λ l. IsVariable (variable_of l)) literals

  -- an entry of the trail: of a variable, and by a registered clause
  pub record IsAssigned (entry : Entry) : Type 0 where
    pub variable : IsVariable entry.decision.variable
    pub clause : IsClause entry.decision.derived_from

  -- what a clause watches is among its literals
  abbrev pub WatchOwn : Type 0
  WatchOwn =
      (clause : ℕ) (l : Lit) → is_literal_in l (watched_by st clause) ≡ true →
      is_literal_in l (clause_literals st clause) ≡ true

  pub record IsSound : Type 0 where
    pub root_first : IsRootFirst st.origins
    -- what variables stand for is known to the provider
    pub origins_known : All (λ o. knows_origin st.provider.universe o ≡ true) st.origins
    pub one_variable_each : HasOneVariableEach
    -- each requirement is loaded once
    pub loaded_once : IsDistinct same_requirement (map (λ e. e.0) st.loaded)
    pub loaded : All IsLoaded st.loaded
    -- the registered clauses are the requires clauses of the list, under their ids
    pub registered : st.requires ≡ requires_from 0 st.clauses
    pub clauses : All IsRegistered st.requires
    -- the variables of clauses are the store's, and what else clauses name is known to the provider
    pub clauses_known : All (IsKnownClause st.provider.universe st.origins) st.clauses
    -- so are the variables of the literals that learnt clauses and disjunctions keep
    pub learnt_known : All AreLiterals st.learnt
    pub disjunctions_known : All (λ d. AreLiterals d.literals) st.disjunctions
    -- for each clause there is what it watches: literals of its own
    pub watched : length st.watches ≡ length st.clauses
    pub own : WatchOwn
    -- each clause watches nothing or two different literals, and stands once in the list of each, and in no other list
    pub exact : IsExact (watched_by st) st.watchers
    -- what is tracked under each name came by additions to nothing, as did the clauses of it
    pub tracked : (name : N) → IsTracking st.origins (st.trackers name) (bits st name)
    pub place : st.place ≤ length st.trail
    -- each variable is on the trail at most once, and levels are in range
    pub trail : IsTrail st.trail
    pub assigned : All IsAssigned st.trail
