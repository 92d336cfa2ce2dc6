-- What is tracked under names, and the clauses of it. N are the names, S the solvables.
use Rattle.std.specs.Prelude.{◌≡◌, ℕ, ◌+◌, ◌-◌, ◌^◌, ◌<◌, Bool, true, false, ◌&&◌, ◌||◌, nat_eq, nat_lt}
use Rattle.std.specs.Prelude.{if◌then◌else◌, List, [], ◌∷◌, ◌++◌, length, slice_get, Option, None, Some, is_some, All}
use Rattle.std.specs.Prelude.{IsTrue}
use Rattle.std.specs.Option.{option_map_or}
use Rattle.typed_ids.specs.Refusals.{IsGrowthRefusal}
use Rattle.typed_ids.specs.declared.error.StoreError.{StoreError}
use Rattle.typed_ids.specs.declared.error.StoreError.TheVariants.{IdSpace}
use Rattle.variables.specs.declared.variable_origin.VariableOrigin.{VariableOrigin}
use Rattle.variables.specs.declared.variable_origin.VariableOrigin.TheVariants.{ForbidMultiple}
use Rattle.variables.specs.Variables.{are_variables_out}
use Rattle.decisions.specs.Literals.{Pos, Neg}
use Rattle.clauses.specs.declared.clause.Clause.{Clause}
use Rattle.clauses.specs.declared.clause.Clause.TheVariants.{ForbidMultipleInstances}
use Rattle.at_most_once.specs.AtMostOne.{Tracker, BitClause, TrackerState, Adds, needs_helper, new_clauses}
use Rattle.at_most_once.specs.NameTrackers.{tracker_of, with_tracked, lacks_tracker}
use Rattle.watch_map.specs.ClauseList.{ClauseListState, contents, helper_literal, with_forbidden}
use Rattle.resolvo_store.specs.declared.answers.Tracked.{Tracked}

-- it stands for a helper of tracked variables
abbrev pub is_helper_origin : {N S : Type 0} → VariableOrigin N S → Bool
is_helper_origin (ForbidMultiple n) = true
is_helper_origin _ = false

-- the variable is such a helper; one that isn't there is none
abbrev pub is_helper_among : {N S : Type 0} → List (VariableOrigin N S) → ℕ → Bool
is_helper_among os v = option_map_or is_helper_origin (slice_get os v) false

-- a clause of a tracked variable and a helper, under a name
abbrev pub forbidding : {N : Type 0} → N → BitClause ℕ → Clause N
forbidding name c = ForbidMultipleInstances c.0 (helper_literal c) name

-- the helper that one variable more needs, if it needs one: the variable that comes next
abbrev pub next_helper : {N S : Type 0} → List (VariableOrigin N S) → Tracker ℕ → ℕ → Option ℕ
next_helper os t v = if needs_helper nat_eq t v then Some (length os) else None

-- the variables with that helper
abbrev pub origins_with : {N S : Type 0} → List (VariableOrigin N S) → N → Option ℕ → List (VariableOrigin N S)
origins_with os name None = os
origins_with os name (Some h) = os ++ ForbidMultiple name ∷ []

-- no id is left for the helper, or for this number of clauses more
abbrev pub lacks_more : {N S : Type 0} → List (VariableOrigin N S) → Option ℕ → ℕ → ℕ → Bool
lacks_more os h clauses more = (is_some h && are_variables_out (length os)) || nat_lt (2 ^ 32 - 1) (clauses + more)

-- tracking one variable more under a name, where these trackers are kept
module _ {N S : Type 0} (same : N → N → Bool) (os : List (VariableOrigin N S)) (stored : List (N × TrackerState ℕ))
    (name : N) (v : ℕ) where
  -- the helper that the variable needs
  abbrev pub helper_needed : Option ℕ
  helper_needed = next_helper os (tracker_of same stored name) v

  -- the clauses of it
  abbrev pub clauses_needed : List (BitClause ℕ)
  clauses_needed = new_clauses (tracker_of same stored name) helper_needed v

  -- the answer says so
  abbrev pub IsNewlyTracked : Tracked → Type 0
  IsNewlyTracked answer = (answer.is_new ≡ true) × (answer.clauses ≡ length clauses_needed)

  -- the variables have its helper
  abbrev pub GetsHelper : List (VariableOrigin N S) → Type 0
  GetsHelper new = new ≡ origins_with os name helper_needed

  -- the clauses have its own
  abbrev pub GetsClauses : ClauseListState N → ClauseListState N → Type 0
  GetsClauses old new = contents new ≡ with_forbidden name (contents old) clauses_needed

  -- the trackers have it
  abbrev pub GetsTracker : List (N × TrackerState ℕ) → Type 0
  GetsTracker new = tracker_of same new ≡ with_tracked same name v helper_needed (tracker_of same stored)

  -- no id is left for its helper, or for its clauses
  abbrev pub lacks_needed : ClauseListState N → Bool
  lacks_needed clauses = lacks_more os helper_needed (length (contents clauses).clauses) (length clauses_needed)

  -- there are ids for all of it
  abbrev pub Fits : (N → Bool) → ClauseListState N → Type 0
  Fits is_large clauses = (is_large name || lacks_needed clauses) ≡ false

  -- why it may be refused
  abbrev pub IsRefusal : (N → Bool) → Bool → ClauseListState N → StoreError → Type 0
  IsRefusal is_large are_many clauses =
      IsGrowthRefusal (lacks_tracker (is_large name) are_many (tracker_of same stored name) || lacks_needed clauses)

  -- why its helper may be
  abbrev pub IsHelperRefusal : StoreError → Type 0
  IsHelperRefusal e = (e ≡ IdSpace) × IsTrue (is_some helper_needed && are_variables_out (length os))

-- of a clause that tracking added under a name that passes the test: its variable, its helper, and whether that is to
-- be true
abbrev pub bits_of : {N : Type 0} → (N → Bool) → Clause N → List (BitClause ℕ)
bits_of named (ForbidMultipleInstances x (Pos h) n) = if named n then (x, h, true) ∷ [] else []
bits_of named (ForbidMultipleInstances x (Neg h) n) = if named n then (x, h, false) ∷ [] else []
bits_of named _ = []

-- a tracker among these variables, and its clauses: additions to an empty one make both; and its helpers are helpers
pub record IsTracking {N S : Type 0} (os : List (VariableOrigin N S)) (t : Tracker ℕ)
    (cs : List (BitClause ℕ)) : Type 0 where
  pub adds : Adds nat_eq t cs
  pub variables : All (λ v. v < length os) t.variables
  pub helpers : All (λ h. is_helper_among os h ≡ true) t.helpers
