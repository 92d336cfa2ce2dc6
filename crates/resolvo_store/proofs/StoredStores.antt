-- A sound store, but for what is tracked in it.
use Rattle.std.proofs.Common.{[], ◌≡◌, ℕ, ◌≤◌, ◌∷◌, length}
use Rattle.std.proofs.Common.{map}
use Rattle.std.specs.Prelude.{◌-◌, All}
use Rattle.resolvo_store.proofs.Words.{AreLiterals, assigned, Clause, HasOneVariableEach, IsAssigned, IsDistinct}
use Rattle.resolvo_store.proofs.Words.{IsExact, IsKnownClause, IsLoaded, IsRootFirst, IsSound, IsTrail, requires_from}
use Rattle.resolvo_store.proofs.Words.{same_requirement, Store}
use Rattle.resolvo_store.specs.Store.{watched_by}
use Rattle.resolvo_store.specs.Sound.{WatchOwn, IsRegistered}
use Rattle.resolvo_store.proofs.TrackingLaws.{AreTracked}
use Rattle.resolvo_store.proofs.KnownLemmas.{IsKnownOrigin}

-- the clause isn't registered for decisions
abbrev pub IsUnregistered : {N : Type 0} → Clause N → Type 0
IsUnregistered c = (id : ℕ) → requires_from id (c ∷ []) ≡ []

-- a sound store, but for what is tracked in it
pub record IsStored {N S : Type 0} (st : Store N S) : Type 0 where
  pub root_first : IsRootFirst st.origins
  pub origins_known : All (IsKnownOrigin st.provider.universe) st.origins
  pub one_variable_each : HasOneVariableEach st
  pub loaded_once : IsDistinct same_requirement (map (λ e. e.0) st.loaded)
  pub loaded : All (IsLoaded st) st.loaded
  pub registered : st.requires ≡ requires_from 0 st.clauses
  pub clauses : All (IsRegistered st) st.requires
  pub clauses_known : All (IsKnownClause st.provider.universe st.origins) st.clauses
  pub learnt_known : All (AreLiterals st) st.learnt
  pub disjunctions_known : All (λ d. AreLiterals st d.literals) st.disjunctions
  pub watched : length st.watches ≡ length st.clauses
  pub own : WatchOwn st
  pub exact : IsExact (watched_by st) st.watchers
  pub place : st.place ≤ length st.trail
  pub trail : IsTrail st.trail
  pub assigned : All (IsAssigned st) st.trail

pub IsStored-sound : {N S : Type 0} {st : Store N S} → IsSound st → IsStored st
IsStored-sound is = record {
  root_first = is.root_first;
  origins_known = is.origins_known;
  one_variable_each = is.one_variable_each;
  loaded_once = is.loaded_once;
  loaded = is.loaded;
  registered = is.registered;
  clauses = is.clauses;
  clauses_known = is.clauses_known;
  learnt_known = is.learnt_known;
  disjunctions_known = is.disjunctions_known;
  watched = is.watched;
  own = is.own;
  exact = is.exact;
  place = is.place;
  trail = is.trail;
  assigned = is.assigned;
}

-- with it, it is sound
pub IsSound-stored : {N S : Type 0} {st : Store N S} → IsStored st → AreTracked st → IsSound st
IsSound-stored is tracked = record {
  root_first = is.root_first;
  origins_known = is.origins_known;
  one_variable_each = is.one_variable_each;
  loaded_once = is.loaded_once;
  loaded = is.loaded;
  registered = is.registered;
  clauses = is.clauses;
  clauses_known = is.clauses_known;
  learnt_known = is.learnt_known;
  disjunctions_known = is.disjunctions_known;
  watched = is.watched;
  own = is.own;
  exact = is.exact;
  tracked = tracked;
  place = is.place;
  trail = is.trail;
  assigned = is.assigned;
}
