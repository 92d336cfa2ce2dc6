-- Lists of variables as they are stored, and what is true of the state of a store.
use Rattle.std.specs.Prelude.{◌≡◌, ℕ, ◌-◌, ◌^◌, Bool, true, false, List, [], ◌∷◌, ◌++◌, length, map, Option, All}
use Rattle.std.specs.List.{list_any}
use Rattle.std.specs.Map.{lookup}
use Rattle.std.specs.declared.vec.Vec.{Vec}
use Rattle.providers.specs.declared.requirement.Requirement.{Requirement}
use Rattle.providers.specs.Provider.{Universe, knows_requirement, sets_of}
use Rattle.providers.specs.Requirement.{same_requirement}
use Rattle.typed_ids.specs.Refusals.{are_ids_out}
use Rattle.decisions.specs.Literals.{Lit}
use Rattle.clauses.specs.declared.disjunction.Disjunction.{Disjunction}
use Rattle.resolvo_queue.specs.declared.requires_clause.RequiresClause.{RequiresClause}
use Rattle.decisions.specs.Trail.{Trail}
use Rattle.watch_map.specs.Marks.{AreMarks}
use Rattle.watch_map.specs.declared.marks.Mark.{Mark}
use Rattle.resolvo_queue.specs.Queue.{Queue}
use Rattle.resolvo_queue.specs.References.{references}
use Rattle.resolvo_queue.specs.Rows.{AreFew}
use Rattle.resolvo_store.specs.Counted.{AreCounted, Counting}
use Rattle.resolvo_store.specs.Growth.{IsOfCandidates}
use Rattle.resolvo_store.specs.Synced.{MayDecide}
use Rattle.resolvo_store.specs.Sound.{IsSound}
use Rattle.resolvo_store.specs.Store.{Store, Provider, StoredDisjunction, clause_literals, watched_by}
use Rattle.solver_cache.specs.Cache.{Cache, is_set_queried, sorted_of}
use Rattle.variables.specs.declared.variable_origin.VariableOrigin.{VariableOrigin}

-- the lists in a vector of vectors
abbrev pub items_of : {A : Type 0} → Vec (Vec ℕ A) A → List (List ℕ)
items_of lists = map (λ l. l.items) lists.items

-- the requirements with the lists that are stored for them
abbrev pub lists_of_loaded : {A : Type 0} → List (Requirement × Vec (Vec ℕ A) A) → List (Requirement × List (List ℕ))
lists_of_loaded loaded = map (λ e. (e.0, map (λ l. l.items) e.1.items)) loaded

-- the lists that are stored for a requirement, if there are any
abbrev pub lists_for : {A : Type 0} → Requirement → List (Requirement × Vec (Vec ℕ A) A) → Option (List (List ℕ))
lists_for r loaded = lookup (same_requirement r) (lists_of_loaded loaded)

-- the disjunctions that are stored
abbrev pub stored_disjunctions : {A : Type 0} → List (Disjunction A) → List StoredDisjunction
stored_disjunctions disjunctions =
    map (λ d. record { literals = d.literals.items; condition = d.condition }) disjunctions

-- no id is left for one more
abbrev pub are_disjunctions_full : {A : Type 0} → List (Disjunction A) → Bool
are_disjunctions_full disjunctions = are_ids_out (2 ^ 32 - 1) (length (stored_disjunctions disjunctions))

-- one more is stored: these literals, of the condition
abbrev pub StoresMore : {A : Type 0} → List Lit → ℕ → List (Disjunction A) → List (Disjunction A) → Type 0
StoresMore literals condition old new =
    stored_disjunctions new ≡ stored_disjunctions old ++ record { literals = literals; condition = condition } ∷ []

-- one disjunction more is stored
pub record IsOneMore {A : Type 0} (old new : List (Disjunction A)) : Type 0 where
  pub disjunction : Disjunction A
  pub grown : new ≡ old ++ disjunction ∷ []

-- the requirements of clauses are known
abbrev pub AreKnown : {N S : Type 0} → Universe N S → List RequiresClause → Type 0
AreKnown universe requires = All (λ c. knows_requirement universe c.requirement ≡ true) requires

-- the packages of the version sets of loaded requirements were queried
abbrev pub AreQueried : {D N S A H : Type 0} → Provider N S → Cache D N S A H →
    List (Requirement × List (List ℕ)) → Type 0
AreQueried p cache loaded = All (λ e. All (λ v. is_set_queried p cache v ≡ true) (sets_of p.universe e.0)) loaded

-- nothing of a requirement is too large to be kept: neither the names of its packages nor its candidates
pub record IsFit {N S : Type 0} (p : Provider N S) (r : Requirement) : Type 0 where
  pub names : list_any (λ v. p.is_large_name (p.universe.set_name v)) (sets_of p.universe r) ≡ false
  pub solvables : list_any p.is_large_solvable (sorted_of p r) ≡ false

-- what was loaded came through the cache, and is of candidates that have variables
pub record CameThrough {D N S A H : Type 0} (p : Provider N S) (cache : Cache D N S A H)
    (origins : List (VariableOrigin N S)) (loaded : List (Requirement × List (List ℕ))) : Type 0 where
  pub queried : AreQueried p cache loaded
  pub fit : All (λ e. IsFit p e.0) loaded
  pub candidates : All (IsOfCandidates p origins) loaded

-- the state is consistent: it can decide, with few rows for each requirement, and clauses of known requirements alone;
-- the store is one that commands can make; what was loaded came through the cache; and the queue may decide, whose
-- clauses stand on these lists and disjunctions
pub record IsConsistent {D N S A H Q : Type 0} (has : Q → N → Bool) (st : Store N S)
    (loaded : List (Requirement × Vec (Vec ℕ A) A)) (disjunctions : List (Disjunction A))
    (cache : Cache D N S A H) (queue : Queue N Q) (trail : Trail) : Type 0 where
  pub few : AreFew loaded
  pub known : AreKnown st.provider.universe st.requires
  pub sound : IsSound st
  pub through : CameThrough st.provider cache st.origins st.loaded
  pub may_decide : MayDecide has st.scores (references st.provider.universe loaded disjunctions) queue trail

-- these are marks of the store's trail, over its clauses
abbrev pub HasMarks : {N S : Type 0} → Store N S → List Mark → Type 0
HasMarks st marks = AreMarks (clause_literals st) (watched_by st) st.trail marks

-- what is kept is in order, the counters and the marks among it
pub record IsInOrder {D N S A H Q : Type 0} (has : Q → N → Bool) (st : Store N S)
    (loaded : List (Requirement × Vec (Vec ℕ A) A)) (disjunctions : List (Disjunction A)) (cache : Cache D N S A H)
    (queue : Queue N Q) (falsified : Counting) (trail : Trail) (marks : List Mark) : Type 0 where
  pub consistent : IsConsistent has st loaded disjunctions cache queue trail
  pub counted : AreCounted falsified st.requires st.trail loaded disjunctions
  pub marked : HasMarks st marks
