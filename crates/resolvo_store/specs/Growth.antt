-- What stays in a store, whatever commands follow, and what the lists of a loaded requirement are. N are the names,
-- S the solvables.
use Rattle.std.specs.Prelude.{◌≡◌, ℕ, List, map, All, IsSome}
use Rattle.providers.specs.declared.requirement.Requirement.{Requirement}
use Rattle.providers.specs.Provider.{sets_of}
use Rattle.variables.specs.Variables.{variable_of_solvable, interned_variable}
use Rattle.solver_cache.specs.Questions.{BeginsWith}
use Rattle.variables.specs.declared.variable_origin.VariableOrigin.{VariableOrigin}
use Rattle.solver_cache.specs.Cache.{sorted_of_set, sorted_of}
use Rattle.solver_cache.specs.Functions.{Provider}
use Rattle.resolvo_store.specs.Store.{Store, candidates_of}

module _ {N S : Type 0} where
  -- what the old store has, the new one has too, in the same place: each variable, loaded requirement, disjunction and
  -- clause, and what is tracked under each name. What is assigned, what is watched and the scores may be other
  pub record OnlyGrows (old new : Store N S) : Type 0 where
    pub provider : new.provider ≡ old.provider
    pub origins : BeginsWith old.origins new.origins
    pub loaded : BeginsWith old.loaded new.loaded
    pub disjunctions : BeginsWith old.disjunctions new.disjunctions
    pub learnt : BeginsWith old.learnt new.learnt
    pub clauses : BeginsWith old.clauses new.clauses
    pub requires : BeginsWith old.requires new.requires
    pub tracked : (name : N) → BeginsWith (old.trackers name).variables (new.trackers name).variables
    pub helpers : (name : N) → BeginsWith (old.trackers name).helpers (new.trackers name).helpers

  module _ (p : Provider N S) (origins : List (VariableOrigin N S)) where
    -- the solvable has a variable
    abbrev pub HasVariable : S → Type 0
    HasVariable s = IsSome (variable_of_solvable p.same_solvable origins s)

    -- what is kept for a loaded requirement: its candidates have variables, and the lists are of these, one for each
    -- version set
    pub record IsOfCandidates (entry : Requirement × List (List ℕ)) : Type 0 where
      pub have : All HasVariable (sorted_of p entry.0)
      pub lists : entry.1 ≡ map (λ v. map (interned_variable p.same_solvable origins) (sorted_of_set p v))
          (sets_of p.universe entry.0)

  module _ (st : Store N S) where
    -- the candidates' variables of a requirement, one list a version set
    abbrev pub candidate_variables : Requirement → List (List ℕ)
    candidate_variables r = map (λ v. map (interned_variable st.provider.same_solvable st.origins)
        (candidates_of st v)) (sets_of st.provider.universe r)

    -- what is kept for loaded requirements is of their candidates
    abbrev pub AreCandidates : Type 0
    AreCandidates = All (IsOfCandidates st.provider st.origins) st.loaded
