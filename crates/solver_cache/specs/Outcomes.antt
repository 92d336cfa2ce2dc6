-- The outcomes of each question to a cache: one definition for an answer, and one for a refusal. That of an answer says
-- where the cache keeps it, and both say what the cache is then. D are the providers, N the names, S the solvables,
-- A the allocators, H the sets of solvables.
use Rattle.std.specs.Prelude.{◌≡◌, ℕ, Bool, true, false, List, map, slice_get, Some, All}
use Rattle.std.specs.List.{list_any}
use Rattle.std.specs.Map.{lookup}
use Rattle.typed_ids.specs.declared.version_set_id.VersionSetId.{VersionSetId}
use Rattle.providers.specs.Dependencies.{needs_of}
use Rattle.providers.specs.Provider.{matching, non_matching, sets_of}
use Rattle.providers.specs.declared.candidates.Candidates.{Candidates}
use Rattle.providers.specs.declared.dependencies.Dependencies.{Dependencies}
use Rattle.providers.specs.declared.requirement.Requirement.{Requirement}
use Rattle.solver_cache.specs.Cache.{Cache, IsAnswer, AreListed, is_queried, is_set_queried, is_fetched, list_at}
use Rattle.solver_cache.specs.Cache.{sorted_of_set, sorted_of}
use Rattle.solver_cache.specs.Functions.{Provider, MayAnswer}
use Rattle.solver_cache.specs.Questions.{IsLater, IsQueried, IsFetched, IsMatched, IsUnmatched}
use Rattle.solver_cache.specs.Questions.{IsSorted, AreSorted, IsRequirementSorted, IsBest}
use Rattle.solver_cache.specs.Questions.{IsRefusedOf, IsRefusedOfSets, lacks_candidates, lacks_dependencies}
use Rattle.solver_cache.specs.Unanswered.{IsUnanswered, IsUnfiltered, IsUnsorted, AreCutShort}
use Rattle.solver_cache.specs.declared.error.CacheError.{CacheError}
use Rattle.solver_cache.specs.declared.list_id.ListKind.{ListKind}

module _ {D N S A H : Type 0} (p : Provider N S) (may : MayAnswer N S A) (has : H → S → Bool)
    (old : Cache D N S A H) where
  -- a package's candidates are answered, by the place of the provider's answer
  pub record AnswersCandidates (n : N) (place : ℕ) (new : Cache D N S A H) : Type 0 where
    pub queried : IsQueried p may has old n new
    pub own : slice_get (map (λ e. e.1) new.candidates) place ≡ lookup (p.same_name n) new.candidates
    pub answer : (answer : Candidates S A) ×
        (slice_get (map (λ e. e.1) new.candidates) place ≡ Some answer) × IsAnswer p may n answer
    pub later : IsLater has old new
    pub queried_now : is_queried p new n ≡ true

  -- a package's candidates are refused
  pub record RefusesCandidates {C : Type 0} (n : N) (e : CacheError C) (new : Cache D N S A H) : Type 0 where
    pub reason : IsRefusedOf (is_queried p old n) (lacks_candidates p old n) old e new
    pub left : IsUnanswered p may has old n new
    pub later : IsLater has old new

  -- the candidates that a version set holds are answered, by the place of their list
  pub record AnswersMatching (v : VersionSetId) (id : ListKind × ℕ) (new : Cache D N S A H) : Type 0 where
    pub matched : IsMatched p may has old v new
    pub list : list_at new id ≡ Some (matching p.universe p.answers v)
    pub later : IsLater has old new
    pub queried : is_set_queried p new v ≡ true

  -- those that it doesn't hold are
  pub record AnswersNonMatching (v : VersionSetId) (id : ListKind × ℕ) (new : Cache D N S A H) : Type 0 where
    pub unmatched : IsUnmatched p may has old v new
    pub list : list_at new id ≡ Some (non_matching p.universe p.answers v)
    pub later : IsLater has old new
    pub queried : is_set_queried p new v ≡ true

  -- those that it holds, or those that it doesn't, are refused
  pub record RefusesFiltered {C : Type 0} (v : VersionSetId) (e : CacheError C) (new : Cache D N S A H) : Type 0 where
    pub reason : IsRefusedOf (is_set_queried p old v) (lacks_candidates p old (p.universe.set_name v)) old e new
    pub left : IsUnfiltered p may has old v new
    pub later : IsLater has old new

  -- those that it holds, best first, are answered
  pub record AnswersSorted (v : VersionSetId) (id : ListKind × ℕ) (new : Cache D N S A H) : Type 0 where
    pub sorted : IsSorted p may has old v new
    pub list : list_at new id ≡ Some (sorted_of_set p v)
    pub later : IsLater has old new
    pub queried : is_set_queried p new v ≡ true

  -- those that it holds, best first, are refused
  pub record RefusesSorted {C : Type 0} (v : VersionSetId) (e : CacheError C) (new : Cache D N S A H) : Type 0 where
    pub reason : IsRefusedOf (is_set_queried p old v) (lacks_candidates p old (p.universe.set_name v)) old e new
    pub left : IsUnsorted p may has old v new
    pub later : IsLater has old new

  -- a requirement's candidates are answered, by the place of their list
  pub record AnswersRequirement (r : Requirement) (id : ListKind × ℕ) (new : Cache D N S A H) : Type 0 where
    pub sorted : IsRequirementSorted p may has old r new
    pub list : list_at new id ≡ Some (sorted_of p r)
    pub later : IsLater has old new
    pub queried : All (λ v. is_set_queried p new v ≡ true) (sets_of p.universe r)

  -- they are answered, by the places of one list for each of its version sets
  pub record AnswersLists (r : Requirement) (ids : List (ListKind × ℕ)) (new : Cache D N S A H) : Type 0 where
    pub sorted : AreSorted p may has old (sets_of p.universe r) new
    pub lists : AreListed p new ids (sets_of p.universe r)
    pub later : IsLater has old new
    pub queried : All (λ v. is_set_queried p new v ≡ true) (sets_of p.universe r)
    pub fit : list_any (λ v. p.is_large_name (p.universe.set_name v)) (sets_of p.universe r) ≡ false

  -- the candidates of a requirement with these version sets are refused
  pub record RefusesSets {C : Type 0} (vs : List VersionSetId) (e : CacheError C) (new : Cache D N S A H) : Type 0 where
    pub reason : IsRefusedOfSets p vs old e new
    pub left : AreCutShort p may has vs old e new
    pub later : IsLater has old new

  -- those that a version set holds, best first, are answered by the place of their list, and no other list is kept
  pub record AnswersBest (v : VersionSetId) (id : ListKind × ℕ) (new : Cache D N S A H) : Type 0 where
    pub kept : IsBest p may has old v new
    pub list : list_at new id ≡ Some (sorted_of_set p v)
    pub later : IsLater has old new
    pub queried : is_set_queried p new v ≡ true
    pub fit : p.is_large_name (p.universe.set_name v) ≡ false

  -- ---- outcomes of parts of a question

  -- a version set's package was queried
  pub record QueriesPackage (v : VersionSetId) (new : Cache D N S A H) : Type 0 where
    pub queried : IsQueried p may has old (p.universe.set_name v) new
    pub later : IsLater has old new
    pub queried_now : is_set_queried p new v ≡ true

  -- the candidates that version sets hold are cached, best first
  pub record SortsSets (vs : List VersionSetId) (new : Cache D N S A H) : Type 0 where
    pub sorted : AreSorted p may has old vs new
    pub later : IsLater has old new
    pub queried : All (λ v. is_set_queried p new v ≡ true) vs

  -- those that version sets hold are answered, by the places of their lists
  pub record AnswersSets (vs : List VersionSetId) (ids : List (ListKind × ℕ)) (new : Cache D N S A H) : Type 0 where
    pub sorted : AreSorted p may has old vs new
    pub lists : AreListed p new ids vs
    pub later : IsLater has old new
    pub queried : All (λ v. is_set_queried p new v ≡ true) vs
    pub fit : list_any (λ v. p.is_large_name (p.universe.set_name v)) vs ≡ false

module _ {D N S A H : Type 0} (p : Provider N S) (old : Cache D N S A H) where
  -- what a solvable needs is answered, by the place of the provider's answer
  pub record AnswersDependencies (s : S) (place : ℕ) (new : Cache D N S A H) : Type 0 where
    pub fetched : IsFetched p old s new
    pub answer : (answer : Dependencies A) ×
        (slice_get (map (λ e. e.1) new.dependencies) place ≡ Some answer) × (needs_of answer ≡ p.answers.needs s)

  -- what it needs is refused, and nothing changed
  pub record RefusesDependencies {C : Type 0} (s : S) (e : CacheError C) (new : Cache D N S A H) : Type 0 where
    pub reason : IsRefusedOf (is_fetched p old s) (lacks_dependencies p old s) old e new
    pub left : new ≡ old
