-- A cache: its queries to the provider, and their answers. D are the providers, N the names, S the solvables, A the
-- allocators, H the sets of solvables.
use Rattle.std.specs.Prelude.{◌≡◌, ℕ, Bool, true, false, ◌||◌, ◌==◌, List, [], map, flat_map, All}
use Rattle.std.specs.Prelude.{Option, None, Some, is_some, unwrap_or, slice_get}
use Rattle.std.specs.Map.{lookup}
use Rattle.typed_ids.specs.declared.version_set_id.VersionSetId.{VersionSetId}
use Rattle.providers.specs.Dependencies.{needs_of}
use Rattle.providers.specs.Provider.{matching, non_matching, sorted, sets_of}
use Rattle.providers.specs.declared.candidates.Candidates.{Candidates}
use Rattle.providers.specs.declared.candidates.HintDependenciesAvailable.TheVariants as Hint
use Rattle.providers.specs.declared.dependencies.Dependencies.{Dependencies}
use Rattle.providers.specs.declared.requirement.Requirement.{Requirement}
use Rattle.solver_cache.specs.Functions.{Provider, MayAnswer}
use Rattle.solver_cache.specs.declared.list_id.ListKind.{ListKind}
use Rattle.solver_cache.specs.declared.list_id.ListKind.TheVariants.{Matching, NonMatching, Sorted}

pub record Cache (D N S A H : Type 0) : Type 0 where
  pub provider : D
  -- the packages, each with the provider's answer; here and below the first query stands first
  pub candidates : List (N × Candidates S A)
  -- the version sets, each with the candidates of its package that it holds, and with the others
  pub matching : List (VersionSetId × List S)
  pub non_matching : List (VersionSetId × List S)
  -- the requirements, each with its candidates, best first
  pub sorted : List (Requirement × List S)
  -- the solvables, each with what it needs
  pub dependencies : List (S × Dependencies A)
  -- the solvables whose dependencies were said to be at hand
  pub hinted : H

abbrev pub same_set : VersionSetId → VersionSetId → Bool
same_set v w = v.0 == w.0

-- whether something is cached for the key that passes the test
abbrev pub is_cached : {K V : Type 0} → (K → Bool) → List (K × V) → Bool
is_cached test entries = is_some (lookup test entries)

module _ {D N S A H : Type 0} (p : Provider N S) (c : Cache D N S A H) where
  -- whether the package was queried
  abbrev pub is_queried : N → Bool
  is_queried n = is_cached (p.same_name n) c.candidates

  -- whether the version set's package was
  abbrev pub is_set_queried : VersionSetId → Bool
  is_set_queried v = is_queried (p.universe.set_name v)

  -- whether a solvable's dependencies were queried
  abbrev pub is_fetched : S → Bool
  is_fetched s = is_cached (p.same_solvable s) c.dependencies

  -- whether they are at hand: they were queried, or said to be
  abbrev pub is_available : (H → S → Bool) → S → Bool
  is_available has s = is_fetched s || has c.hinted s

-- what was found of a package, whole; of one that there isn't, nothing was found
abbrev pub IsWhole : {S A : Type 0} → Option (Candidates S A) → Candidates S A → Type 0
IsWhole None answer = (answer.candidates.items ≡ []) × (answer.favored ≡ None) × (answer.locked ≡ None) ×
    (answer.hint_dependencies_available ≡ Hint.None) × (answer.excluded.items ≡ [])
IsWhole (Some found) answer = answer ≡ found

-- an answer of the provider to the question for a package, whole
pub record IsAnswer {N S A : Type 0} (p : Provider N S) (may : MayAnswer N S A) (n : N) (answer : Candidates S A) :
    Type 0 where
  pub candidates : answer.candidates.items ≡ p.answers.candidates n
  pub favored : answer.favored ≡ p.answers.favored n
  pub allowed : (found : Option (Candidates S A)) × may n found × IsWhole found answer

module _ {N S : Type 0} (p : Provider N S) where
  -- the candidates of a version set, best first
  abbrev pub sorted_of_set : VersionSetId → List S
  sorted_of_set v = sorted p.universe p.answers p.same_solvable v

  -- the candidates of a requirement: those of its version sets, one list after the other
  abbrev pub sorted_of : Requirement → List S
  sorted_of r = flat_map sorted_of_set (sets_of p.universe r)

-- what is cached is what the provider answers; where a version set's list is cached, its package was queried
pub record IsCache {D N S A H : Type 0} (p : Provider N S) (may : MayAnswer N S A) (c : Cache D N S A H) : Type 0 where
  pub answers : All (λ e. IsAnswer p may e.0 e.1) c.candidates
  pub fits : All (λ e. p.is_large_name e.0 ≡ false) c.candidates
  pub matching : All (λ e. (e.1 ≡ matching p.universe p.answers e.0) × (is_set_queried p c e.0 ≡ true)) c.matching
  pub non_matching : All (λ e. (e.1 ≡ non_matching p.universe p.answers e.0) ×
      (is_set_queried p c e.0 ≡ true)) c.non_matching
  pub sorted : All (λ e. (e.1 ≡ sorted_of p e.0) ×
      All (λ v. is_set_queried p c v ≡ true) (sets_of p.universe e.0)) c.sorted
  pub needs : All (λ e. needs_of e.1 ≡ p.answers.needs e.0) c.dependencies

module _ {D N S A H : Type 0} (c : Cache D N S A H) where
  -- the lists of a kind
  abbrev pub lists_of : ListKind → List (List S)
  lists_of Matching = map (λ e. e.1) c.matching
  lists_of NonMatching = map (λ e. e.1) c.non_matching
  lists_of Sorted = map (λ e. e.1) c.sorted

  -- the list that is cached here
  abbrev pub list_at : ListKind × ℕ → Option (List S)
  list_at id = slice_get (lists_of id.0) id.1

  -- the same, none where nothing is
  abbrev pub listed : ListKind × ℕ → List S
  listed id = unwrap_or (list_at id) []

-- these are the places of the candidates of version sets, best first, one list a set
abbrev pub AreListed : {D N S A H : Type 0} → Provider N S → Cache D N S A H → List (ListKind × ℕ) →
    List VersionSetId → Type 0
AreListed p c ids vs = map (list_at c) ids ≡ map (λ v. Some (sorted_of_set p v)) vs
