-- What a question leaves of a cache, answered or refused. D are the providers, N the names, S the solvables,
-- A the allocators, H the sets of solvables.
use Rattle.std.specs.Prelude.{◌≡◌, ◌-◌, ◌^◌, Bool, true, false, not, ◌&&◌}
use Rattle.std.specs.Prelude.{◌||◌, nat_le, List, [], ◌∷◌, ◌++◌, length, take}
use Rattle.std.specs.List.{list_any, list_all}
use Rattle.typed_ids.specs.Refusals.{IsGrowthRefusal}
use Rattle.typed_ids.specs.declared.error.StoreError.{StoreError}
use Rattle.typed_ids.specs.declared.error.StoreError.TheVariants as Refusal
use Rattle.typed_ids.specs.declared.version_set_id.VersionSetId.{VersionSetId}
use Rattle.id_storage.specs.StoredAnswers.{lacks_answer}
use Rattle.providers.specs.Dependencies.{needs_of}
use Rattle.providers.specs.Provider.{matching, non_matching, sorted}
use Rattle.providers.specs.Requirement.{same_requirement}
use Rattle.providers.specs.declared.candidates.Candidates.{Candidates}
use Rattle.providers.specs.declared.dependencies.Dependencies.{Dependencies}
use Rattle.providers.specs.declared.requirement.Requirement.{Requirement}
use Rattle.providers.specs.declared.requirement.Requirement.TheVariants.{Single, Union}
use Rattle.solver_cache.specs.Cache.{Cache, IsAnswer, is_queried, is_set_queried}
use Rattle.solver_cache.specs.Cache.{is_fetched, is_cached, same_set, sorted_of}
use Rattle.solver_cache.specs.Functions.{Provider, MayAnswer}
use Rattle.solver_cache.specs.Hints.{hints_of, with_hints}
use Rattle.solver_cache.specs.declared.error.CacheError.{CacheError}
use Rattle.solver_cache.specs.declared.error.CacheError.TheVariants.{Store, Cancelled}

-- the refusal that stands for it
abbrev pub refusal_of : {C : Type 0} → CacheError C → StoreError
refusal_of (Store e) = e
refusal_of (Cancelled reason) = Refusal.Cancelled

-- the list begins with the earlier one
abbrev pub BeginsWith : {X : Type 0} → List X → List X → Type 0
BeginsWith earlier list = take (length earlier) list ≡ earlier

-- a later state of a cache: what was cached is cached
pub record IsLater {D N S A H : Type 0} (has : H → S → Bool) (old new : Cache D N S A H) : Type 0 where
  pub provider : new.provider ≡ old.provider
  pub candidates : BeginsWith old.candidates new.candidates
  pub matching : BeginsWith old.matching new.matching
  pub non_matching : BeginsWith old.non_matching new.non_matching
  pub sorted : BeginsWith old.sorted new.sorted
  pub dependencies : BeginsWith old.dependencies new.dependencies
  pub hinted : (s : S) → has old.hinted s ≡ true → has new.hinted s ≡ true

-- a question whose answer is cached changes nothing; another one finds an answer
abbrev pub IsOnce : {X : Type 0} → Bool → X → (X → Type 0) → X → Type 0
IsOnce true old Found new = new ≡ old
IsOnce false old Found new = Found new

-- after a solvable's dependencies were queried
abbrev pub IsFetched : {D N S A H : Type 0} → Provider N S → Cache D N S A H → S → Cache D N S A H → Type 0
IsFetched {A} p old s = IsOnce (is_fetched p old s) old (λ new. (answer : Dependencies A) ×
    (needs_of answer ≡ p.answers.needs s) ×
    (new ≡ record old { dependencies = old.dependencies ++ (s, answer) ∷ [] }))

module _ {D N S A H : Type 0} (p : Provider N S) (may : MayAnswer N S A) (has : H → S → Bool) where
  module _ (old : Cache D N S A H) where
    -- the set has what it had, and the hints
    abbrev pub IsMarked : List S → H → Type 0
    IsMarked hints hinted = (s : S) → has hinted s ≡ with_hints p.same_solvable p.is_large_hint (has old.hinted) hints s

    -- after a package was queried
    abbrev pub IsQueried : N → Cache D N S A H → Type 0
    IsQueried n = IsOnce (is_queried p old n) old (λ new. (answer : Candidates S A) × IsAnswer p may n answer ×
        IsMarked (hints_of answer) new.hinted ×
        (new ≡ record old { candidates = old.candidates ++ (n, answer) ∷ []; hinted = new.hinted }))

    -- after the candidates that a version set holds were: its package is queried first
    abbrev pub IsMatched : VersionSetId → Cache D N S A H → Type 0
    IsMatched v = IsOnce (is_cached (same_set v) old.matching) old (λ new. (mid : Cache D N S A H) ×
        IsQueried (p.universe.set_name v) mid ×
        (new ≡ record mid { matching = mid.matching ++ (v, matching p.universe p.answers v) ∷ [] }))

    -- after the others were
    abbrev pub IsUnmatched : VersionSetId → Cache D N S A H → Type 0
    IsUnmatched v = IsOnce (is_cached (same_set v) old.non_matching) old (λ new. (mid : Cache D N S A H) ×
        IsQueried (p.universe.set_name v) mid ×
        (new ≡ record mid { non_matching = mid.non_matching ++ (v, non_matching p.universe p.answers v) ∷ [] }))

    -- after those that it holds were queried in order: they are found first
    abbrev pub IsSorted : VersionSetId → Cache D N S A H → Type 0
    IsSorted v = IsOnce (is_cached (same_requirement (Single v)) old.sorted) old (λ new. (mid : Cache D N S A H) ×
        IsMatched v mid ×
        (new ≡ record mid { sorted = mid.sorted ++ (Single v, sorted p.universe p.answers p.same_solvable v) ∷ [] }))

    -- the same, but no list of them in another order is kept
    abbrev pub IsBest : VersionSetId → Cache D N S A H → Type 0
    IsBest v = IsOnce (is_cached (same_requirement (Single v)) old.sorted) old (λ new. (mid : Cache D N S A H) ×
        IsQueried (p.universe.set_name v) mid ×
        (new ≡ record mid { sorted = mid.sorted ++ (Single v, sorted p.universe p.answers p.same_solvable v) ∷ [] }))

  -- after those of each version set were, one set after the other
  abbrev pub AreSorted : Cache D N S A H → List VersionSetId → Cache D N S A H → Type 0
  AreSorted old [] new = new ≡ old
  AreSorted old (v ∷ vs) new = (mid : Cache D N S A H) × IsSorted old v mid × AreSorted mid vs new

  -- after those of a requirement were
  abbrev pub IsRequirementSorted : Cache D N S A H → Requirement → Cache D N S A H → Type 0
  IsRequirementSorted old (Single v) new = IsSorted old v new
  IsRequirementSorted old (Union u) new = IsOnce (is_cached (same_requirement (Union u)) old.sorted) old
      (λ new. (mid : Cache D N S A H) × AreSorted old (p.universe.union_sets u) mid ×
      (new ≡ record mid { sorted = mid.sorted ++ (Union u, sorted_of p (Union u)) ∷ [] })) new

module _ {D N S A H : Type 0} (p : Provider N S) (c : Cache D N S A H) where
  -- no answer can be cached for the package: nothing can be stored by its id, or all ids of answers are in use, as only
  -- names that may be more than 2^32 can bring about
  abbrev pub lacks_candidates : N → Bool
  lacks_candidates n = p.is_large_name n || (p.are_names_many && nat_le (2 ^ 32) (length c.candidates))

  -- nor for the solvable
  abbrev pub lacks_dependencies : S → Bool
  lacks_dependencies s = lacks_answer (2 ^ 32 - 1) p.is_large_solvable (length c.dependencies) s

  -- an answer may not be cached for a package of these version sets, which wasn't queried
  abbrev pub may_lack_candidates : List VersionSetId → Bool
  may_lack_candidates vs = list_any (λ v. not (is_set_queried p c v) &&
      (p.is_large_name (p.universe.set_name v) || p.are_names_many)) vs

-- why a question is refused: whether the provider was queried before, and whether an answer can't be cached. Only a new
-- query is cancelled
abbrev pub IsRefusal : {C : Type 0} → (queried lacks : Bool) → CacheError C → Type 0
IsRefusal queried lacks (Cancelled reason) = queried ≡ false
IsRefusal queried lacks (Store e) = IsGrowthRefusal (not queried && lacks) e

-- a refused question about one package or solvable: whether it was queried before, and whether an answer can't be
-- cached. Only a new query is cancelled, and then nothing changed
abbrev pub IsRefusedOf : {D N S A H C : Type 0} → (queried lacks : Bool) → Cache D N S A H → CacheError C →
    Cache D N S A H → Type 0
IsRefusedOf queried lacks old (Cancelled reason) new = (queried ≡ false) × (new ≡ old)
IsRefusedOf queried lacks old (Store e) new = IsGrowthRefusal (not queried && lacks) e

-- a refused question about version sets in turn
abbrev pub IsRefusedOfSets : {D N S A H C : Type 0} → Provider N S → List VersionSetId → Cache D N S A H →
    CacheError C → Cache D N S A H → Type 0
IsRefusedOfSets p vs old (Cancelled reason) new = list_all (is_set_queried p old) vs ≡ false
IsRefusedOfSets p vs old (Store e) new =
    IsGrowthRefusal
    (list_any (λ v. not (is_set_queried p old v) && lacks_candidates p new (p.universe.set_name v)) vs) e
