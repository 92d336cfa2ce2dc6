-- What a refused question leaves of a cache. D are the providers, N the names, S the solvables, A the allocators,
-- H the sets of solvables.
use Rattle.std.specs.Prelude.{◌≡◌, Bool, true, false, ◌⊎◌, List, [], ◌∷◌}
use Rattle.typed_ids.specs.declared.version_set_id.VersionSetId.{VersionSetId}
use Rattle.providers.specs.declared.candidates.Candidates.{Candidates}
use Rattle.solver_cache.specs.Cache.{Cache, IsAnswer, is_set_queried}
use Rattle.solver_cache.specs.Functions.{Provider, MayAnswer}
use Rattle.solver_cache.specs.Hints.{hints_of, with_hints}
use Rattle.solver_cache.specs.Questions.{IsQueried, IsMatched, IsSorted}
use Rattle.solver_cache.specs.declared.error.CacheError.{CacheError}
use Rattle.solver_cache.specs.declared.error.CacheError.TheVariants.{Store, Cancelled}

module _ {D N S A H : Type 0} (p : Provider N S) (may : MayAnswer N S A) (has : H → S → Bool) where
  module _ (old : Cache D N S A H) where
    -- the set has what it had, and of the hints some at most
    abbrev pub IsPartlyMarked : List S → H → Type 0
    IsPartlyMarked hints hinted =
        (s : S) → has hinted s ≡ true → with_hints p.same_solvable p.is_large_hint (has old.hinted) hints s ≡ true

    -- no answer is cached for a package: nothing changed, or the provider answered, and some hints of it may be marked
    abbrev pub IsUnanswered : N → Cache D N S A H → Type 0
    IsUnanswered n new = (new ≡ old) ⊎ ((answer : Candidates S A) × IsAnswer p may n answer ×
        IsPartlyMarked (hints_of answer) new.hinted × (new ≡ record old { hinted = new.hinted }))

    -- no list is cached of what a version set holds, or doesn't: its package has no answer either, or has
    abbrev pub IsUnfiltered : VersionSetId → Cache D N S A H → Type 0
    IsUnfiltered v new = IsUnanswered (p.universe.set_name v) new ⊎ IsQueried p may has old (p.universe.set_name v) new

    -- none is cached of what it holds, best first: nor is one in the provider's order of listing, or it is
    abbrev pub IsUnsorted : VersionSetId → Cache D N S A H → Type 0
    IsUnsorted v new = IsUnfiltered v new ⊎ IsMatched p may has old v new

  -- version sets were answered in turn, up to one that wasn't, or all were
  abbrev pub AreUnsorted : Cache D N S A H → List VersionSetId → Cache D N S A H → Type 0
  AreUnsorted old [] new = new ≡ old
  AreUnsorted old (v ∷ vs) new = IsUnsorted old v new ⊎
      ((mid : Cache D N S A H) × IsSorted p may has old v mid × AreUnsorted mid vs new)

  -- version sets were answered in turn, up to one whose package wasn't queried, and no more
  abbrev pub AreStopped : Cache D N S A H → List VersionSetId → Cache D N S A H → Type 0
  AreStopped old [] new = ⊥
  AreStopped old (v ∷ vs) new = ((is_set_queried p old v ≡ false) × (new ≡ old)) ⊎
      ((mid : Cache D N S A H) × IsSorted p may has old v mid × AreStopped mid vs new)

  -- the questions about version sets in turn end with this refusal
  abbrev pub AreCutShort : {C : Type 0} → List VersionSetId → Cache D N S A H → CacheError C → Cache D N S A H → Type 0
  AreCutShort vs old (Cancelled reason) new = AreStopped old vs new
  AreCutShort vs old (Store e) new = AreUnsorted old vs new
