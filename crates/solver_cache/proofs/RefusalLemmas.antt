-- What a refusal tells of the cache that was asked.
use Rattle.std.proofs.Common.{◌≡◌, Bool, true, false, List, [], ◌∷◌, ◌∙◌, ap, refl, sym, true≢false}
use Rattle.std.specs.Prelude.{◌&&◌, ◌||◌, not}
use Rattle.solver_cache.proofs.Words.{Cache, CacheError, Cancelled, is_fetched, is_queried, is_set_queried, IsRefusal}
use Rattle.solver_cache.proofs.Words.{IsRefusedOf, IsRefusedOfSets, lacks_candidates, lacks_dependencies, list_all}
use Rattle.solver_cache.proofs.Words.{list_any, may_lack_candidates, MayAnswer, MayRefuseName, MayRefuseNeeds}
use Rattle.solver_cache.proofs.Words.{MayRefuseSet, MayRefuseSets, Provider, RefusesCandidates, RefusesDependencies}
use Rattle.solver_cache.proofs.Words.{RefusesFiltered, RefusesSets, RefusesSorted, Store, VersionSetId}
use Rattle.solver_cache.proofs.CacheLemmas.{refusal_wider}

-- of one question
refusal_of_one : {D N S A H C : Type 0} (queried lacks : Bool) (old new : Cache D N S A H) (e : CacheError C) →
    IsRefusedOf queried lacks old e new
    → IsRefusal queried lacks e
refusal_of_one queried lacks old new (Cancelled reason) h = h.0
refusal_of_one queried lacks old new (Store e) h = h

module _ {X : Type 0} (queried lacks may_lack : X → Bool) (wider : (x : X) → lacks x ≡ true → may_lack x ≡ true) where
  -- where one that wasn't asked lacks something, not all were asked
  not_all : (xs : List X) → list_any (λ x. not (queried x) && lacks x) xs ≡ true → not (list_all queried xs) ≡ true
  not_all [] h = absurd (true≢false (sym h))
  not_all (x ∷ xs) h = by_test (queried x) (not_all xs) h
    where
      by_test : (a : Bool) → (list_any (λ y. not (queried y) && lacks y) xs ≡ true → not (list_all queried xs) ≡ true)
          → ((not a && lacks x) || list_any (λ y. not (queried y) && lacks y) xs) ≡ true →
          not (a && list_all queried xs) ≡ true
      by_test true rest h = rest h
      by_test false rest h = refl

  -- and it may lack something
  any_wider : (xs : List X) → list_any (λ x. not (queried x) && lacks x) xs ≡ true →
      list_any (λ x. not (queried x) && may_lack x) xs ≡ true
  any_wider [] h = h
  any_wider (x ∷ xs) h = by_tests (queried x) (lacks x) (may_lack x) (wider x) (any_wider xs) h
    where
      by_tests : (a b c : Bool) → (b ≡ true → c ≡ true)
          → (list_any (λ y. not (queried y) && lacks y) xs ≡ true →
          list_any (λ y. not (queried y) && may_lack y) xs ≡ true)
          → ((not a && b) || list_any (λ y. not (queried y) && lacks y) xs) ≡ true
          → ((not a && c) || list_any (λ y. not (queried y) && may_lack y) xs) ≡ true
      by_tests true b c more rest h = rest h
      by_tests false true c more rest h = ap (λ t. t || list_any (λ y. not (queried y) && may_lack y) xs) (more refl)
      by_tests false false true more rest h = refl
      by_tests false false false more rest h = rest h

  both : (xs : List X) → list_any (λ x. not (queried x) && lacks x) xs ≡ true
      → (not (list_all queried xs) && list_any (λ x. not (queried x) && may_lack x) xs) ≡ true
  both xs h = ap (λ a. a && list_any (λ x. not (queried x) && may_lack x) xs) (not_all xs h) ∙ any_wider xs h

-- names that may be many is all that using up ids tells of a cache that was asked before
may : (large many used : Bool) → (large || (many && used)) ≡ true → (large || many) ≡ true
may true many used h = refl
may false true used h = refl
may false false used h = h

-- of version sets in turn
refusal_of_sets : {D N S A H C : Type 0} (p : Provider N S) (vs : List VersionSetId) (old new : Cache D N S A H)
    (e : CacheError C)
    → IsRefusedOfSets p vs old e new → IsRefusal (list_all (is_set_queried p old) vs) (may_lack_candidates p old vs) e
refusal_of_sets p vs old new (Cancelled reason) h = h
refusal_of_sets p vs old new (Store e) h =
    refusal_wider _ _ e (both (is_set_queried p old) (λ v. lacks_candidates p new (p.universe.set_name v))
    (λ v. p.is_large_name (p.universe.set_name v) || p.are_names_many)
    (λ v. may (p.is_large_name (p.universe.set_name v)) p.are_names_many _) vs) h

pub refused_needs : {D N S A H C : Type 0} {p : Provider N S} {old new : Cache D N S A H} {e : CacheError C} {s : S} →
    RefusesDependencies p old s e new → MayRefuseNeeds p old s e
refused_needs {p} {old} {new} {e} {s} refused =
    refusal_of_one (is_fetched p old s) (lacks_dependencies p old s) old new e refused.reason

module _ {D N S A H C : Type 0} {p : Provider N S} {may : MayAnswer N S A} {has : H → S →
    Bool} {old new : Cache D N S A H} {e : CacheError C} where
  pub refused_name : {n : N} → RefusesCandidates p may has old n e new → MayRefuseName p old n e
  refused_name {n} refused = refusal_of_one (is_queried p old n) (lacks_candidates p old n) old new e refused.reason

  pub refused_filtered : {v : VersionSetId} → RefusesFiltered p may has old v e new → MayRefuseSet p old v e
  refused_filtered {v} refused =
      refusal_of_one (is_set_queried p old v) (lacks_candidates p old (p.universe.set_name v)) old new e refused.reason

  pub refused_sorted : {v : VersionSetId} → RefusesSorted p may has old v e new → MayRefuseSet p old v e
  refused_sorted {v} refused =
      refusal_of_one (is_set_queried p old v) (lacks_candidates p old (p.universe.set_name v)) old new e refused.reason

  pub refused_sets : {vs : List VersionSetId} → RefusesSets p may has old vs e new → MayRefuseSets p old vs e
  refused_sets {vs} refused = refusal_of_sets p vs old new e refused.reason
