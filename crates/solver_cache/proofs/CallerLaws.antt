-- The laws that callers cite.
use Rattle.std.proofs.Common.{◌≡◌, ℕ, ◌-◌, Bool, true, cond, List, ◌++◌, get_or, Option, None, Some}
use Rattle.std.proofs.Common.{◌∙◌, ap, refl, sym, true≢false, arith, IsPermutation}
use Rattle.std.specs.Prelude.{not}
use Rattle.std.proofs.lemmas.List.Elements.{All-contains, filter_passes}
use Rattle.std.proofs.lemmas.List.Sorted.{IsPermutation-refl, IsPermutation-remove, IsPermutation-trans}
use Rattle.std.proofs.lemmas.List.Sorted.{IsPermutation-filter_both, sum_by-IsPermutation}
use Rattle.std.proofs.lemmas.List.Sums.{sum_by-append}
use Rattle.solver_cache.proofs.Words.{CandidatesDivide, Divide, favored_first, filter, from_place, matching}
use Rattle.solver_cache.proofs.Words.{position_from, Provider, VersionSetId}
use Rattle.solver_cache.proofs.FavoredLemmas.{stands_there}

-- a test divides a list
divided : {S : Type 0} (same : S → S → Bool) (test : S → Bool) (all : List S) →
    Divide same (filter test all) (filter (λ s. not (test s)) all) all
divided same test all =
    let held = filter test all in
    let others = filter (λ s. not (test s)) all in
    record {
      as_often = λ s. sym (sum_by-append (λ t. cond (same s t) 1 0) held others)
          ∙ sum_by-IsPermutation (λ t. cond (same s t) 1 0) all (held ++ others)
          (IsPermutation-filter_both test (λ t. not (test t)) (λ t. refl) all);
      never_both = λ s passes fails.
          let yes : test s ≡ true = All-contains (λ t. test t ≡ true) held s (filter_passes test all) passes in
          let no : not (test s) ≡ true = All-contains (λ t. not (test t) ≡ true) others s
          (filter_passes (λ t. not (test t)) all) fails in
          true≢false (sym no ∙ ap not yes);
    }

-- the favored one first, a list is the same in another order
favored_permutes : {S : Type 0} (same : S → S → Bool) → ((a b : S) → same a b ≡ true → a ≡ b) →
    (favored : Option S) (list : List S)
    → IsPermutation list (favored_first same favored list)
favored_permutes same sameness None list = IsPermutation-refl list
favored_permutes same sameness (Some s) list = by_place (position_from (λ t. same t s) 0 list) refl
  where
    by_place : (found : Option ℕ) → position_from (λ t. same t s) 0 list ≡ found →
        IsPermutation list (from_place s list found)
    by_place None e = IsPermutation-refl list
    by_place (Some place) e =
        let there = stands_there same sameness s list 0 place e in
        let all : place - 0 ≡ place = omega arith in
        IsPermutation-remove list place s (omega (arith, all, there.1))
        (sym (ap (λ n. get_or list n s) (sym all) ∙ there.2))

pub candidates_divide : {N S : Type 0} (p : Provider N S) (v : VersionSetId) →
    ((a b : S) → p.same_solvable a b ≡ true → a ≡ b)
    → ((list : List S) → IsPermutation list (p.answers.order list)) → CandidatesDivide p v
candidates_divide p v sameness permutes =
    let held = matching p.universe p.answers v in
    record {
      divided = divided p.same_solvable (p.answers.matches v) (p.answers.candidates (p.universe.set_name v));
      reordered = IsPermutation-trans _ _ _ (permutes held)
          (favored_permutes p.same_solvable sameness (p.answers.favored (p.universe.set_name v))
          (p.answers.order held));
    }
