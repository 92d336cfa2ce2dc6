-- What is answered of conjuncts; and where the answers are those of a test, it is what the definition says.
use Rattle.std.proofs.Common.{◌≡◌, ℕ, zero, suc, ◌<◌, Bool, true, false, List, [], ◌∷◌, length, MatchBool, refl, sym}
use Rattle.std.proofs.Common.{ap, ◌∙◌, arith}
use Rattle.std.specs.Prelude.{Any, slice_index_or}
use Rattle.std.specs.List.{list_any, AllWithin, HoldsAt}
use Rattle.std.proofs.lemmas.List.Elements.{All-from_all_within}
use Rattle.std.proofs.lemmas.List.Folds.{list_any-from_Any, list_any_none, list_all_at}
use Rattle.std.proofs.lemmas.List.Sums.{list_all-from_AllPass}
use Rattle.providers.specs.declared.deferred.DeferredConjunct.{DeferredConjunct}
use Rattle.providers.specs.Deferred.{candidates_of, HasAnswer, HoldsBy, disjunct_holds}

Any-at : {X : Type 0} (P : X → Type 0) (xs : List X) (k : ℕ) → k < length xs → HoldsAt P xs k → Any P xs
Any-at P [] k within at = absurd (omega arith)
Any-at P (x ∷ xs) zero within at = (0, x, within, refl, at x)
Any-at P (x ∷ xs) (suc k) within at = let some = Any-at P xs k (omega arith) at in
    (suc some.0, some.1, omega (arith, some.2), some.3, some.4)

module _ {S : Type 0} (answers : S → Bool → Type 0) where
  -- the cases of `all`
  pub holds_by_cases : {A : Type 0} (conjuncts : List (DeferredConjunct S A)) (b : Bool) →
      MatchBool b (AllWithin (λ c. HasAnswer answers (candidates_of c) true) conjuncts 0 (length conjuncts))
      ((k : ℕ) × (k < length conjuncts) × HoldsAt (λ c. HasAnswer answers (candidates_of c) false) conjuncts k) →
      HoldsBy answers conjuncts b
  holds_by_cases {A} conjuncts true each =
      All-from_all_within (λ c. HasAnswer answers (candidates_of c) true) conjuncts each
  holds_by_cases {A} conjuncts false (k, within, at) =
      Any-at (λ c. HasAnswer answers (candidates_of c) false) conjuncts k within at

  module _ (test : S → Bool) (says : (s : S) (b : Bool) → answers s b → b ≡ test s) where
    has_answer : (candidates : List S) (b : Bool) → HasAnswer answers candidates b → list_any test candidates ≡ b
    has_answer candidates true (k, s, within, at, allowed) =
        list_any-from_Any test candidates (k, s, within, at, sym (says s true allowed))
    has_answer candidates false none =
        list_any_none test candidates (λ k d within. sym (says _ false (none k d within)))

    pub holds_by_test : {A : Type 0} (conjuncts : List (DeferredConjunct S A)) (b : Bool) →
        HoldsBy answers conjuncts b → b ≡ disjunct_holds test conjuncts
    holds_by_test {A} conjuncts true each =
        sym (list_all-from_AllPass (λ c. list_any test (candidates_of c)) conjuncts
        (λ k d within. has_answer (candidates_of (slice_index_or conjuncts k d)) true (each k d within)))
    holds_by_test {A} conjuncts false (k, c, within, at, none) =
        sym (list_all_at (λ c. list_any test (candidates_of c)) conjuncts k c within
        (ap (λ x. list_any test (candidates_of x)) at ∙ has_answer (candidates_of c) false none))
