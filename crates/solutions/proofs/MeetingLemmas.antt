-- What a choice of solvables meets.
use Rattle.std.proofs.Common.{◌≡◌, ◌∙◌, ℕ, ◌<◌, Bool, true, false, not, List, Option, None, Some, length, refl, sym}
use Rattle.std.proofs.Common.{subst, true≢false}
use Rattle.std.proofs.Math.Path.{fun_ext}
use Rattle.solutions.proofs.Words.{All, AreEnough, ConditionalRequirement, IfPicked, is_among, is_respected}
use Rattle.solutions.proofs.Words.{IsOneVersion, IsOnlyOne, IsSatisfied, NoReasonSpare, option_map, others, Provider}
use Rattle.solutions.proofs.Words.{Reason, unwrap_or, VersionSetId}
use Rattle.solutions.proofs.EncodingLemmas.{of_picked}

not_true : (b : Bool) → not b ≡ true → b ≡ false
not_true true h = absurd (true≢false (sym h))
not_true false h = refl

module _ {N S : Type 0} (p : Provider N S) where
  -- if no reason is spare, the others aren't enough
  pub not_enough_without : (reasons : List (Reason N S)) → NoReasonSpare p reasons → (place : ℕ) →
      place < length reasons
      → AreEnough p (others place reasons) → ⊥
  not_enough_without reasons none place below enough =
      let choice = none place below in
      enough choice.0 choice.1

  -- a test that says which of the solvables are picked
  module _ (picked : List S) (has : S → Bool) (is : (s : S) → has s ≡ is_among p picked s) where
    pub need_met : (parent : Option S) (c : ConditionalRequirement) →
        (unwrap_or (option_map has parent) true ≡ true → IsSatisfied p has c)
        → IfPicked p picked parent (IsSatisfied p (is_among p picked) c)
    need_met None c met = subst (λ test. IsSatisfied p test c) (fun_ext is) (met refl)
    need_met (Some s) c met = λ among. subst (λ test. IsSatisfied p test c) (fun_ext is) (met (is s ∙ among))

    pub limit_met : (s : S) (set : VersionSetId) → (has s ≡ true → is_respected p has set ≡ true)
        → is_among p picked s ≡ true → is_respected p (is_among p picked) set ≡ true
    limit_met s set met = λ among. subst (λ test. is_respected p test set ≡ true) (fun_ext is) (met (is s ∙ among))

    pub unpicked : (s : S) → not (has s) ≡ true → is_among p picked s ≡ false
    unpicked s absent = sym (is s) ∙ not_true (has s) absent

  module _ (equal : (s t : S) → p.same_solvable s t ≡ true → s ≡ t) (picked : List S) where
    pub only_one : (s : S) → All (λ t. p.universe.solvable_name t ≡ p.universe.solvable_name s → t ≡ s) picked →
        IsOnlyOne p picked s
    only_one s all = λ t among. of_picked p equal (λ t. p.universe.solvable_name t ≡ p.universe.solvable_name s →
        t ≡ s) picked t all among

    pub no_version : (name : N) → All (λ t. p.universe.solvable_name t ≡ name → ⊥) picked → IsOneVersion p picked name
    no_version name none = λ s t among_s among_t named_s named_t.
        absurd (of_picked p equal (λ u. p.universe.solvable_name u ≡ name → ⊥) picked s none among_s named_s)
