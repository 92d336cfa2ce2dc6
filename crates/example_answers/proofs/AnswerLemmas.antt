-- What follows from what a search answers.
use Rattle.std.proofs.Common.{◌≡◌, ◌∙◌, ℕ, List, [], ◌++◌, codes, length, vec_len, ap, subst, append_assoc}
use Rattle.std.proofs.lemmas.List.{length-map}
use Rattle.example_answers.proofs.Words.{Answer, best_line, Choice, ConditionalRequirement, FindsNone, GivesEnough}
use Rattle.example_answers.proofs.Words.{GivesSo, header, IsPicked, IsRefuted, lines_of, newest, PicksBest, PicksNeeded}
use Rattle.example_answers.proofs.Words.{PicksNoneSpare, PicksRanked, PicksSolution, Provider, rank, Reason, Refutation}
use Rattle.example_answers.proofs.Words.{SaysNoSolution, SaysSolution, text_of_reason, Texts}
use Rattle.picking.specs.declared.finding.Answer.TheVariants as Search

-- three texts, each behind the one before
pub in_turn : (a b c text-0 text-1 text-2 text-3 : List ℕ) → text-0 ≡ [] → text-1 ≡ text-0 ++ a → text-2 ≡ text-1 ++ b
    → text-3 ≡ text-2 ++ c → text-3 ≡ a ++ (b ++ c)
in_turn a b c text-0 text-1 text-2 text-3 none first second third =
    third ∙ ap (λ t. t ++ c) (second ∙ ap (λ t. t ++ b) (first ∙ ap (λ t. t ++ a) none)) ∙ append_assoc a b c

module _ {N S A : Type 0} (p : Provider N S) (requested : List ConditionalRequirement) (answer : Answer N S A)
    (choice : Choice S A) (is : answer ≡ Search.Picked choice) where
  -- what a search promises of what it picks
  pub picked_is : PicksSolution p requested answer → PicksBest p requested (newest p requested) answer
      → PicksNeeded p requested (newest p requested) answer → PicksNoneSpare p requested (newest p requested) answer
      → IsPicked p requested choice.solvables.items choice.best_up_to
  picked_is solution best needed none_spare = record {
    solution = subst (λ a. PicksSolution p requested a) is solution;
    best = subst (λ a. PicksBest p requested (newest p requested) a) is best;
    needed = subst (λ a. PicksNeeded p requested (newest p requested) a) is needed;
    none_spare = subst (λ a. PicksNoneSpare p requested (newest p requested) a) is none_spare;
  }

  -- there is a rank for each wish
  pub as_many_ranks : PicksRanked p (newest p requested) answer → vec_len choice.ranks ≡ length (newest p requested)
  as_many_ranks ranks =
      choice.ranks.ok.0 ∙ ap length (subst (λ a. PicksRanked p (newest p requested) a) is ranks)
      ∙ length-map (newest p requested) (rank p choice.solvables.items)

-- the text of what is picked
pub says_solution : {N S : Type 0} (p : Provider N S) (texts : Texts N S) (requested : List ConditionalRequirement)
    (picked shown : List S) (best_up_to wishes : ℕ) (text-0 text-1 text-2 text-3 : List ℕ)
    → IsPicked p requested picked best_up_to → wishes ≡ length (newest p requested) → shown ≡ picked
    → text-0 ≡ [] → text-1 ≡ text-0 ++ header → text-2 ≡ text-1 ++ lines_of texts.solvable shown
    → text-3 ≡ text-2 ++ best_line best_up_to wishes → SaysSolution p texts requested text-3
says_solution p texts requested picked shown best_up_to wishes text-0 text-1 text-2 text-3 is_picked all same none first
    second third =
    record {
      picked = picked;
      best_up_to = best_up_to;
      is_picked = is_picked;
      is = in_turn header (lines_of texts.solvable picked) (best_line best_up_to (length (newest p requested)))
          text-0 text-1 text-2 text-3 none first (second ∙ ap (λ s. text-1 ++ lines_of texts.solvable s) same)
          (third ∙ ap (λ n. text-2 ++ best_line best_up_to n) all);
    }

-- what a search promises of its reasons
pub refuted_is : {N S A : Type 0} (p : Provider N S) (requested : List ConditionalRequirement)
    (answer : Answer N S A) (refutation : Refutation N S A) → answer ≡ Search.Unsolvable refutation
    → FindsNone p requested answer → GivesSo p requested answer → GivesEnough p answer
    → IsRefuted p requested refutation.reasons.items
refuted_is p requested answer refutation is none so enough = record {
  none = subst (λ a. FindsNone p requested a) is none;
  are_so = subst (λ a. GivesSo p requested a) is so;
  are_enough = subst (λ a. GivesEnough p a) is enough;
}

-- the text of why there is no solution
pub says_no_solution : {N S : Type 0} (p : Provider N S) (texts : Texts N S) (requested : List ConditionalRequirement)
    (reasons shown : List (Reason N S)) (text-0 text-1 text-2 text-3 : List ℕ) → IsRefuted p requested reasons
    → shown ≡ reasons → text-0 ≡ [] → text-1 ≡ text-0 ++ header → text-2 ≡ text-1 ++ codes "none\n"
    → text-3 ≡ text-2 ++ lines_of (text_of_reason p.universe texts) shown → SaysNoSolution p texts requested text-3
says_no_solution p texts requested reasons shown text-0 text-1 text-2 text-3 is_refuted same none first second third =
    record {
      reasons = reasons;
      is_refuted = is_refuted;
      is = in_turn header (codes "none\n") (lines_of (text_of_reason p.universe texts) reasons) text-0 text-1 text-2
          text-3 none first second (third ∙ ap (λ r. text-2 ++ lines_of (text_of_reason p.universe texts) r) same);
    }
