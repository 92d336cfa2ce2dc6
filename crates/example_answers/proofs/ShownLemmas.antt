-- What follows from what a search answers, for a graph.
use Rattle.std.proofs.Common.{◌≡◌, ℕ, List, Result, Ok, Err, refl, subst}
use Rattle.example_answers.proofs.Words.{AreRead, ConditionalRequirement, Global, IndexText, IsGraph, IsRefuted}
use Rattle.example_answers.proofs.Words.{OfIndex, Provider, Reason, ShowsNoSolution, SmallIndex, Texts}
use Rattle.example_answers.proofs.IndexLemmas.{IsSaid}

-- a graph of the reasons shows that there is no solution
pub shows_none : {N S : Type 0} (A : Type 0) (p : Provider N S) (texts : Texts N S)
    (requested : List ConditionalRequirement) (reasons shown : List (Reason N S)) (graph : List ℕ)
    → IsRefuted p requested reasons → shown ≡ reasons
    → IsGraph A p.universe texts p.same_name p.same_solvable p.answers shown graph
    → ShowsNoSolution A p texts requested graph
shows_none A p texts requested reasons shown graph is_refuted same is_graph = record {
  reasons = reasons;
  is_refuted = is_refuted;
  is_graph = subst (λ r. IsGraph A p.universe texts p.same_name p.same_solvable p.answers r graph) same is_graph;
}

-- what shows that of the index that was read shows it of what its lines say
pub shown_of_read : {N S : Type 0} (functions : SmallIndex → Provider N S) (texts : SmallIndex → Texts N S)
    (said : Result IndexText ℕ) (index : SmallIndex) (requested : List ConditionalRequirement) (graph : List ℕ)
    → AreRead IsSaid said (Ok index) → requested ≡ index.request.items
    → ShowsNoSolution Global (functions index) (texts index) requested graph
    → OfIndex (λ i. ShowsNoSolution Global (functions i) (texts i) i.request.items graph) said
shown_of_read functions texts (Ok meant) index requested graph read same shows = record {
  meant = meant;
  index = index;
  says_index = refl;
  is_index = read;
  says = subst (λ r. ShowsNoSolution Global (functions index) (texts index) r graph) same shows;
}
shown_of_read functions texts (Err number) index requested graph read same shows = absurd read
