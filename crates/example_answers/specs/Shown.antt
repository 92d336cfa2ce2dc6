-- Why an index has no solution, as a graph. N are the names, S the solvables, A the allocators.
use Rattle.std.specs.Prelude.{ℕ, List}
use Rattle.std.specs.declared.alloc.Global.{Global}
use Rattle.index_text.specs.Index.{index_of}
use Rattle.index_text.specs.Indexes.{NumberedWords}
use Rattle.reports.specs.Graphs.{IsGraph}
use Rattle.resolvo_pool.specs.Functions.{Provider}
use Rattle.resolvo_pool.specs.Texts.{Texts}
use Rattle.resolvo_pool.specs.Types.ConditionalRequirement.{ConditionalRequirement}
use Rattle.solutions.specs.declared.reason.Reason.{Reason}
use Rattle.example_index.specs.declared.index.SmallIndex.{SmallIndex}
use Rattle.example_answers.specs.Answers.{IsRefuted, OfIndex}

-- a graph of reasons for which there is no solution
pub record ShowsNoSolution {N S : Type 0} (A : Type 0) (p : Provider N S) (texts : Texts N S)
    (requested : List ConditionalRequirement) (graph : List ℕ) : Type 0 where
  pub reasons : List (Reason N S)
  pub is_refuted : IsRefuted p requested reasons
  pub is_graph : IsGraph A p.universe texts p.same_name p.same_solvable p.answers reasons graph

-- the same of the index of these lines
abbrev pub ShowsLines : {N S : Type 0} → (SmallIndex → Provider N S) → (SmallIndex → Texts N S) → List NumberedWords
    → List ℕ → Type 0
ShowsLines functions texts lines graph =
    OfIndex (λ index. ShowsNoSolution Global (functions index) (texts index) index.request.items graph) (index_of lines)
