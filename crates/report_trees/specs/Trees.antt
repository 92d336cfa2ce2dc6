-- Reports as trees. N are the names, S the solvables.
use Rattle.std.specs.Prelude.{◌<◌, ◌≤◌, ℕ, Bool, List, length, map}
use Rattle.resolvo_pool.specs.Provider.{Answers, Universe}
use Rattle.resolvo_pool.specs.Texts.{Texts}
use Rattle.report_trees.specs.Forests.{edges_of}
use Rattle.report_trees.specs.TreeTexts.{IsTree}
use Rattle.reports.specs.Graphs.{leads_to}
use Rattle.reports.specs.Lines.{AreTold}
use Rattle.reports.specs.Reports.{IsReport, text_with_names}
use Rattle.reports.specs.declared.line.Line.{Line}
use Rattle.solutions.specs.declared.reason.Reason.{Reason}

-- a text that tells these reasons, each once: as a tree if there are at most twenty lines, and else in lines
pub record IsTreeOrReport {N S : Type 0} (A : Type 0) (universe : Universe N S) (texts : Texts N S)
    (same_name : N → N → Bool) (same : S → S → Bool) (answers : Answers N S) (names : List N)
    (reasons : List (Reason N S)) (text : List ℕ) : Type 0 where
  pub lines : List (Line N S A)
  pub are_told : AreTold universe.solvable_name reasons lines
  pub tree : length lines ≤ 20 → IsTree (edges_of (leads_to same_name universe answers) lines)
      (map (text_with_names universe texts same answers names) lines) text
  pub report : 20 < length lines → IsReport A universe texts same_name same answers names reasons text
