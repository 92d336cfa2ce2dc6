-- What makes a text a report as a tree.
use Rattle.std.proofs.Common.{◌≡◌, ◌<◌, ◌≤◌, Bool, List, arith, length, map, subst}
use Rattle.std.specs.declared.string.String.{String}
use Rattle.resolvo_pool.specs.Provider.{Answers, Universe}
use Rattle.resolvo_pool.specs.Texts.{IsContinuedBy, Texts}
use Rattle.report_trees.specs.Forests.{edges_of}
use Rattle.report_trees.specs.TreeTexts.{IsTree}
use Rattle.report_trees.specs.Trees.{IsTreeOrReport}
use Rattle.reports.specs.Graphs.{leads_to}
use Rattle.reports.specs.Lines.{AreTold}
use Rattle.reports.specs.Reports.{text_with_names}
use Rattle.reports.specs.declared.line.Line.{Line}
use Rattle.solutions.specs.declared.reason.Reason.{Reason}

pub tree_of_few : {N S A : Type 0} (universe : Universe N S) (texts : Texts N S) (same_name : N → N → Bool)
    (same : S → S → Bool) (answers : Answers N S) (names : List N) (reasons : List (Reason N S))
    (lines shown : List (Line N S A)) (old new : String A) → AreTold universe.solvable_name reasons lines
    → shown ≡ lines → length lines ≤ 20
    → IsContinuedBy old new (IsTree (edges_of (leads_to same_name universe answers) shown)
    (map (text_with_names universe texts same answers names) shown))
    → IsContinuedBy old new (IsTreeOrReport A universe texts same_name same answers names reasons)
tree_of_few {N} {S} {A} universe texts same_name same answers names reasons lines shown old new told is few written =
    let P : List (Line N S A) → Type 0 = λ ls. IsTree (edges_of (leads_to same_name universe answers) ls)
    (map (text_with_names universe texts same answers names) ls) written.0 in (
      written.0,
      written.1,
      record {
        lines = lines;
        are_told = told;
        tree = λ (few : length lines ≤ 20). subst P is written.2;
        report = λ (more : 20 < length lines). absurd (omega arith);
      },
    )
