-- What makes a text a report, and a graph.
use Rattle.std.proofs.Common.{◌≡◌, Bool, List, ap}
use Rattle.std.specs.declared.string.String.{String}
use Rattle.resolvo_pool.specs.Provider.{Answers, Universe}
use Rattle.resolvo_pool.specs.Texts.{IsAppended, IsContinuedBy, Texts}
use Rattle.reports.specs.Graphs.{IsGraph, graph_text, leads_to}
use Rattle.reports.specs.LineTexts.{text_of_line}
use Rattle.reports.specs.Lines.{AreTold}
use Rattle.reports.specs.Reports.{IsReport, lines_text, needed_by, says_of, text_with_names}
use Rattle.reports.specs.declared.line.Line.{Line}
use Rattle.solutions.specs.declared.reason.Reason.{Reason}

pub is_report : {N S A : Type 0} (universe : Universe N S) (texts : Texts N S) (same_name : N → N → Bool)
    (same : S → S → Bool) (answers : Answers N S) (names : List N) (reasons : List (Reason N S))
    (lines shown : List (Line N S A)) (old new : String A) → AreTold universe.solvable_name reasons lines →
    shown ≡ lines
    → IsAppended old new (lines_text (text_with_names universe texts same answers names) (needed_by universe)
    (says_of same_name universe) shown)
    → IsContinuedBy old new (IsReport A universe texts same_name same answers names reasons)
is_report universe texts same_name same answers names reasons lines shown old new told is written =
    let line = text_with_names universe texts same answers names in
    let text = lines_text line (needed_by universe) (says_of same_name universe) in
    (text shown, written, record { lines = lines; are_told = told; is = ap text is })

pub is_graph : {N S A : Type 0} (universe : Universe N S) (texts : Texts N S) (same_name : N → N → Bool)
    (same : S → S → Bool) (answers : Answers N S) (reasons : List (Reason N S)) (lines shown : List (Line N S A))
    (old new : String A) → AreTold universe.solvable_name reasons lines → shown ≡ lines
    → IsAppended old new (graph_text (text_of_line universe texts same answers) (leads_to same_name universe answers)
    shown)
    → IsContinuedBy old new (IsGraph A universe texts same_name same answers reasons)
is_graph universe texts same_name same answers reasons lines shown old new told is written =
    let text = graph_text (text_of_line universe texts same answers) (leads_to same_name universe answers) in
    (text shown, written, record { lines = lines; are_told = told; is = ap text is })
