use Rattle.std.proofs.Common.{◌≡◌, ◌++◌, drop, false, string_bytes}
use Rattle.report_trees.specs.Growing.{lists}
use Rattle.report_trees.specs.TreeTexts.{text_of_references}
use Rattle.report_trees.proofs.tree_text.write_references.Given as goal

abbrev pub invariant-loop-to : goal.invariant-loop-to
invariant-loop-to g l =
    let others = text_of_references (lists l.edges) l.from in
    string_bytes l.text ++ others l.begun (drop l.to-index l.rows) ≡ string_bytes l.fn.text ++ others false l.rows
