use Rattle.std.proofs.Common.{◌≡◌, ◌++◌, drop, map, string_bytes}
use Rattle.report_trees.specs.Growing.{lists}
use Rattle.report_trees.specs.TreeTexts.{text_of_all, text_of_rows}
use Rattle.report_trees.proofs.tree_text.write_rows.Given as goal

abbrev pub invariant-loop-row : goal.invariant-loop-row
invariant-loop-row g l =
    let said = map string_bytes l.texts in
    string_bytes l.text ++ text_of_rows (lists l.edges) said l.rows (drop l.row-index l.rows)
    ≡ string_bytes l.fn.text ++ text_of_all (lists l.edges) said l.rows
