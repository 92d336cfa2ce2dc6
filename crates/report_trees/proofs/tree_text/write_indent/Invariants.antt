use Rattle.std.proofs.Common.{◌≡◌, ◌++◌, string_bytes}
use Rattle.report_trees.specs.TreeTexts.{indent}
use Rattle.report_trees.proofs.tree_text.write_indent.Given as goal

abbrev pub invariant-loop-left : goal.invariant-loop-left
invariant-loop-left g l = string_bytes l.text ++ indent l.left ≡ string_bytes l.fn.text ++ indent l.depth

abbrev pub decreases-loop-left : goal.decreases-loop-left
decreases-loop-left g l = l.left
