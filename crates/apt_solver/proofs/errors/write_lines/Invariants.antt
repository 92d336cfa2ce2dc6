use Rattle.std.proofs.Common.{◌≡◌, ◌++◌, drop}
use Rattle.apt_solver.specs.Errors.{lines_text}
use Rattle.apt_solver.proofs.errors.write_lines.Given as goal

abbrev pub invariant-loop-byte : goal.invariant-loop-byte
invariant-loop-byte l =
    l.said.items ++ lines_text (drop l.byte-index l.text) ≡ l.fn.said.items ++ lines_text l.text
