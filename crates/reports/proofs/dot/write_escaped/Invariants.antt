use Rattle.std.proofs.Common.{◌≡◌, ◌++◌, drop, length, string_bytes}
use Rattle.std.specs.Str.{chars}
use Rattle.reports.specs.Graphs.{escaped}
use Rattle.reports.proofs.dot.write_escaped.Given as goal

abbrev pub invariant-loop-letter : goal.invariant-loop-letter
invariant-loop-letter g l =
    string_bytes l.text ++ escaped (drop (length l.yielded) (chars l.label))
    ≡ string_bytes l.fn.text ++ escaped (chars l.label)
