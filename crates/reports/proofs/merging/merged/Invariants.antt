use Rattle.std.proofs.Common.{take}
use Rattle.reports.specs.Lines.{AreTold}
use Rattle.reports.proofs.merging.merged.Given as goal

abbrev pub invariant-loop-reason : goal.invariant-loop-reason
invariant-loop-reason g l =
    AreTold (g.I.Interner.universe l.interner).solvable_name (take l.reason-index l.reasons) l.lines.items
