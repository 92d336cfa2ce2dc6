use Rattle.std.proofs.Common.{◌≡◌, drop}
use Rattle.reports.specs.Nearest.{first_at}
use Rattle.reports.proofs.nearest_name.first_at.Given as goal

abbrev pub invariant-loop-other : goal.invariant-loop-other
invariant-loop-other g l =
    let answers = g.P.DependencyProvider.answers l.provider in
    first_at answers (drop l.other-index l.names) l.edits ≡ first_at answers l.names l.edits
