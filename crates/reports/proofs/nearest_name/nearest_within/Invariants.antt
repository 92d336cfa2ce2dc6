use Rattle.std.proofs.Common.{◌≡◌, None}
use Rattle.reports.specs.Nearest.{nearest_within}
use Rattle.reports.proofs.nearest_name.nearest_within.Given as goal

abbrev pub invariant-loop-fewer : goal.invariant-loop-fewer
invariant-loop-fewer g l = nearest_within (g.P.DependencyProvider.answers l.provider) l.names l.fewer ≡ None
