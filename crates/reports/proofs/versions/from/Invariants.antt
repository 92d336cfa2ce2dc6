use Rattle.std.proofs.Common.{◌≡◌, drop}
use Rattle.reports.specs.Versions.{from}
use Rattle.reports.proofs.versions.from.Given as goal

abbrev pub invariant-loop-place : goal.invariant-loop-place
invariant-loop-place g l =
    from g.S.PartialEq.eq l.solvable (drop l.place l.solvables) ≡ from g.S.PartialEq.eq l.solvable l.solvables
