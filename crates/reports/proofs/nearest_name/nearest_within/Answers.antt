use Rattle.std.proofs.Common.{◌≡◌, is_some, rules, true}
use Rattle.reports.proofs.NearestLemmas.{is_nearest}
use Rattle.reports.proofs.nearest_name.nearest_within.Goals as goal

pub returns-then-is_some : goal.returns-then-is_some
returns-then-is_some g c =
    let some : is_some c.in_ok-found.found ≡ true = first_of (search rules, cc) in
    is_nearest (g.P.DependencyProvider.answers c.args.provider.now) c.args.names.now c.args.edits c.loop-fewer.fewer
    c.in_ok-found.found c.loop-fewer-test.true c.loop-fewer.invariant c.in_ok-found.ensures some
