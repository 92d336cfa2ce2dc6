use Rattle.std.proofs.Common.{ap, get_or, refl}
use Rattle.reports.proofs.LineLemmas.{joined_at}
use Rattle.reports.proofs.merging.join_at.Goals as goal

pub returns : goal.returns
returns g c =
    let lines = c.args.lines.now in
    let place = c.args.place in
    joined_at (g.I.Interner.universe c.args.interner.now).solvable_name lines _ place
    (get_or lines place c.index-lines-place.result) c.join.new.line c.args.reason c.in_ok-joins.joins c.requires
    (ap (get_or lines place) c.index-lines-place.is) refl c.in_ok-joins.ensures
