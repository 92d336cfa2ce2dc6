use Rattle.std.proofs.Common.{sym, subst}
use Rattle.watch_map.proofs.Words.{StartsAtEnd}
use Rattle.watch_map.proofs.ListLaws.{nothing_starts, something_starts}
use Rattle.watch_map.proofs.walks.started.Goals as goal

pub returns-in_err-first-clause-starts : goal.returns-in_err-first-clause-starts
returns-in_err-first-clause-starts g c =
    subst (λ o. StartsAtEnd c.args.map.now o c.args.id c.args.map.now) (sym c.from_residual.ensures)
    (nothing_starts c.args.map.now c.args.id)

pub returns-clause-starts : goal.returns-clause-starts
returns-clause-starts g c = something_starts c.args.map.now c.started.new.self c.started.result c.args.id
    c.started.ensures.starts
