use Rattle.apt_solver.proofs.Known.{add_known}
use Rattle.apt_solver.proofs.ordering.add_at.Goals as goal

pub returns : goal.returns
returns c =
    let got = c.in-Some.ensures.lookup in
    add_known c.args.packages.now c.args.there.now.items _ c.args.place c.in-Some.version.now c.requires got.3.0 got.1
    c.in_ok-push.ensures.items
