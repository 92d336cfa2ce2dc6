use Rattle.debian_provider.proofs.Words.{IsWider}
use Rattle.debian_provider.proofs.Offered.{on_ok}
use Rattle.debian_provider.proofs.Wider.{wider_twice}
use Rattle.debian_provider.proofs.archive.Archive.fill.Goals as goal

pub returns-clause-wider : goal.returns-clause-wider
returns-clause-wider c =
    let first = c.add_requested.new.self in
    let second = c.add_installed.new.self in
    let last = c.read_reached.new.self in
    on_ok c.read_reached.result (IsWider second last) (IsWider c.args.self.now last)
    (wider_twice c.args.self.now second last (wider_twice c.args.self.now first second c.in_ok-add_requested.ensures
    c.in_ok-add_installed.ensures)) c.read_reached.ensures.wider
