use Rattle.debian_provider.proofs.Offered.{grown_itself}
use Rattle.debian_provider.proofs.Wider.{wider_by, wider_read}
use Rattle.debian_provider.proofs.archive.Archive.read_next.Goals as goal

pub returns-in_default : goal.returns-in_default
returns-in_default c = wider_by c.args.self.now c.args.self.now (grown_itself c.args.self.now)

pub returns : goal.returns
returns c =
    wider_read c.args.self.now c.read_needs.new.self c.in_ok-needs.ensures.grown _ c.in_ok-needs.needs
    c.in_ok-push.ensures.items c.in-Some.one.now c.in-Some.ensures c.in_ok-needs.ensures.needs
