use Rattle.debian_provider.proofs.Offered.{grown_itself}
use Rattle.debian_provider.proofs.Wider.{wider_by, wider_twice}
use Rattle.debian_provider.proofs.archive.Archive.read_on.Goals as goal

pub loop-init : goal.loop-init
loop-init c = wider_by c.args.self.now c.args.self.now (grown_itself c.args.self.now)

pub loop-preserved : goal.loop-preserved
loop-preserved c =
    wider_twice c.args.self.now c.loop.self c.read_next.new.self c.loop.invariant c.in_ok-read_next.ensures

pub returns-then-not-branch : goal.returns-then-not-branch
returns-then-not-branch c =
    wider_twice c.args.self.now c.loop.self c.read_next.new.self c.loop.invariant c.in_ok-read_next.ensures
