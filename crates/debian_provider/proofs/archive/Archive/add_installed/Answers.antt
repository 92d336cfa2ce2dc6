use Rattle.debian_provider.proofs.Offered.{grown_itself}
use Rattle.debian_provider.proofs.Wants.{package_within}
use Rattle.debian_provider.proofs.Wider.{wider_by, wider_twice}
use Rattle.debian_provider.proofs.archive.Archive.add_installed.Goals as goal

pub loop-one-init : goal.loop-one-init
loop-one-init c = wider_by c.args.self.now c.args.self.now (grown_itself c.args.self.now)

pub loop-one-preserved : goal.loop-one-preserved
loop-one-preserved c =
    let so_far = c.loop-one.invariant in
    wider_twice c.args.self.now c.loop-one.self c.add_if_installed.new.self so_far
    (c.in_ok-add_if_installed.ensures (package_within c.args.self.now.rules c.loop-one.self.rules so_far.rules
    c.loop-one.one-index _ c.loop-one-test.true))
