use Rattle.std.proofs.Common.{◌∙◌, ap, map}
use Rattle.debian_provider.proofs.Words.{plain_name}
use Rattle.debian_provider.proofs.Offered.{grown_itself}
use Rattle.debian_provider.proofs.Wants.{asked_at}
use Rattle.debian_provider.proofs.Wider.{wider_by, wider_twice}
use Rattle.debian_provider.proofs.archive.Archive.add_requested.Goals as goal

pub loop-name-init : goal.loop-name-init
loop-name-init c = wider_by c.args.self.now c.args.self.now (grown_itself c.args.self.now)

pub loop-name-preserved : goal.loop-name-preserved
loop-name-preserved c =
    let so_far = c.loop-name.invariant in
    wider_twice c.args.self.now c.loop-name.self c.add_wanted.new.self so_far
    (c.in_ok-add_wanted.ensures (asked_at c.args.self.now.rules c.loop-name.self.rules so_far.rules
    c.deref-name-items.result.now (ap (map plain_name) c.deref-name-items.ensures.value ∙ c.in_ok-names.ensures)
    c.loop-name.name-index _ c.loop-name-test.true))
