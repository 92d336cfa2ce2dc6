use Rattle.debian_provider.proofs.Offered.{grown_itself, grown_twice}
use Rattle.debian_provider.proofs.archive.Archive.add_solvables.Goals as goal

pub loop-place-init : goal.loop-place-init
loop-place-init c = grown_itself c.args.self.now

pub loop-place-preserved : goal.loop-place-preserved
loop-place-preserved c = grown_twice c.args.self.now c.loop-place.self c.add_solvable_at.new.self c.loop-place.invariant
    c.in_ok-add_solvable_at.ensures
