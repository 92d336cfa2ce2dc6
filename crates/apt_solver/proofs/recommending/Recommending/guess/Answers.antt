use Rattle.apt_solver.proofs.Stays.{stays_itself, stays_twice}
use Rattle.apt_solver.proofs.recommending.Recommending.guess.Goals as goal

pub loop-place-init : goal.loop-place-init
loop-place-init c = stays_itself c.args.archive.now

pub loop-place-preserved : goal.loop-place-preserved
loop-place-preserved c =
    stays_twice c.args.archive.now c.loop-place.archive c.follow.new.archive c.loop-place.invariant
    c.in_ok-follow.ensures
