use Rattle.apt_solver.proofs.Stays.{stays_itself, stays_twice}
use Rattle.apt_solver.proofs.recommending.Recommending.add.Goals as goal

pub loop-solvable-init : goal.loop-solvable-init
loop-solvable-init c = stays_itself c.args.archive.now

pub loop-solvable-preserved : goal.loop-solvable-preserved
loop-solvable-preserved c =
    stays_twice c.args.archive.now c.loop-solvable.archive c.add_one.new.archive c.loop-solvable.invariant
    c.in_ok-add_one.ensures
