use Rattle.apt_solver.proofs.Stays.{stays_by, stays_itself}
use Rattle.apt_solver.proofs.recommending.add_of.Goals as goal

pub returns : goal.returns
returns c =
    stays_by c.args.archive.now c.args.archive.now c.meeting.new.self (stays_itself c.args.archive.now)
    c.in_ok-meeting.ensures.rules c.in_ok-meeting.ensures.whole
