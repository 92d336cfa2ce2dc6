use Rattle.debian_provider.proofs.Offered.{grown_itself, grown_twice}
use Rattle.debian_provider.proofs.archive.Archive.solvables_meeting.Goals as goal

pub loop-part-init : goal.loop-part-init
loop-part-init c = grown_itself c.args.self.now

pub loop-part-preserved : goal.loop-part-preserved
loop-part-preserved c = grown_twice c.args.self.now c.loop-part.self c.add_solvables_of.new.self c.loop-part.invariant
    c.in_ok-add_solvables_of.ensures
