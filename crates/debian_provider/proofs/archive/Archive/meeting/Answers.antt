use Rattle.std.proofs.Common.{◌∙◌}
use Rattle.debian_provider.proofs.Offered.{grown_itself, grown_twice}
use Rattle.debian_provider.proofs.Wider.{whole_by, wider_by, wider_twice}
use Rattle.debian_provider.proofs.archive.Archive.meeting.Goals as goal

pub loop-group-init : goal.loop-group-init
loop-group-init c = grown_itself c.args.self.now

pub loop-group-preserved : goal.loop-group-preserved
loop-group-preserved c = grown_twice c.args.self.now c.loop-group.self c.add_list.new.self c.loop-group.invariant
    c.in_ok-add_list.ensures

pub returns-clause-rules : goal.returns-clause-rules
returns-clause-rules c = c.in_ok-read_reached.ensures.wider.rules ∙ c.loop-group.invariant.rules

pub returns-clause-whole : goal.returns-clause-whole
returns-clause-whole c =
    whole_by c.args.self.now c.read_reached.new.self
    (wider_twice c.args.self.now c.loop-group.self c.read_reached.new.self
    (wider_by c.args.self.now c.loop-group.self c.loop-group.invariant) c.in_ok-read_reached.ensures.wider)
    c.in_ok-read_reached.ensures.closed
