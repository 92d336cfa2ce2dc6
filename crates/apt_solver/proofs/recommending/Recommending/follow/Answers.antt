use Rattle.std.proofs.lemmas.Result.{IfOk-weaker}
use Rattle.apt_solver.proofs.Stays.{stays_by, stays_twice}
use Rattle.apt_solver.proofs.recommending.Recommending.follow.Goals as goal

pub loop-field-preserved : goal.loop-field-preserved
loop-field-preserved c =
    stays_by c.args.archive.now c.loop-field.archive c.meeting.new.self c.loop-field.invariant
    c.in_ok-meeting.ensures.rules c.in_ok-meeting.ensures.whole

pub returns : goal.returns
returns c =
    IfOk-weaker c.add_recommended.result _ _
    (λ _ last. stays_twice c.args.archive.now c.loop-field.archive c.add_recommended.new.archive c.loop-field.invariant
    last) c.add_recommended.ensures
