use Rattle.std.proofs.lemmas.Result.{IfOk-weaker}
use Rattle.apt_solver.proofs.Stays.{stays_by, stays_itself, stays_twice}
use Rattle.apt_solver.proofs.recommending.add_recommended.Goals as goal

pub returns : goal.returns
returns c =
    let start = c.args.archive.now in
    let met = stays_by start start c.meeting.new.self (stays_itself start) c.in_ok-meeting.ensures.rules
    c.in_ok-meeting.ensures.whole in
    IfOk-weaker c.add_of.result _ _ (λ _ last. stays_twice start c.meeting.new.self c.add_of.new.archive met last)
    c.add_of.ensures
