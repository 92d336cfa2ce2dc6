use Rattle.std.proofs.Common.{sym, ◌∙◌}
use Rattle.at_most_once.proofs.CallerLaws.{encodes_more}
use Rattle.at_most_once.proofs.tracker.AtMostOnceTracker.add.Goals as goal

pub returns-clause-at_most_one : goal.returns-clause-at_most_one
returns-clause-at_most_one g c =
    encodes_more g.V.PartialEq.eq g.met.V.Eq.laws c.args.self.now.tracker c.make_room.new.self.tracker
    c.add_reserved.new.self.tracker
    c.args.clauses.now.items c.append_new.new.clauses.items c.args.helper c.args.variable (sym c.is_tracked.ensures
    ∙ c.if-is_tracked.false)
    c.make_room.ensures.same c.add_reserved.ensures c.in_ok-append_new.ensures.ok
