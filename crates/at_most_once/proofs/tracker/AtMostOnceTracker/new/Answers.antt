use Rattle.std.proofs.Common.{[]}
use Rattle.at_most_once.specs.AtMostOne.{none}
use Rattle.at_most_once.proofs.CallerLaws.{encodes}
use Rattle.at_most_once.proofs.tracker.AtMostOnceTracker.new.Goals as goal

pub returns-clause-at_most_one : goal.returns-clause-at_most_one
returns-clause-at_most_one g c =
    encodes g.V.PartialEq.eq g.met.V.Eq.laws (record {
      variables = c.new.result.keys;
      helpers =
          c.new-2.result.items;
    }) []
    (rw (c.new.ensures.empty, c.new-2.ensures.items) none)
