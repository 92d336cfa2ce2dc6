use Rattle.std.specs.Prelude.{◌≡◌, [], ◌∷◌, ◌++◌}
use Rattle.std.proofs.Common.{sym}
use Rattle.decisions.proofs.TrackerLemmas.{length-entries_of, entries_of-pop, IsTracked-pop, popped_is_last}
use Rattle.decisions.proofs.decision_tracker.drop_newest.Given as given
use Rattle.decisions.proofs.decision_tracker.drop_newest.Goals as goal

-- the decision that is read is the one that is popped
popped : (g : given.Over) (c : goal.After-pop g)
    → c.args.stack.now.items ≡ c.pop.new.self.items ++ c.in-Some.decision.now ∷ []
popped g c =
    let stack = c.args.stack.now in
    let newest = rw c.deref.ensures.value at c.in-Some.ensures.value in
    popped_is_last stack.items c.pop.new.self.items stack.len c.pop.result c.in-Some.decision.now stack.ok.0
    (sym newest)
    (c.pop.ensures.value c.in-Some.decision.now) c.pop.ensures.items

pub returns-in-Some-clause-tracked : goal.returns-in-Some-clause-tracked
returns-in-Some-clause-tracked g c =
    let tracked = rw (popped g c) at c.requires.tracked in
    IsTracked-pop c.args.map.now c.reset.new.self c.pop.new.self.items c.in-Some.decision.now tracked c.reset.ensures

pub returns-in-Some-clause-entries : goal.returns-in-Some-clause-entries
returns-in-Some-clause-entries g c =
    let tracked = rw (popped g c) at c.requires.tracked in
    let rest = c.pop.new.self.items in
    let left = entries_of-pop c.args.map.now c.reset.new.self rest c.in-Some.decision.now tracked c.reset.ensures in
    rw (← length-entries_of c.args.map.now c.args.stack.now.items, popped g c) left
