use Rattle.std.proofs.Common.{◌∷◌, [], arith, length-append, refl}
use Rattle.decisions.proofs.TrailLemmas.{same_trail}
use Rattle.decisions.proofs.TrackerLemmas.{entries_of-push, IsTracked-push}
use Rattle.decisions.proofs.decision_tracker.DecisionTracker.push.Goals as goal

pub invariant_of-self-2 : goal.invariant_of-self-2
invariant_of-self-2 g c =
    let fields = c.self.inside in
    let undecided = rw (← c.self.view_is) at c.requires.undecided in
    let after = c.set.new.self in
    let set = c.in_ok-set.ensures.ok in
    let tracked = IsTracked-push fields.map after fields.stack.items c.args.decision c.args.level c.self.invariant.0 in
    let more = length-append fields.stack.items (c.args.decision ∷ []) in
    rw (c.push_reserved.ensures.items, c.make_room.ensures.items)
    (tracked undecided set c.requires.level, omega (arith, more), omega (arith, more))

pub returns-clause-ok : goal.returns-clause-ok
returns-clause-ok g c =
    let fields = c.self.inside in
    let undecided = rw (← c.self.view_is) at c.requires.undecided in
    let after = c.set.new.self in
    let set = c.in_ok-set.ensures.ok in
    let entries = entries_of-push fields.map after fields.stack.items c.args.decision c.args.level c.self.invariant.0 in
    rw (c.push_reserved.ensures.items, c.make_room.ensures.items, ← c.self.view_is)
    (same_trail (entries undecided set) refl refl)
