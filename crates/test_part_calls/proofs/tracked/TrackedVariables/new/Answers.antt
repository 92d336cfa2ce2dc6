use Rattle.test_part_calls.proofs.tracked.TrackedVariables.new.Goals as goal

pub invariant_of-result : goal.invariant_of-result
invariant_of-result g c = rw c.new-2.ensures.items c.new.ensures.at_most_one
