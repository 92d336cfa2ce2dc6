use Rattle.test_part_calls.proofs.FirstStays.{stands_still, place_still}
use Rattle.test_part_calls.proofs.interning.second_comes.Goals as goal

pub returns-clause-same : goal.returns-clause-same
returns-clause-same g c = g.met.K.Kind.same_id c.args.id c.in_ok-again.again
    (cc (c.in_ok-again.ensures.id, c.requires.again))

pub returns-clause-within : goal.returns-clause-within
returns-clause-within g c = place_still _ _ (g.met.K.Kind.lasts _ _ c.intern.ensures.later) _ c.requires.within

pub returns-clause-here : goal.returns-clause-here
returns-clause-here g c = stands_still _ _ (g.met.K.Kind.lasts _ _ c.intern.ensures.later) _ c.requires.within

pub returns-clause-later : goal.returns-clause-later
returns-clause-later g c = g.met.L.Kind.may_still _ _ c.intern.ensures.later c.args.later.now c.requires.later
