use Rattle.test_part_calls.proofs.FirstStays.{stands_still, place_still}
use Rattle.test_part_calls.proofs.interning.later_comes.Goals as goal

pub returns-clause-within : goal.returns-clause-within
returns-clause-within g c = place_still _ _ (g.met.K.Kind.lasts _ _ c.intern.ensures.later) _ c.requires.within

pub returns-clause-here : goal.returns-clause-here
returns-clause-here g c = stands_still _ _ (g.met.K.Kind.lasts _ _ c.intern.ensures.later) _ c.requires.within
