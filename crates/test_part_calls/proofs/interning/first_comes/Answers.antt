use Rattle.package_pool.proofs.InternedLemmas.{place_of_second}
use Rattle.test_part_calls.proofs.FirstStays.{first_here, place_here}
use Rattle.test_part_calls.proofs.interning.first_comes.Goals as goal

pub returns-clause-within : goal.returns-clause-within
returns-clause-within g c =
    place_here g.K.Kind.is_one (g.K.Kind.kept c.args.pool.now) _
    (g.K.Kind.entry c.args.first) _ c.in_ok-id.ensures.id c.in_ok-id.ensures.ok

pub returns-clause-here : goal.returns-clause-here
returns-clause-here g c =
    first_here g.K.Kind.is_one (g.K.Kind.kept c.args.pool.now) _
    (g.K.Kind.entry c.args.first) _ c.in_ok-id.ensures.id c.in_ok-id.ensures.ok

pub returns-clause-again : goal.returns-clause-again
returns-clause-again g c =
    rw (c.in_ok-id.ensures.ok, c.in_ok-id.ensures.id)
    (place_of_second g.K.Kind.is_one g.met.K.Kind.laws (g.K.Kind.entry c.args.first)
    (g.K.Kind.entry c.args.second.now) c.requires.one (g.K.Kind.kept c.args.pool.now))

pub returns-clause-second : goal.returns-clause-second
returns-clause-second g c = g.met.K.Kind.may_still _ _ c.intern.ensures.later c.args.second.now c.requires.second

pub returns-clause-later : goal.returns-clause-later
returns-clause-later g c = g.met.L.Kind.may_still _ _ c.intern.ensures.later c.args.later.now c.requires.later
