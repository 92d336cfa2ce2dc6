use Rattle.std.proofs.Common.{map}
use Rattle.resolvo_queue.specs.Parts.{record_seen}
use Rattle.resolvo_queue.proofs.Clauses.Records.{no_place, one_place}
use Rattle.resolvo_queue.proofs.requirements.Requirements.place.Goals as goal

pub returns-in-None-clause-place : goal.returns-in-None-clause-place
returns-in-None-clause-place g c =
    rw (← c.self.view_is) (no_place (map record_seen c.self.inside.records.items) c.self.inside.places
    c.args.requirement c.self.invariant c.in-None.ensures)

pub returns-in-Some-clause-only : goal.returns-in-Some-clause-only
returns-in-Some-clause-only g c =
    rw (← c.self.view_is) (one_place (map record_seen c.self.inside.records.items) c.self.inside.places
    c.args.requirement c.self.invariant _ c.in-Some.ensures)
