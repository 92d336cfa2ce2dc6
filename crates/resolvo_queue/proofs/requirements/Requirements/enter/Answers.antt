use Rattle.std.proofs.Common.{map}
use Rattle.resolvo_queue.specs.Parts.{record_seen}
use Rattle.resolvo_queue.proofs.Clauses.Entries.{entered}
use Rattle.resolvo_queue.proofs.Clauses.Records.{no_place}
use Rattle.resolvo_queue.proofs.requirements.Requirements.enter.Goals as goal

pub add-requires : goal.add-requires
add-requires g c = rw (← c.self.view_is) (no_place (map record_seen c.self.inside.records.items) c.self.inside.places
    c.args.requirement c.self.invariant c.in-None.ensures)

pub returns-in-None-clause-place : goal.returns-in-None-clause-place
returns-in-None-clause-place g c =
    entered c.args.requirement c.args.self.now c.add.new.self c.add.result c.add.ensures.ok c.add.ensures.place
