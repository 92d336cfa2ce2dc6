use Rattle.std.proofs.Common.{◌∙◌}
use Rattle.watch_map.proofs.StartLaws.{room_b, starts, started_rooms}
use Rattle.watch_map.proofs.lists.WatchMap.started.Goals as goal

pub put_first-next_of_second-requires : goal.put_first-next_of_second-requires
put_first-next_of_second-requires g c =
    room_b c.args.clause_id c.args.first c.args.second c.requires.two c.args.self.now c.put_first-next_of_first.new.self
    c.requires.room_second c.put_first-next_of_first.ensures.slots

pub returns-clause-starts : goal.returns-clause-starts
returns-clause-starts g c =
    starts c.args.clause_id c.args.first c.args.second c.requires.two c.args.self.now c.put_first-next_of_first.new.self
    c.requires.room_second c.put_first-next_of_first.ensures.slots c.put_first-next_of_first.ensures.first
    c.put_first-next_of_second.new.self c.put_first-next_of_second.ensures.first
    c.put_first-next_of_second.ensures.slots c.new.result c.new-2.result
    (c.new.ensures ∙ c.put_first-next_of_first.ensures.earlier)
    (c.new-2.ensures ∙ c.put_first-next_of_second.ensures.earlier)

pub returns-clause-rooms : goal.returns-clause-rooms
returns-clause-rooms g c =
    started_rooms c.args.clause_id c.args.first c.args.second c.requires.two c.args.self.now
    c.put_first-next_of_first.new.self
    c.requires.room_second c.put_first-next_of_first.ensures.slots c.put_first-next_of_first.ensures.first
    c.put_first-next_of_second.new.self c.put_first-next_of_second.ensures.first
    c.put_first-next_of_second.ensures.slots c.put_first-next_of_first.result c.put_first-next_of_second.result
    c.put_first-next_of_first.ensures.earlier c.put_first-next_of_second.ensures.earlier
