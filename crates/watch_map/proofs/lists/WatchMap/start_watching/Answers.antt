use Rattle.std.proofs.Common.{slice_index_or}
use Rattle.watch_map.proofs.StartLaws.{are_apart, starts_since, uses_room_since}
use Rattle.watch_map.proofs.lists.WatchMap.start_watching.Goals as goal

pub started-requires-clause-two : goal.started-requires-clause-two
started-requires-clause-two g c =
    are_apart c.args.clause.now.watched_literals c.requires c.index-clause-0.result c.index-clause-1.result

pub started-requires-clause-room_first : goal.started-requires-clause-room_first
started-requires-clause-room_first g c =
    c.in_ok-make_room-2.ensures.rooms (slice_index_or c.args.clause.now.watched_literals 0 c.index-clause-0.result) 1
    c.in_ok-make_room.ensures.room

pub returns-clause-ok : goal.returns-clause-ok
returns-clause-ok g c =
    starts_since c.args.self.now c.make_room.new.self c.make_room-2.new.self c.started.new.self c.started.result
    c.args.clause_id c.in_ok-make_room.ensures.lists c.in_ok-make_room-2.ensures.lists c.started.ensures.starts

pub returns-clause-ok_rooms : goal.returns-clause-ok_rooms
returns-clause-ok_rooms g c =
    uses_room_since c.args.self.now c.make_room.new.self c.make_room-2.new.self c.started.new.self
    c.args.clause.now.watched_literals c.in_ok-make_room.ensures.rooms c.in_ok-make_room-2.ensures.rooms
    (c.started.ensures.rooms c.args.clause.now.watched_literals)
