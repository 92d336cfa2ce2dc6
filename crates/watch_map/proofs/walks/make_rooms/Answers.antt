use Rattle.std.proofs.Common.{length}
use Rattle.watch_map.proofs.LargestLaws.{rooms_for_all}
use Rattle.watch_map.proofs.walks.make_rooms.Goals as goal

pub returns-clause-room : goal.returns-clause-room
returns-clause-room g c =
    rooms_for_all c.make_room_many.result c.make_room_many.new.self c.new.result (length c.args.clauses.now)
    c.largest_variable-largest.result c.args.clauses.now c.new.ensures c.largest_variable-largest.ensures
    c.make_room_many.ensures.room
