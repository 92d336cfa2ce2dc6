use Rattle.std.proofs.Common.{[], ◌∷◌}
use Rattle.watch_map.proofs.StartLaws.{uses_room}
use Rattle.watch_map.proofs.cursor.WatchMapCursor.update.Goals as goal

pub returns-clause-ok_rooms : goal.returns-clause-ok_rooms
returns-clause-ok_rooms g c =
    uses_room (c.args.new_watch ∷ []) c.args.map.now c.make_room.new.self c.move_clause.new.map
    c.in_default.ensures.rooms c.move_clause.ensures.rooms
