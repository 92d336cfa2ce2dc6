use Rattle.std.proofs.Common.{arith}
use Rattle.watch_map.proofs.MoveLaws.{first_is, unlinked, moves, reached_after}
use Rattle.watch_map.proofs.StartLaws.{slot_of_first, room_by_length}
use Rattle.watch_map.proofs.cursor.relink.Goals as goal

pub unlink-requires-clause-room : goal.unlink-requires-clause-room
unlink-requires-clause-room g c =
    let f = first_is c.args.place.now c.args.map.now c.args.watches.now c.requires.stands in
    slot_of_first c.args.map.now c.args.place.now.literal f.0 1 f.1

pub put_first-next_of_new-requires : goal.put_first-next_of_new-requires
put_first-next_of_new-requires g c =
    let s = (unlinked c.args.place.now c.args.map.now c.args.watches.now c.requires.stands c.args.place.now.previous
    c.unlink.new.self c.unlink.new.watches c.requires.stands.placed c.unlink.ensures).slots in
    room_by_length c.args.map.now c.unlink.new.self c.args.new_watch 1 1 (omega (arith, s)) c.requires.room

pub returns-clause-lists : goal.returns-clause-lists
returns-clause-lists g c =
    moves c.args.place.now c.args.map.now c.args.watches.now c.requires.stands c.args.new_watch c.requires.other
    c.unlink.new.self c.unlink.new.watches c.unlink.ensures
    c.put_first-next_of_new.new.self c.set_watch.new.watches c.put_first-next_of_new.result
    c.put_first-next_of_new.ensures.earlier c.put_first-next_of_new.ensures.first c.set_watch.ensures

pub returns-clause-reached : goal.returns-clause-reached
returns-clause-reached g c =
    reached_after c.args.place.now c.args.map.now c.args.watches.now c.requires.stands c.args.new_watch c.requires.other
    c.unlink.new.self c.unlink.new.watches c.unlink.ensures
    c.put_first-next_of_new.new.self c.set_watch.new.watches c.put_first-next_of_new.result
    c.put_first-next_of_new.ensures.earlier c.put_first-next_of_new.ensures.first c.set_watch.ensures

pub returns-clause-rooms : goal.returns-clause-rooms
returns-clause-rooms g c l n =
    let s = (unlinked c.args.place.now c.args.map.now c.args.watches.now c.requires.stands c.args.place.now.previous
    c.unlink.new.self c.unlink.new.watches c.requires.stands.placed c.unlink.ensures).slots in
    let p = c.put_first-next_of_new.ensures.slots in
    room_by_length c.args.map.now c.put_first-next_of_new.new.self l n n (omega (arith, s, p))
