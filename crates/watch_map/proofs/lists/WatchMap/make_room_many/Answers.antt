use Rattle.std.proofs.Common.{◌<◌, ◌≤◌, length, arith, sym, subst, ap, ◌∙◌}
use Rattle.watch_map.proofs.Words.{literal_index, slots_for, value_at}
use Rattle.watch_map.proofs.StartLaws.{same_lists, room_by_length, no_fewer_slots, room_in_slots}
use Rattle.watch_map.proofs.LinkLaws.{slot_within}
use Rattle.watch_map.proofs.lists.WatchMap.make_room_many.Goals as goal

pub returns-clause-lists : goal.returns-clause-lists
returns-clause-lists g c = same_lists c.args.self.now c.make_room.new.self (λ key. c.make_room.ensures.same key
    ∙ ap (λ m. value_at m key) c.self.view_is)

pub returns-clause-rooms : goal.returns-clause-rooms
returns-clause-rooms g c l n =
    let more = no_fewer_slots c.make_room.result c.self.inside.firsts c.make_room.new.self
    (slots_for (literal_index c.args.literal)) c.make_room.ensures.slots c.make_room.ensures.err in
    room_by_length c.args.self.now c.make_room.new.self l n n
    (subst (λ m. length m ≤ length c.make_room.new.self) c.self.view_is more)

pub returns-clause-room : goal.returns-clause-room
returns-clause-room g c =
    room_in_slots c.make_room.result c.self.inside.firsts c.make_room.new.self
    (slots_for (literal_index c.args.literal)) c.make_room.ensures.slots
    c.args.literal c.args.additions (omega arith)

pub returns-clause-succeeds : goal.returns-clause-succeeds
returns-clause-succeeds g c room =
    (c.make_room.ensures.room (subst (λ m. literal_index c.args.literal < length m) (sym c.self.view_is)
    (slot_within c.args.self.now c.args.literal c.args.additions room))).0
