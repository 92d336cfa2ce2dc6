use Rattle.std.proofs.Common.{◌&&◌, length, sym, subst}
use Rattle.clause_counters.proofs.Words.{fit_three, Represents}
use Rattle.clause_counters.proofs.ShownLaws.{shows_again}
use Rattle.clause_counters.proofs.counters.ClauseCounters.make_room.Goals as goal

pub returns-clause-represents : goal.returns-clause-represents
returns-clause-represents g c s represents =
    let f = c.self.inside in
    let new = c.reserve.new.self in
    let heap = c.make_room.new.self in
    shows_again f.places.items f.literals.items f.members.items new.items f.groups.items f.falsified.firsts
    heap.firsts
    (f.falsified.has_room && fit_three (length f.members.items) f.members.cap)
    (heap.has_room && fit_three (length new.items) new.cap) s
    c.in_ok-reserve.ensures.items c.make_room.ensures.firsts
    (subst (λ v. Represents v s) (sym c.self.view_is) represents)
