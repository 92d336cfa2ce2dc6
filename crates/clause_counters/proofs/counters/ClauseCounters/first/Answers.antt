use Rattle.std.proofs.Common.{◌&&◌, length, refl, sym, subst}
use Rattle.clause_counters.proofs.Words.{fit_three, Represents}
use Rattle.clause_counters.proofs.ShownLaws.{first_shown, shows_again}
use Rattle.clause_counters.proofs.counters.ClauseCounters.first.Goals as goal

pub returns-clause-first : goal.returns-clause-first
returns-clause-first g c s shows =
    let f = c.self.inside in
    first_shown f.places.items f.literals.items f.members.items f.groups.items f.falsified.lefts f.falsified.firsts
    _ s c.self.invariant.0 c.self.invariant.1
    (subst (λ v. Represents v s) (sym c.self.view_is) shows) c.first.result c.self.invariant.2 c.first.ensures.first

pub returns-clause-represents : goal.returns-clause-represents
returns-clause-represents g c s represents =
    let f = c.self.inside in
    let fit = fit_three (length f.members.items) f.members.cap in
    shows_again f.places.items f.literals.items f.members.items f.members.items f.groups.items f.falsified.firsts
    c.first.new.self.firsts (f.falsified.has_room && fit) (c.first.new.self.has_room && fit) s refl
    c.first.ensures.firsts
    (subst (λ v. Represents v s) (sym c.self.view_is) represents)
