use Rattle.std.proofs.Common.{◌≡◌, ◌&&◌, length, sym, subst, ◌∙◌}
use Rattle.clause_counters.proofs.Words.{counters_in, fit_three, Represents}
use Rattle.clause_counters.proofs.AddedLaws.{shows_clause, clauses_shown}
use Rattle.clause_counters.proofs.counters.ClauseCounters.add_clause.Goals as goal

pub returns-clause-represents : goal.returns-clause-represents
returns-clause-represents g c s represents =
    let f = c.self.inside in
    let ps = f.places.items in
    let ls = f.literals.items in
    let ms = f.members.items in
    let gs = f.groups.items in
    let firsts = f.falsified.firsts in
    let joined = c.join_groups in
    let n = c.add-clause.result in
    let is : n ≡ length firsts = c.add-clause.ensures.number ∙ c.self.invariant.2 in
    let same : length joined.new.groups.items ≡ length gs = sym joined.new.groups.ok.0
    ∙ (joined.ensures.len ∙ f.groups.ok.0) in
    let room = f.falsified.has_room && fit_three (length ms) f.members.cap in
    let shows : Represents (counters_in ps ls ms gs firsts room) s =
    subst (λ v. Represents v s) (sym c.self.view_is) represents in (
      is ∙ clauses_shown ps ls ms gs firsts room s shows,
      shows_clause ps ls ms joined.new.members.items gs joined.new.groups.items firsts
          c.add-clause.new.self.firsts room _ s c.args.groups.now
          c.args.first_of_parent n is same c.add-clause.ensures.firsts shows joined.ensures.lists,
    )
