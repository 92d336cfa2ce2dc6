use Rattle.std.proofs.Common.{◌≡◌, ◌<◌, true, refl, sym, subst, set, arith, length, ◌&&◌}
use Rattle.std.proofs.lemmas.List.{get_or_read_under}
use Rattle.clause_counters.proofs.Words.{counters_in, fit_three, IsSameButRoom, no_standing, Standing, standing_at}
use Rattle.clause_counters.proofs.Words.{with_flag}
use Rattle.clause_counters.proofs.FlagLaws.{told_kept}
use Rattle.clause_counters.proofs.counters.ClauseCounters.close.Goals as goal

pub returns-then-at-eq0 : goal.returns-then-at-eq0
returns-then-at-eq0 g c =
    let f = c.self.inside in
    let ls = f.literals.items in
    let places = f.places.items in
    let members = f.members.items in
    let groups = f.groups.items in
    let i = c.args.index in
    let room = f.falsified.has_room && fit_three (length members) f.members.cap in
    let within : i < f.literals.len = omega arith in
    let at : c.index_mut.result.now ≡ standing_at ls i =
    get_or_read_under ls i f.literals.len c.index_mut.result.now no_standing c.index_mut.ensures.value within
    f.literals.ok.0 in
    subst (λ (x : Standing). IsSameButRoom (with_flag true i c.args.self.now)
    (counters_in places (set ls i (record x { is_false = true })) members groups f.falsified.firsts room)) (sym at)
    (subst (λ v. IsSameButRoom (with_flag true i v) (counters_in places
    (set ls i (record (standing_at ls i) { is_false = true }))
    members groups f.falsified.firsts room)) c.self.view_is
    (told_kept places ls members groups groups f.falsified.firsts f.falsified.firsts room room true i refl refl))

pub returns : goal.returns
returns g c =
    let ls = c.self.inside.literals.items in
    let places = c.self.inside.places.items in
    let members = c.self.inside.members.items in
    let i = c.args.index in
    let room = c.lower_groups.new.falsified.has_room && fit_three (length members) c.self.inside.members.cap in
    let within : i < c.self.inside.literals.len = omega arith in
    let at : c.index_mut.result.now ≡ standing_at ls i =
    get_or_read_under ls i c.self.inside.literals.len c.index_mut.result.now no_standing c.index_mut.ensures.value
    within c.self.inside.literals.ok.0 in
    subst (λ (x : Standing). IsSameButRoom (with_flag true i c.args.self.now)
    (counters_in places (set ls i (record x { is_false = true })) members
    c.lower_groups.new.groups.items c.lower_groups.new.falsified.firsts room)) (sym at)
    (subst (λ v. IsSameButRoom (with_flag true i v) (counters_in places
    (set ls i (record (standing_at ls i) { is_false = true }))
    members
    c.lower_groups.new.groups.items c.lower_groups.new.falsified.firsts room)) c.self.view_is
    (told_kept places ls members c.self.inside.groups.items c.lower_groups.new.groups.items
    c.self.inside.falsified.firsts
    c.lower_groups.new.falsified.firsts (c.self.inside.falsified.has_room && fit_three
    (length members) c.self.inside.members.cap) room true i c.lower_groups.ensures.lists
    c.lower_groups.ensures.firsts))
