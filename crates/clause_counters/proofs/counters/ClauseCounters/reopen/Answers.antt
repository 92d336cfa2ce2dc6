use Rattle.std.proofs.Common.{◌≡◌, ◌<◌, true, false, refl, sym, ap, subst, ◌∙◌, set, arith, length, ◌&&◌}
use Rattle.std.proofs.lemmas.List.{get_or_read_under}
use Rattle.std.proofs.lemmas.Bool.{not-false}
use Rattle.clause_counters.proofs.Words.{count, counters_in, fit_three, IsSameButRoom, no_standing, numbers_at}
use Rattle.clause_counters.proofs.Words.{Standing, standing_at, with_flag}
use Rattle.clause_counters.proofs.FlagLaws.{told_kept, of_literal, closed_literal}
use Rattle.clause_counters.proofs.counters.ClauseCounters.reopen.Goals as goal

pub returns-then-at-eq0 : goal.returns-then-at-eq0
returns-then-at-eq0 g c =
    let f = c.self.inside in
    let ls = f.literals.items in
    let places = f.places.items in
    let members = f.members.items in
    let groups = f.groups.items in
    let i = c.args.index in
    let room = f.falsified.has_room && fit_three (length members) f.members.cap in
    let within : i < f.literals.len = omega arith in
    let at : c.index_mut.result.now ≡ standing_at ls i =
    get_or_read_under ls i f.literals.len c.index_mut.result.now no_standing c.index_mut.ensures.value within
    f.literals.ok.0 in
    subst (λ (x : Standing). IsSameButRoom (with_flag false i c.args.self.now)
    (counters_in places (set ls i (record x { is_false = false })) members groups f.falsified.firsts room)) (sym at)
    (subst (λ v. IsSameButRoom (with_flag false i v) (counters_in places
    (set ls i (record (standing_at ls i) { is_false = false }))
    members groups f.falsified.firsts room)) c.self.view_is
    (told_kept places ls members groups groups f.falsified.firsts f.falsified.firsts room room false i refl refl))

pub returns : goal.returns
returns g c =
    let ls = c.self.inside.literals.items in
    let places = c.self.inside.places.items in
    let members = c.self.inside.members.items in
    let i = c.args.index in
    let room = c.raise_groups.new.falsified.has_room && fit_three (length members) c.self.inside.members.cap in
    let within : i < c.self.inside.literals.len = omega arith in
    let at : c.index_mut.result.now ≡ standing_at ls i =
    get_or_read_under ls i c.self.inside.literals.len c.index_mut.result.now no_standing c.index_mut.ensures.value
    within c.self.inside.literals.ok.0 in
    subst (λ (x : Standing). IsSameButRoom (with_flag false i c.args.self.now)
    (counters_in places (set ls i (record x { is_false = false })) members
    c.raise_groups.new.groups.items c.raise_groups.new.falsified.firsts room)) (sym at)
    (subst (λ v. IsSameButRoom (with_flag false i v) (counters_in places
    (set ls i (record (standing_at ls i) { is_false = false }))
    members
    c.raise_groups.new.groups.items c.raise_groups.new.falsified.firsts room)) c.self.view_is
    (told_kept places ls members c.self.inside.groups.items c.raise_groups.new.groups.items
    c.self.inside.falsified.firsts
    c.raise_groups.new.falsified.firsts (c.self.inside.falsified.has_room && fit_three
    (length members) c.self.inside.members.cap) room false i c.raise_groups.ensures.lists
    c.raise_groups.ensures.firsts))

pub raise_groups-requires-clause-known : goal.raise_groups-requires-clause-known
raise_groups-requires-clause-known g c h past =
    let ls = c.self.inside.literals.items in
    let places = c.self.inside.places.items in
    let i = c.args.index in
    let within : i < c.self.inside.literals.len = omega arith in
    let at : c.index-at.result.now ≡ standing_at ls i =
    get_or_read_under ls i c.self.inside.literals.len c.index-at.result.now no_standing c.index-at.ensures within
    c.self.inside.literals.ok.0 in
    let part = of_literal places ls i h (subst (λ n. i < n) c.self.inside.literals.ok.0 within) in
    let none = c.self.invariant.0.known h past in
    let same = ap (λ (x : Standing). count h (numbers_at places x.groups)) at in
    let moved = ap (λ ps. count h (numbers_at ps c.index-at.result.now.groups)) c.deref-2.ensures.value in
    omega (arith, part, none, same, moved)

pub raise_groups-requires-clause-few : goal.raise_groups-requires-clause-few
raise_groups-requires-clause-few g c h =
    let ls = c.self.inside.literals.items in
    let places = c.self.inside.places.items in
    let i = c.args.index in
    let within : i < c.self.inside.literals.len = omega arith in
    let at : c.index-at.result.now ≡ standing_at ls i =
    get_or_read_under ls i c.self.inside.literals.len c.index-at.result.now no_standing c.index-at.ensures within
    c.self.inside.literals.ok.0 in
    let decided : (standing_at ls i).is_false ≡ true =
    sym (ap (λ (x : Standing). x.is_false) at) ∙ not-false c.index-at.result.now.is_false c.if-not-at.false in
    let part = closed_literal places ls i h (subst (λ n. i < n) c.self.inside.literals.ok.0 within) decided in
    let few = c.self.invariant.0.few h in
    let counts = c.self.invariant.0.counts h in
    let same = ap (λ (x : Standing). count h (numbers_at places x.groups)) at in
    let moved = ap (λ ps. count h (numbers_at ps c.index-at.result.now.groups)) c.deref-2.ensures.value in
    omega (arith, part, few, counts, same, moved)
