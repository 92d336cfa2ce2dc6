use Rattle.std.proofs.Common.{◌≡◌, ◌<◌, sym, ap, subst, ◌∙◌, arith, length}
use Rattle.std.proofs.lemmas.List.{get_or_read_under}
use Rattle.clause_counters.proofs.Words.{count, Group, group_at, no_group, numbers_at}
use Rattle.clause_counters.proofs.CountLaws.{of_group, closed_group}
use Rattle.clause_counters.proofs.groups.raise_group.Goals as goal

pub raise_clauses-requires-clause-known : goal.raise_clauses-requires-clause-known
raise_clauses-requires-clause-known g c d past =
    let groups = c.args.groups.now.items in
    let members = c.args.members.now in
    let group = c.args.group in
    let l : group < length groups = subst (λ n. group < n) c.args.groups.now.ok.0 c.requires.within in
    let at : c.index-at.result.now ≡ group_at groups group =
    get_or_read_under groups group c.args.groups.now.len c.index-at.result.now no_group c.index-at.ensures
    c.requires.within c.args.groups.now.ok.0 in
    let part = of_group members groups group d l in
    let none = c.requires.joined.known d past in
    let same = ap (λ (x : Group). count d (numbers_at members x.clauses)) at in
    omega (arith, part, none, same)

pub raise_clauses-requires-clause-few : goal.raise_clauses-requires-clause-few
raise_clauses-requires-clause-few g c d =
    let groups = c.args.groups.now.items in
    let members = c.args.members.now in
    let group = c.args.group in
    let l : group < length groups = subst (λ n. group < n) c.args.groups.now.ok.0 c.requires.within in
    let at : c.index-at.result.now ≡ group_at groups group =
    get_or_read_under groups group c.args.groups.now.len c.index-at.result.now no_group c.index-at.ensures
    c.requires.within c.args.groups.now.ok.0 in
    let none : (group_at groups group).left ≡ 0 = sym (ap (λ (x : Group). x.left) at) ∙ c.if-at-eq0.true in
    let part = closed_group members groups group d l none in
    let few = c.requires.joined.few d in
    let counts = c.requires.joined.counts d in
    let same = ap (λ (x : Group). count d (numbers_at members x.clauses)) at in
    omega (arith, part, few, counts, same)
