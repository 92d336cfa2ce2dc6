use Rattle.std.proofs.Common.{refl, ◌≡◌, ◌+◌, ◌-◌, ◌≤◌, ◌<◌, ◌∙◌, arith, ap, sym, subst, length}
use Rattle.std.proofs.lemmas.List.{length-set}
use Rattle.clause_counters.proofs.Words.{clause_lists, Group, group_at, link_at, no_group}
use Rattle.clause_counters.proofs.CountLaws.{raise_step, first_counted, known_first, lists_told}
use Rattle.clause_counters.proofs.LinkLaws.{rest_within, count_unrolled}
use Rattle.clause_counters.proofs.walks.raise_groups.Goals as goal

pub raise_group-requires-clause-within : goal.raise_group-requires-clause-within
raise_group-requires-clause-within g c =
    let in' = known_first c.args.places.now c.requires.linked c.loop-rest.rest
    (length c.loop-rest.groups.items) c.loop-rest-test.true c.loop-rest.invariant.known in
    subst (λ n. (link_at c.args.places.now (c.loop-rest.rest - 1)).value < n) (sym c.loop-rest.groups.ok.0) in'

pub raise_group-requires-clause-few : goal.raise_group-requires-clause-few
raise_group-requires-clause-few g c =
    let v = (link_at c.args.places.now (c.loop-rest.rest - 1)).value in
    let one = first_counted c.args.places.now c.requires.linked c.loop-rest.rest c.loop-rest-test.true in
    let so_far = c.loop-rest.invariant.lefts v in
    let few = c.requires.few v in
    omega (arith, one, so_far, few)

pub loop-rest-preserved : goal.loop-rest-preserved
loop-rest-preserved g c =
    let places = c.args.places.now in
    let linked = c.requires.linked in
    let rest = c.loop-rest.rest in
    let groups = c.loop-rest.groups.items in
    let new = c.raise_group.new.groups.items in
    let v = (link_at places (rest - 1)).value in
    let in' = known_first places linked rest (length groups) c.loop-rest-test.true c.loop-rest.invariant.known in
    let same : length new ≡ length groups = ap length c.raise_group.ensures.groups
    ∙ length-set groups v (record (group_at groups v) { left = (group_at groups v).left + 1 }) in
    record {
      within = (let less = rest_within places linked rest c.loop-rest-test.true in
          let l = c.loop-rest.invariant.within in omega (arith, less, l));
      lefts = λ d. (let step = raise_step (λ (x : Group). x.left) no_group places linked groups new
          (record (group_at groups v) { left = (group_at groups v).left + 1 })
          rest d c.loop-rest-test.true c.raise_group.ensures.groups refl in' in
          let so_far = c.loop-rest.invariant.lefts d in omega (arith, step, so_far));
      known = λ d past. (let all = count_unrolled places linked rest d c.loop-rest-test.true in
          let none = c.loop-rest.invariant.known d (subst (λ n. n ≤ d) same past) in omega (arith, all, none));
      joined = c.raise_group.ensures.joined;
      lists = ap clause_lists c.raise_group.ensures.groups ∙ (lists_told ((group_at groups v).left + 1) v groups
          ∙ c.loop-rest.invariant.lists);
      firsts = c.raise_group.ensures.firsts ∙ c.loop-rest.invariant.firsts;
      clauses = c.raise_group.ensures.clauses ∙ c.loop-rest.invariant.clauses;
    }
