use Rattle.std.proofs.Common.{refl, ◌-◌, ◌≤◌, ◌∙◌, arith, ap}
use Rattle.clause_counters.proofs.Words.{clause_lists, Group, group_at, link_at, no_group}
use Rattle.clause_counters.proofs.CountLaws.{lower_step, first_counted, lists_told}
use Rattle.clause_counters.proofs.LinkLaws.{rest_within}
use Rattle.clause_counters.proofs.walks.lower_groups.Goals as goal

pub lower_group-requires-clause-left : goal.lower_group-requires-clause-left
lower_group-requires-clause-left g c =
    let v = (link_at c.args.places.now (c.loop-rest.rest - 1)).value in
    let one = first_counted c.args.places.now c.requires.linked c.loop-rest.rest c.loop-rest-test.true in
    let all = c.loop-rest.invariant.enough v in
    omega (arith, one, all)

pub loop-rest-preserved : goal.loop-rest-preserved
loop-rest-preserved g c =
    let places = c.args.places.now in
    let linked = c.requires.linked in
    let rest = c.loop-rest.rest in
    let groups = c.loop-rest.groups.items in
    let new = c.lower_group.new.groups.items in
    let v = (link_at places (rest - 1)).value in
    let some : 1 ≤ (group_at groups v).left =
    (let one = first_counted places linked rest c.loop-rest-test.true in let all = c.loop-rest.invariant.enough v in
    omega (arith, one, all)) in
    record {
      within = (let less = rest_within places linked rest c.loop-rest-test.true in
          let l = c.loop-rest.invariant.within in omega (arith, less, l));
      lefts = λ d. (let step = lower_step (λ (x : Group). x.left) no_group refl places linked groups new
          (record (group_at groups v) { left = (group_at groups v).left - 1 })
          rest d c.loop-rest-test.true c.lower_group.ensures.groups (omega (arith, some)) in
          let so_far = c.loop-rest.invariant.lefts d in omega (arith, step, so_far));
      enough = λ d. (let step = lower_step (λ (x : Group). x.left) no_group refl places linked groups new
          (record (group_at groups v) { left = (group_at groups v).left - 1 })
          rest d c.loop-rest-test.true c.lower_group.ensures.groups (omega (arith, some)) in
          let so_far = c.loop-rest.invariant.enough d in omega (arith, step, so_far));
      joined = c.lower_group.ensures.joined;
      lists = ap clause_lists c.lower_group.ensures.groups ∙ (lists_told ((group_at groups v).left - 1) v groups
          ∙ c.loop-rest.invariant.lists);
      firsts = c.lower_group.ensures.firsts ∙ c.loop-rest.invariant.firsts;
      clauses = c.lower_group.ensures.clauses ∙ c.loop-rest.invariant.clauses;
    }
