use Rattle.std.proofs.Common.{ℕ, refl, ◌-◌, ◌≤◌, ◌∙◌, arith, ap, length, get_or}
use Rattle.std.proofs.lemmas.List.{length-set}
use Rattle.clause_counters.proofs.Words.{link_at}
use Rattle.clause_counters.proofs.CountLaws.{lower_step, first_counted}
use Rattle.clause_counters.proofs.LinkLaws.{rest_within}
use Rattle.clause_counters.proofs.groups.lower_clauses.Goals as goal

pub lower-requires : goal.lower-requires
lower-requires g c =
    let v = (link_at c.args.members.now (c.loop-rest.rest - 1)).value in
    let one = first_counted c.args.members.now c.requires.linked c.loop-rest.rest c.loop-rest-test.true in
    let all = c.loop-rest.invariant.enough v in
    omega (arith, one, all)

pub loop-rest-preserved : goal.loop-rest-preserved
loop-rest-preserved g c =
    let members = c.args.members.now in
    let linked = c.requires.linked in
    let rest = c.loop-rest.rest in
    let xs = c.loop-rest.falsified.lefts in
    let v = (link_at members (rest - 1)).value in
    let some = (let one = first_counted members linked rest c.loop-rest-test.true in
    let all = c.loop-rest.invariant.enough v in
    let e : 1 ≤ get_or xs v 0 = omega (arith, one, all) in e) in
    record {
      within = (let less = rest_within members linked rest c.loop-rest-test.true in
          let l = c.loop-rest.invariant.within in omega (arith, less, l));
      lefts = λ d. (let step = lower_step (λ (n : ℕ). n) 0 refl members linked xs c.lower.new.self.lefts
          (get_or xs v 0 - 1) rest d c.loop-rest-test.true
          c.lower.ensures.lefts (omega (arith, some)) in
          let so_far = c.loop-rest.invariant.lefts d in omega (arith, step, so_far));
      enough = λ d. (let step = lower_step (λ (n : ℕ). n) 0 refl members linked xs c.lower.new.self.lefts
          (get_or xs v 0 - 1) rest d c.loop-rest-test.true
          c.lower.ensures.lefts (omega (arith, some)) in
          let so_far = c.loop-rest.invariant.enough d in omega (arith, step, so_far));
      firsts = c.lower.ensures.firsts ∙ c.loop-rest.invariant.firsts;
      clauses = ap length c.lower.ensures.lefts ∙ (length-set xs v (get_or xs v 0 - 1) ∙ c.loop-rest.invariant.clauses);
    }
