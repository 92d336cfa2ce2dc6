use Rattle.std.proofs.Common.{ℕ, refl, ◌≡◌, ◌+◌, ◌-◌, ◌≤◌, ◌∙◌, arith, ap, subst, length, get_or}
use Rattle.std.proofs.lemmas.List.{length-set}
use Rattle.clause_counters.proofs.Words.{link_at}
use Rattle.clause_counters.proofs.CountLaws.{raise_step, first_counted, known_first}
use Rattle.clause_counters.proofs.LinkLaws.{rest_within, count_unrolled}
use Rattle.clause_counters.proofs.groups.raise_clauses.Goals as goal

pub raise-requires-clause-within : goal.raise-requires-clause-within
raise-requires-clause-within g c =
    known_first c.args.members.now c.requires.linked c.loop-rest.rest
    (length c.loop-rest.falsified.lefts) c.loop-rest-test.true c.loop-rest.invariant.known

pub raise-requires-clause-few : goal.raise-requires-clause-few
raise-requires-clause-few g c =
    let v = (link_at c.args.members.now (c.loop-rest.rest - 1)).value in
    let one = first_counted c.args.members.now c.requires.linked c.loop-rest.rest c.loop-rest-test.true in
    let so_far = c.loop-rest.invariant.lefts v in
    let few = c.requires.few v in
    omega (arith, one, so_far, few)

pub loop-rest-preserved : goal.loop-rest-preserved
loop-rest-preserved g c =
    let members = c.args.members.now in
    let linked = c.requires.linked in
    let rest = c.loop-rest.rest in
    let xs = c.loop-rest.falsified.lefts in
    let v = (link_at members (rest - 1)).value in
    let in' = known_first members linked rest (length xs) c.loop-rest-test.true c.loop-rest.invariant.known in
    let clauses : length c.raise.new.self.lefts ≡ length xs = ap length c.raise.ensures.lefts
    ∙ length-set xs v (get_or xs v 0 + 1) in
    record {
      within = (let less = rest_within members linked rest c.loop-rest-test.true in
          let l = c.loop-rest.invariant.within in omega (arith, less, l));
      lefts = λ d. (let step = raise_step (λ (n : ℕ). n) 0 members linked xs c.raise.new.self.lefts
          (get_or xs v 0 + 1) rest d c.loop-rest-test.true
          c.raise.ensures.lefts refl in' in
          let so_far = c.loop-rest.invariant.lefts d in omega (arith, step, so_far));
      known = λ d past. (let all = count_unrolled members linked rest d c.loop-rest-test.true in
          let none = c.loop-rest.invariant.known d (subst (λ n. n ≤ d) clauses past) in omega (arith, all, none));
      firsts = c.raise.ensures.firsts ∙ c.loop-rest.invariant.firsts;
      clauses = clauses ∙ c.loop-rest.invariant.clauses;
    }
