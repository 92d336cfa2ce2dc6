use Rattle.std.proofs.Common.{arith, ◌∙◌, ◌∷◌, map, take, sym, subst}
use Rattle.example_index.proofs.Words.{IsCondition, plain_sets, with_bytes}
use Rattle.example_index.proofs.Later.{later_twice, map_with}
use Rattle.std.proofs.lemmas.List.{take_all}
use Rattle.example_index.proofs.interning.intern_alternatives.Goals as goal

pub loop-sets-preserved : goal.loop-sets-preserved
loop-sets-preserved c =
    let first = plain_sets c.args.first.now in
    let others = c.args.others.now in
    let i = c.loop-sets.sets-index in
    record {
      is = subst (λ lists. IsCondition (with_bytes c.intern_either.new.pool) c.in_ok-condition-2.condition
          (first ∷ lists))
          (sym (map_with plain_sets others i c.sets-item.result c.loop-sets-test.true c.sets-item.is))
          (c.in_ok-condition-2.ensures.is (first ∷ map plain_sets (take i others)) c.loop-sets.invariant.is);
      here = c.in_ok-condition-2.ensures.here;
      later = later_twice c.args.pool.now c.loop-sets.pool c.intern_either.new.pool c.loop-sets.invariant.later
          c.in_ok-condition-2.ensures.later;
      solvables = c.in_ok-condition-2.ensures.solvables ∙ c.loop-sets.invariant.solvables;
    }

pub returns-in_err-condition-2-clause-later : goal.returns-in_err-condition-2-clause-later
returns-in_err-condition-2-clause-later c =
    later_twice c.args.pool.now c.loop-sets.pool c.intern_either.new.pool c.loop-sets.invariant.later
    c.intern_either.ensures.later

pub returns-clause-is : goal.returns-clause-is
returns-clause-is c =
    subst (λ items. IsCondition (with_bytes c.loop-sets.pool) c.loop-sets.condition
    (plain_sets c.args.first.now ∷ map plain_sets items))
    (take_all c.loop-sets.sets-index c.args.others.now (omega (arith, c.loop-sets-test.false))) c.loop-sets.invariant.is
