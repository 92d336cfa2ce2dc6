use Rattle.std.proofs.Common.{ap, arith, ◌∙◌, ◌+◌, [], ◌∷◌, length, map, take, sym, subst}
use Rattle.example_index.proofs.Words.{IsCondition, plain_set, with_bytes}
use Rattle.example_index.proofs.Later.{later_twice, map_more}
use Rattle.std.proofs.lemmas.List.{take_all}
use Rattle.example_index.proofs.interning.intern_together.Goals as goal

pub loop-set-preserved : goal.loop-set-preserved
loop-set-preserved c =
    let first = plain_set c.args.sets.now.first in
    let others = c.deref-set-items.result.now in
    let i = c.loop-set.set-index in
    let id = c.in_ok-condition-2.condition in
    record {
      is = subst (λ items. IsCondition (with_bytes c.intern_both.new.pool) id
          ((first ∷ map plain_set (take (i + 1) items)) ∷ []))
          c.deref-set-items.ensures.value
          (subst (λ sets. IsCondition (with_bytes c.intern_both.new.pool) id ((first ∷ sets) ∷ []))
          (sym (map_more plain_set others i _ c.loop-set-test.true))
          (c.in_ok-condition-2.ensures.is (first ∷ map plain_set (take i others))
          (subst (λ items. IsCondition (with_bytes c.loop-set.pool) c.loop-set.condition
          ((first ∷ map plain_set (take i items)) ∷ []))
          (sym c.deref-set-items.ensures.value) c.loop-set.invariant.is)));
      here = c.in_ok-condition-2.ensures.here;
      later = later_twice c.args.pool.now c.loop-set.pool c.intern_both.new.pool c.loop-set.invariant.later
          c.in_ok-condition-2.ensures.later;
      solvables = c.in_ok-condition-2.ensures.solvables ∙ c.loop-set.invariant.solvables;
    }

pub returns-in_err-condition-2-clause-later : goal.returns-in_err-condition-2-clause-later
returns-in_err-condition-2-clause-later c =
    later_twice c.args.pool.now c.loop-set.pool c.intern_both.new.pool c.loop-set.invariant.later
    c.intern_both.ensures.later

pub returns-clause-is : goal.returns-clause-is
returns-clause-is c =
    let others = c.args.sets.now.others.items in
    subst (λ items. IsCondition (with_bytes c.loop-set.pool) c.loop-set.condition
    ((plain_set c.args.sets.now.first ∷ map plain_set items) ∷ []))
    (take_all c.loop-set.set-index others (omega
    (arith, c.loop-set-test.false, ap length c.deref-set-items.ensures.value)))
    c.loop-set.invariant.is
