use Rattle.std.proofs.Common.{map, subst}
use Rattle.example_index.proofs.Words.{IsConditionOr, plain_need, plain_sets, with_bytes}
use Rattle.example_index.proofs.Later.{later_bytes, later_twice, union_still}
use Rattle.example_index.proofs.interning.add_need.Goals as goal

pub returns-in_err-push-clause-later : goal.returns-in_err-push-clause-later
returns-in_err-push-clause-later c =
    later_twice c.args.pool.now c.intern_union.new.pool c.intern_condition.new.pool
    c.in_ok-requirement.ensures.later c.in_ok-condition.ensures.later

pub returns-clause-is : goal.returns-clause-is
returns-clause-is c =
    let before = c.intern_union.new.pool in
    let after = c.intern_condition.new.pool in (
      record { condition = c.in_ok-condition.condition; requirement = c.in_ok-requirement.requirement },
      c.in_ok-push.ensures.items,
      record {
        union = union_still (with_bytes before) (with_bytes after)
            (later_bytes before after c.in_ok-condition.ensures.later)
            c.in_ok-requirement.requirement (plain_need c.args.need.now).union c.in_ok-requirement.ensures.is;
        condition = subst (λ lists. IsConditionOr (with_bytes after) c.in_ok-condition.condition (map plain_sets lists))
            c.deref.ensures.value c.in_ok-condition.ensures.is;
      },
    )
