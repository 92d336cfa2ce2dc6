use Rattle.std.proofs.Common.{refl, Some, None}
use Rattle.at_most_once.specs.AtMostOne.{none, more}
use Rattle.test_part_calls.proofs.computed.examples.Goals as goal

pub returns : goal.returns
returns c = record {
  required_open = (refl, refl);
  required_next = (refl, refl);
  required_conflict = (refl, refl);
  required_satisfied = (refl, refl);
  conditional_open = (refl, refl);
  conditional_literals = refl;
  constrains_open = (refl, refl);
  constrains_conflict = (refl, refl);
  constrains_satisfied = (refl, refl);
  parent_conflict = (refl, refl);
  parent_satisfied = (refl, refl);
  excluded_watches = (refl, refl);
  lock_literals = refl;
  lock_watches = (refl, refl);
  learnt_watches = (refl, refl);
  first_replaced = refl;
  second_replaced = refl;
  none_left = refl;
  binary_has_none = refl;
  four_tracked =
      more None 4
      (more (Some 12) 3
      (more (Some 11) 2
      (more None 1 none
      (record { no_helper = refl; needed = refl; fresh = tt }))
      (record { no_helper = refl; needed = refl; fresh = ((refl, refl), refl) }))
      (record { no_helper = refl; needed = refl; fresh = ((refl, refl), refl) }))
      (record { no_helper = refl; needed = refl; fresh = tt });
}
