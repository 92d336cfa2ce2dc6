-- Each example is computed.
use Rattle.std.proofs.Common.{refl}
use Rattle.test_store_calls.proofs.Words.{Examples}
use Rattle.test_store_calls.proofs.SaturationProofs.{saturation_examples}

pub examples : Examples
examples = record {
  two_packages = refl;
  one_package = refl;
  satisfied_and_undone = refl;
  false_candidate = refl;
  no_candidates = refl;
  first_falsified_of_scan = refl;
  conflict_flag = refl;
  set_twice = refl;
  two_packages_in_one = refl;
  satisfied_after_root = refl;
  falsified_after_root = refl;
  no_candidates_after_root = refl;
  set_twice_after_root = refl;
  handed_and_taken_back = refl;
  handed_again = refl;
  helpers_and_learnt = refl;
  flags_of_pairs = refl;
  literals_of_kinds = (refl, refl);
  requires_watches = refl;
  pair_watches = refl;
  moved_watches = refl;
  signs_apart = refl;
  lock_watches = refl;
  score_and_count = refl;
  late_score = refl;
  score_alone = refl;
  count_alone = refl;
  root_protected = refl;
  others_replaced = refl;
  root_first = refl;
  others_after_root = refl;
  falsified_before_root = refl;
  scores_fall = refl;
  rounded_down = refl;
  either_setting = refl;
  waits_for_condition = refl;
  condition_opens = refl;
  empty_condition = refl;
  condition_literals = (refl, refl);
  conditions_refused = refl;
  unknown_conditions = refl;
  four_tracked = refl;
  four_tracked_literals = (refl, refl);
  two_names = refl;
  favored_first = refl;
  favored_outside = refl;
  count_of_one_set = refl;
  better_offer = refl;
  equal_count = refl;
  equal_score = refl;
  root_stays = refl;
  best_so_far = refl;
  root_alone = refl;
  others_by_score = refl;
  root_replaces = refl;
  first_without_scores = refl;
  saturations = saturation_examples;
}
