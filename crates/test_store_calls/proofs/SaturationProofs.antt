-- Each example of a Saturate is computed.
use Rattle.std.proofs.Common.{[], ◌∷◌, ◌++◌, false, refl, arith}
use Rattle.resolvo_store.proofs.SettledLaws.{settled_if}
use Rattle.test_store_calls.proofs.Words.{Assign, no_version, SaturationExamples, state_after, two_versions, UndoUntil}
use Rattle.test_store_calls.proofs.Words.{with_implied, with_root, without_candidates}

pub saturation_examples : SaturationExamples
saturation_examples = record {
  root_implied = (
    (record { implied = refl; at_level = refl }, tt),
    settled_if (state_after two_versions with_root) refl,
  );
  other_excluded = (
    (record { implied = refl; at_level = refl }, (record { implied = refl; at_level = refl }, tt)),
    settled_if (state_after two_versions with_implied) refl,
  );
  saturated_search = refl;
  settled_again = settled_if (state_after two_versions (with_implied ++ UndoUntil 1 ∷ [])) refl;
  clause_is_false = (omega arith, refl);
  level_refused_first = refl;
  parent_implied_false = (
    (record { implied = refl; at_level = refl }, tt),
    settled_if
        (state_after no_version (without_candidates ++ Assign 0 false 0 1 ∷ [])) refl,
  );
  implied_undone = refl;
}
