-- What is seen of a tracker.
use Rattle.std.specs.Prelude.{◌-◌, vec_len, vec_capacity}
use Rattle.indexmap.specs.IndexSet.{spare}
use Rattle.at_most_once.specs.declared.tracker.AtMostOnceTracker.TheInside.{Inside}
use Rattle.at_most_once.specs.AtMostOne.{TrackerState}

-- the variables and the helpers, in order, and the room for more
abbrev pub tracker_in : {V A : Type 0} → Inside V A → TrackerState V
tracker_in t = record {
  tracker = record { variables = t.variables.keys; helpers = t.helpers.items };
  variable_room = spare t.variables;
  helper_room = vec_capacity t.helpers - vec_len t.helpers;
}
