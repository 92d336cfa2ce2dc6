-- For each name a tracker: the variables of which at most one may be true, with their helpers. N are the names.
use Rattle.std.specs.Prelude.{ℕ, Bool, ◌&&◌, ◌||◌, ◌==◌, nat_eq, if◌then◌else◌, List}
use Rattle.std.specs.Prelude.{length, Option, option_map, unwrap_or, MatchOption}
use Rattle.std.specs.Map.{lookup}
use Rattle.at_most_once.specs.AtMostOne.{Tracker, TrackerState, HasRoom, empty, with_variable}

module _ {N : Type 0} (same : N → N → Bool) where
  -- the tracker of a name, by what is kept: empty where nothing is
  unfoldable pub tracker_of : List (N × TrackerState ℕ) → N → Tracker ℕ
  tracker_of stored name = unwrap_or (option_map (λ t. t.tracker) (lookup (same name) stored)) empty

  -- the trackers with one variable more under a name, and with the helper that is given with it
  abbrev pub with_tracked : N → ℕ → Option ℕ → (N → Tracker ℕ) → N → Tracker ℕ
  with_tracked name variable helper trackers other =
      if same other name then with_variable nat_eq (trackers name) helper variable else trackers other

  -- there is room for one variable more under the name, and for a helper where one comes with it
  abbrev pub HasRoomFor : List (N × TrackerState ℕ) → N → Bool → Type 0
  HasRoomFor stored name with_helper = MatchOption (lookup (same name) stored) ⊥ (λ t. HasRoom t with_helper)

  -- no room is lost under this name
  abbrev pub KeepsRoomFor : N → List (N × TrackerState ℕ) → List (N × TrackerState ℕ) → Type 0
  KeepsRoomFor name old new = (with_helper : Bool) → HasRoomFor old name with_helper → HasRoomFor new name with_helper

-- nothing can be tracked under a name: it is too large for a map; or nothing is yet, and there may be more than 2^32
-- names, each with a tracker
abbrev pub lacks_tracker : (is_large are_many : Bool) → Tracker ℕ → Bool
lacks_tracker is_large are_many t = is_large || (are_many && (length t.variables == 0))
