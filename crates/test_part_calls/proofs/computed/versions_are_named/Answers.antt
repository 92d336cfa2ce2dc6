use Rattle.std.proofs.Common.{refl}
use Rattle.test_part_calls.proofs.computed.versions_are_named.Goals as goal

pub returns : goal.returns
returns c = record {
  picked = refl;
  room_for_three = refl;
  room_for_one = refl;
  nothing_picked = refl;
  none = refl;
  unreadable = refl;
  last_line_cut = refl;
  first_line_alone = refl;
  empty = refl;
}
