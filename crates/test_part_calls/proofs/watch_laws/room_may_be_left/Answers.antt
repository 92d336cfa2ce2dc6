use Rattle.watch_map.proofs.CallerLaws
use Rattle.test_part_calls.proofs.watch_laws.room_may_be_left.Goals as goal

pub returns-clause-fewer : goal.returns-clause-fewer
returns-clause-fewer c = CallerLaws.room_is_for_fewer

pub returns-clause-cursors : goal.returns-clause-cursors
returns-clause-cursors c = CallerLaws.cursors_outlive_room
