use Rattle.decisions.proofs.FloorLaws.{floor_is_least}
use Rattle.test_part_calls.proofs.trail_laws.floor_is_least.Goals as goal

pub returns : goal.returns
returns c = floor_is_least
