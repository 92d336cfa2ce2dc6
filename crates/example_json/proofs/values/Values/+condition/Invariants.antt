use Rattle.std.proofs.Common.{◌<◌}
use Rattle.example_json.proofs.values.Values.+condition.Given as goal

abbrev pub decreases-condition : goal.decreases-condition
decreases-condition g l = l.depth
