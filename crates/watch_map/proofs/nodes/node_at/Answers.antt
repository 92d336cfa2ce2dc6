use Rattle.std.proofs.Common.{arith}
use Rattle.std.proofs.lemmas.Grind.{common_steps}
use Rattle.watch_map.proofs.nodes.node_at.Goals as goal

pub bounds-watches-to_index : goal.bounds-watches-to_index
bounds-watches-to_index c = grind (arith, common_steps)
