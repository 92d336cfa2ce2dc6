use Rattle.std.proofs.Common.{arith}
use Rattle.std.proofs.lemmas.Grind.{common_steps}
use Rattle.watch_map.proofs.nodes.set_watch.Goals as goal

pub bounds-watches-to_index : goal.bounds-watches-to_index
bounds-watches-to_index c = grind (arith, common_steps)

pub returns-in-Some : goal.returns-in-Some
returns-in-Some c = grind (arith, common_steps)
