use Rattle.std.proofs.Common.{arith}
use Rattle.std.proofs.lemmas.Grind.{common_steps}
use Rattle.id_maps.proofs.dense_map.VecIdMap.update_all.Goals as goal

pub loop-value-preserved : goal.loop-value-preserved
loop-value-preserved g c = grind (arith, common_steps)

pub returns-clause-changed : goal.returns-clause-changed
returns-clause-changed g c = grind (arith, common_steps)
