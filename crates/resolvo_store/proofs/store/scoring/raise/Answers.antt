use Rattle.std.proofs.Common.{arith}
use Rattle.std.proofs.lemmas.Grind.{common_steps}
use Rattle.resolvo_store.proofs.store.scoring.raise.Goals as goal

pub bump-requires : goal.bump-requires
bump-requires g c = grind (arith, common_steps)
