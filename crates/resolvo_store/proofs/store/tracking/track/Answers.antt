use Rattle.std.proofs.Common.{arith}
use Rattle.std.proofs.lemmas.Grind.{common_steps}
use Rattle.resolvo_store.proofs.store.tracking.track.Goals as goal

pub push_forbidden_reserved-requires : goal.push_forbidden_reserved-requires
push_forbidden_reserved-requires g c = grind (arith, common_steps)

pub returns-clause-variables : goal.returns-clause-variables
returns-clause-variables g c = grind (arith, common_steps)
