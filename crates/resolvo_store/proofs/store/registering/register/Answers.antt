use Rattle.std.proofs.Common.{arith}
use Rattle.std.proofs.lemmas.Grind.{common_steps}
use Rattle.resolvo_store.proofs.store.registering.register.Goals as goal

pub push_reserved-clause-requires-clause-room : goal.push_reserved-clause-requires-clause-room
push_reserved-clause-requires-clause-room g c = grind (arith, common_steps)

pub returns-clause-added : goal.returns-clause-added
returns-clause-added g c = grind (arith, common_steps)
