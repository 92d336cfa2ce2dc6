use Rattle.std.proofs.Common.{arith}
use Rattle.std.proofs.lemmas.Grind.{common_steps}
use Rattle.id_storage.proofs.mapping.Mapping.get_or_insert_with.Goals as goal

pub overflow_add-self : goal.overflow_add-self
overflow_add-self g c = grind (arith, common_steps)

pub invariant_of-self-lent : goal.invariant_of-self-lent
invariant_of-self-lent g c = grind (arith, common_steps)
