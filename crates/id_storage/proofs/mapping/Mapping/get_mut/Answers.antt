use Rattle.std.proofs.Common.{arith}
use Rattle.std.proofs.lemmas.Grind.{common_steps}
use Rattle.id_storage.proofs.mapping.Mapping.get_mut.Goals as goal

pub returns-then-is_none : goal.returns-then-is_none
returns-then-is_none g c = grind (arith, common_steps)

pub index_mut-requires : goal.index_mut-requires
index_mut-requires g c = grind (arith, common_steps)

pub invariant_of-self-lent : goal.invariant_of-self-lent
invariant_of-self-lent g c = grind (arith, common_steps)

pub returns : goal.returns
returns g c = grind (arith, common_steps)
