use Rattle.std.proofs.Common.{arith}
use Rattle.std.proofs.lemmas.Grind.{common_steps}
use Rattle.id_storage.proofs.mapping.Mapping.unset.Goals as goal

pub returns-then-index-len-clause-earlier : goal.returns-then-index-len-clause-earlier
returns-then-index-len-clause-earlier g c = grind (arith, common_steps)

pub returns-then-index-len-clause-unset : goal.returns-then-index-len-clause-unset
returns-then-index-len-clause-unset g c = grind (arith, common_steps)

pub overflow_sub-self : goal.overflow_sub-self
overflow_sub-self g c = grind (arith, common_steps)

pub invariant_of-self : goal.invariant_of-self
invariant_of-self g c = grind (arith, common_steps)

pub invariant_of-self-else-is_some : goal.invariant_of-self-else-is_some
invariant_of-self-else-is_some g c = grind (arith, common_steps)

pub returns-then-is_some-clause-earlier : goal.returns-then-is_some-clause-earlier
returns-then-is_some-clause-earlier g c = grind (arith, common_steps)

pub returns-then-is_some-clause-count : goal.returns-then-is_some-clause-count
returns-then-is_some-clause-count g c = grind (arith, common_steps)

pub returns-else-is_some-clause-count : goal.returns-else-is_some-clause-count
returns-else-is_some-clause-count g c = grind (arith, common_steps)
