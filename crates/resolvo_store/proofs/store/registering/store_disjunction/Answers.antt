use Rattle.std.proofs.Common.{arith}
use Rattle.std.proofs.lemmas.Grind.{common_steps}
use Rattle.resolvo_store.proofs.store.registering.store_disjunction.Goals as goal

pub returns-in_err-literals-clause-ids_out : goal.returns-in_err-literals-clause-ids_out
returns-in_err-literals-clause-ids_out g c = grind (arith, common_steps)

pub returns-in_err-id-clause-ids_out : goal.returns-in_err-id-clause-ids_out
returns-in_err-id-clause-ids_out g c = grind (arith, common_steps)

pub returns-clause-ok : goal.returns-clause-ok
returns-clause-ok g c = grind (arith, common_steps)

pub returns-clause-ids_out : goal.returns-clause-ids_out
returns-clause-ids_out g c = grind (arith, common_steps)
