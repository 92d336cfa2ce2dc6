use Rattle.std.proofs.Common.{arith}
use Rattle.id_storage.proofs.ArenaLemmas.{count_of_pairs}
use Rattle.id_storage.proofs.arena.Arena.iter.Goals as goal

pub returns-clause-len : goal.returns-clause-len
returns-clause-len g c = grind (arith, count_of_pairs)

pub returns-clause-fits : goal.returns-clause-fits
returns-clause-fits g c = grind (arith, count_of_pairs)
