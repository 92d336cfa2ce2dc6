use Rattle.std.proofs.Common.{arith}
use Rattle.std.proofs.lemmas.Grind.{common_steps}
use Rattle.id_storage.proofs.ArenaLemmas.{values_of_pairs}
use Rattle.test_part_calls.proofs.arena_callers.total.Goals as goal

-- the values of the pairs are the arena's
pub loop-value-init : goal.loop-value-init
loop-value-init g c =
    grind (arith, common_steps, values_of_pairs g.TId.DenseIndex.id_at 0 c.args.arena.now)
