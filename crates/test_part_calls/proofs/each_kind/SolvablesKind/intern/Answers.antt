use Rattle.std.proofs.Common.{◌∙◌, sym}
use Rattle.test_part_calls.proofs.NewEachTime.{place_at_end}
use Rattle.test_part_calls.proofs.each_kind.SolvablesKind.intern.Goals as goal

pub returns-clause-id : goal.returns-clause-id
returns-clause-id g c =
    c.in_ok-intern_solvable.ensures.id ∙ sym (place_at_end c.args.value c.args.pool.now.solvables)
