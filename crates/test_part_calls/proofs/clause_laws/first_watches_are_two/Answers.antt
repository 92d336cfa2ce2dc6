use Rattle.clauses.proofs.CallerLaws
use Rattle.test_part_calls.proofs.clause_laws.first_watches_are_two.Goals as goal

pub returns : goal.returns
returns g c = CallerLaws.first_watches_are_two _
