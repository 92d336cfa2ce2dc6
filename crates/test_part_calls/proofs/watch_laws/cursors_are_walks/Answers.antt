use Rattle.watch_map.proofs.CallerLaws
use Rattle.test_part_calls.proofs.watch_laws.cursors_are_walks.Goals as goal

pub returns-clause-divide : goal.returns-clause-divide
returns-clause-divide c = CallerLaws.cursors_divide

pub returns-clause-once : goal.returns-clause-once
returns-clause-once c = CallerLaws.clauses_are_met_once
