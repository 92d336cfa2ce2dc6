use Rattle.watch_map.proofs.CallerLaws
use Rattle.test_part_calls.proofs.watch_laws.records_may_grow.Goals as goal

pub returns-clause-same : goal.returns-clause-same
returns-clause-same c = CallerLaws.same_records_belong

pub returns-clause-watched : goal.returns-clause-watched
returns-clause-watched c = CallerLaws.records_grow

pub returns-clause-joins : goal.returns-clause-joins
returns-clause-joins c = CallerLaws.new_clauses_join

pub returns-clause-unwatched : goal.returns-clause-unwatched
returns-clause-unwatched c = CallerLaws.records_skip
