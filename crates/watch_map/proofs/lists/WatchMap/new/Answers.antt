use Rattle.watch_map.proofs.StartLaws.{empty_lists, empty_watched}
use Rattle.watch_map.proofs.lists.WatchMap.new.Goals as goal

pub returns-clause-watched : goal.returns-clause-watched
returns-clause-watched g c = empty_watched c.in_ok-new.field-0 c.in_ok-new.ensures.empty

pub returns-clause-empty : goal.returns-clause-empty
returns-clause-empty g c = empty_lists c.in_ok-new.field-0 c.in_ok-new.ensures.empty
