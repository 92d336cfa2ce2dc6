use Rattle.falsified_clauses.proofs.IndexLaws.{all_none}
use Rattle.falsified_clauses.proofs.group_index.GroupIndex.new.Goals as goal

pub returns : goal.returns
returns g c = λ key. all_none c.new.result.items c.new-2.result.items c.new-3.result.items c.new-4.result.items
    c.new.ensures c.new-2.ensures c.new-3.ensures c.new-4.ensures key
