use Rattle.std.proofs.Common.{[]}
use Rattle.resolvo_queue.proofs.Rows.Occurrences.{push_grows, push_has}
use Rattle.resolvo_queue.proofs.row_reader.Occurrences.add.Goals as goal

pub returns-clause-grows : goal.returns-clause-grows
returns-clause-grows g c = rw (← c.self.view_is)
    (push_grows c.args.requirement c.push.result c.args.variable _ _ c.push.ensures.ok c.push.ensures.err)

pub returns-clause-ok : goal.returns-clause-ok
returns-clause-ok g c = push_has c.args.requirement c.push.result c.args.variable
    (record { listed = []; by_variable = c.self.inside.by_variable })
    (record { listed = []; by_variable = c.push.new.self }) c.push.ensures.ok
