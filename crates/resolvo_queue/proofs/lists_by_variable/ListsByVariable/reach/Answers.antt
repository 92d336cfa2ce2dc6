use Rattle.std.proofs.Common.{◌∙◌}
use Rattle.resolvo_queue.specs.Rows.ByVariable.{items_in}
use Rattle.resolvo_queue.proofs.Rows.ByVariable.{same_with_empty}
use Rattle.resolvo_queue.proofs.lists_by_variable.ListsByVariable.reach.Goals as goal

pub loop-alloc-preserved : goal.loop-alloc-preserved
loop-alloc-preserved g c = λ key. same_with_empty items_in c.loop-alloc.self-inside.lists.items c.push.new.self.items
    c.new-in-loop-alloc.result c.in-Ok.ensures.items (rw c.new-in-loop-alloc.ensures c.new.ensures.items) key
    ∙ c.loop-alloc.invariant key

pub returns-in-Err-clause-same : goal.returns-in-Err-clause-same
returns-in-Err-clause-same g c = λ key. rw c.in-Err.ensures.items (c.loop-alloc.invariant key)
