use Rattle.resolvo_queue.proofs.Words.{sets_of, values_in}
use Rattle.resolvo_queue.proofs.Rows.States.{few_kept, none_kept}
use Rattle.resolvo_queue.proofs.row_state.requirement_state.Goals as goal

pub rows_state-requires : goal.rows_state-requires
rows_state-requires g c =
    few_kept c.deref.result.now c.in-Some.lists.now c.args.lists.now c.args.requirement c.deref.ensures.value
    c.in-Some.ensures c.requires.few

pub returns-in-None : goal.returns-in-None
returns-in-None g c =
    none_kept (values_in c.args.decisions.now) (sets_of (g.I.Interner.universe c.args.interner.now) c.args.requirement)
    c.args.lists.now c.args.requirement c.in-None.ensures
