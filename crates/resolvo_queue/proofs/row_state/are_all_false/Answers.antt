use Rattle.resolvo_queue.proofs.Words.{sets_of, values_in}
use Rattle.resolvo_queue.proofs.Rows.States.{none_false}
use Rattle.resolvo_queue.proofs.row_state.are_all_false.Goals as goal

pub returns-in-None : goal.returns-in-None
returns-in-None g c =
    none_false (values_in c.args.decisions.now) (sets_of (g.I.Interner.universe c.args.interner.now) c.args.requirement)
    c.args.lists.now c.args.requirement c.in-None.ensures
