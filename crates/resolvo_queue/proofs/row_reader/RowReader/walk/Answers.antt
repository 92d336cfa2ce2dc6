use Rattle.std.proofs.Common.{sym, ◌∙◌}
use Rattle.decisions.specs.Decisions.{values_in}
use Rattle.resolvo_queue.proofs.Rows.States.{undecided-known}
use Rattle.resolvo_queue.proofs.row_reader.RowReader.walk.Goals as goal
use Rattle.resolvo_queue.proofs.row_reader.RowReader.walk.Goals.{in-Undecided, in-Satisfied}

pub returns-clause-set : goal.returns-clause-set
returns-clause-set g c = elim c.match-requirement_state.branch [
  | in-Undecided w ↦ rw w.result-is (undecided-known (g.I.Interner.universe c.args.interner.now)
      (values_in c.args.map.now) c.self.inside.lists.now c.args.requirement w.in-Undecided.frontier
      (g.met.I.Interner.union_sets_known c.args.interner.now) c.requires.known
      (sym c.requirement_state.ensures ∙ w.in-Undecided.is))
  | in-Satisfied w ↦ rw w.result-is tt
]
