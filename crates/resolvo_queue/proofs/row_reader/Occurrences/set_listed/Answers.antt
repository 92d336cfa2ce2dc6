use Rattle.resolvo_queue.proofs.Rows.Occurrences.{listed_more}
use Rattle.resolvo_queue.proofs.row_reader.Occurrences.set_listed.Goals as goal
use Rattle.resolvo_queue.proofs.row_reader.Occurrences.set_listed.Goals.{in-Ok, in-Err}

pub returns-clause-ok : goal.returns-clause-ok
returns-clause-ok g c = elim c.match-insert.branch [
  | in-Ok w ↦ rw (w.result-is, ← c.self.view_is) (λ r.
      rw w.in-Ok.ensures.ok (listed_more c.self.inside.listed c.args.requirement _ r))
  | in-Err w ↦ rw w.result-is tt
]
