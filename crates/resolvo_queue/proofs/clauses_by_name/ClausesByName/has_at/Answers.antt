use Rattle.std.proofs.Common.{sym, subst, eqb-true, ◌∙◌}
use Rattle.resolvo_queue.proofs.Words.{at_place, IsFrom}
use Rattle.resolvo_queue.proofs.clauses_by_name.ClausesByName.has_at.Goals as goal

pub returns-in-Some-entry : goal.returns-in-Some-entry
returns-in-Some-entry g c = λ same.
    let entry = c.in-Some-entry.entry in
    subst (IsFrom c.args.self.now.entries c.args.number) (sym c.in-Some.is)
    (at_place c.in-Some.place entry (sym c.entry.ensures.entry ∙ c.in-Some-entry.is)
    (eqb-true entry.number c.args.number same))
