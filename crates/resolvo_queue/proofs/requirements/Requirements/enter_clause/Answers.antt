use Rattle.std.proofs.Common.{sym, subst}
use Rattle.resolvo_queue.specs.WalkCounts.{OwesFirst}
use Rattle.resolvo_queue.proofs.Clauses.Gains.{enters_gain, entered_found, entered_place}
use Rattle.resolvo_queue.proofs.Walks.Owed.{owes_entered, owes_record}
use Rattle.resolvo_queue.proofs.requirements.Requirements.enter_clause.Goals as goal

pub returns-clause-gains : goal.returns-clause-gains
returns-clause-gains g c =
    enters_gain c.args.number c.args.requirement c.in_ok-place.place c.args.self.now c.enter.new.self
    c.add_clause.new.self c.in_ok-place.ensures.more c.in_ok-add_clause.ensures.ok

pub returns-clause-placed : goal.returns-clause-placed
returns-clause-placed g c =
    entered_place c.args.number c.args.requirement c.in_ok-place.place c.enter.new.self c.add_clause.new.self
    c.in_ok-add_clause.ensures.ok c.in_ok-place.ensures.place

pub returns-clause-found : goal.returns-clause-found
returns-clause-found g c =
    entered_found c.args.number c.args.requirement c.in_ok-place.place c.enter.new.self c.add_clause.new.self
    c.in_ok-add_clause.ensures.ok c.in_ok-place.ensures.place

pub returns-clause-owes : goal.returns-clause-owes
returns-clause-owes g c =
    owes_entered c.args.number c.args.requirement c.in_ok-place.place c.args.self.now c.enter.new.self
    c.add_clause.new.self c.in_ok-place.ensures.more c.in_ok-add_clause.ensures.ok

pub returns-in_err-add_clause-clause-owes : goal.returns-in_err-add_clause-clause-owes
returns-in_err-add_clause-clause-owes g c =
    subst (OwesFirst c.args.requirement c.args.self.now) (sym c.in_err-add_clause.ensures.err)
    (owes_record c.args.requirement c.args.self.now c.enter.new.self c.in_ok-place.ensures.more)

pub returns-clause-owes_one : goal.returns-clause-owes_one
returns-clause-owes_one g c = c.in_ok-add_clause.ensures.owes c.args.requirement
    (entered_place c.args.number c.args.requirement c.in_ok-place.place c.enter.new.self c.add_clause.new.self
    c.in_ok-add_clause.ensures.ok c.in_ok-place.ensures.place)
