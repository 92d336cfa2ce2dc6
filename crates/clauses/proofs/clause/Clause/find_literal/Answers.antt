use Rattle.std.proofs.Common.{refl}
use Rattle.clauses.specs.Stored.{stored_in}
use Rattle.clauses.proofs.clause.Clause.find_literal.Goals as goal

pub returns-in-Learnt-clause-first : goal.returns-in-Learnt-clause-first
returns-in-Learnt-clause-first g c =
    let stored = stored_in c.args.learnt.now c.args.lists.now c.args.disjunctions.now in
    let all = rw c.in-Learnt.is at c.stored_literals.ensures stored refl refl in
    rw c.in-Learnt.is (rw all at c.find_among.ensures.first)

pub returns-in-Learnt-clause-tested : goal.returns-in-Learnt-clause-tested
returns-in-Learnt-clause-tested g c =
    let stored = stored_in c.args.learnt.now c.args.lists.now c.args.disjunctions.now in
    let all = rw c.in-Learnt.is at c.stored_literals.ensures stored refl refl in
    rw c.in-Learnt.is (rw all at c.find_among.ensures.tested)
