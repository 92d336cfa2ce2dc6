use Rattle.resolvo_queue.proofs.Words.{FindsBelow, is_falsified_in, refs_of, values_in}
use Rattle.resolvo_queue.proofs.falsification.falsified_clause.Given as goal

abbrev pub invariant-loop-clause : goal.invariant-loop-clause
invariant-loop-clause g l =
    FindsBelow l.clauses (is_falsified_in (refs_of g.I.Interner.universe l.question) (values_in l.question.map.now))
    l.clause-index l.first
