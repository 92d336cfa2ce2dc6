use Rattle.std.proofs.Common.{◌+◌, subst, sym, ◌∙◌}
use Rattle.resolvo_queue.proofs.Words.{FindsBelow, is_falsified_in, refs_of, values_in}
use Rattle.resolvo_queue.proofs.Falsified.Scanned.{finds_all, finds_none, finds_still, finds_this}
use Rattle.resolvo_queue.proofs.Syncs.Queued.{read_at}
use Rattle.resolvo_queue.proofs.falsification.falsified_clause.Goals as goal
use Rattle.resolvo_queue.proofs.falsification.falsified_clause.Goals.{then-is_earlier, else-is_earlier}

pub is_earlier-requires-clause-condition : goal.is_earlier-requires-clause-condition
is_earlier-requires-clause-condition g c = (c.requires.inspectable c.loop-clause.clause-index c.clause-item.result
    (read_at c.args.clauses.now c.loop-clause.clause-index c.clause-item.result c.loop-clause-test.true
    c.clause-item.is)).condition

pub is_earlier-requires-clause-walkable : goal.is_earlier-requires-clause-walkable
is_earlier-requires-clause-walkable g c = (c.requires.inspectable c.loop-clause.clause-index c.clause-item.result
    (read_at c.args.clauses.now c.loop-clause.clause-index c.clause-item.result c.loop-clause-test.true
    c.clause-item.is)).walkable

pub loop-clause-init : goal.loop-clause-init
loop-clause-init g c = finds_none c.args.clauses.now
    (is_falsified_in (refs_of g.I.Interner.universe c.args.question.now) (values_in c.args.question.now.map.now))

pub loop-clause-preserved : goal.loop-clause-preserved
loop-clause-preserved g c =
    let at = read_at c.args.clauses.now c.loop-clause.clause-index c.clause-item.result c.loop-clause-test.true
    c.clause-item.is in
    let clauses = c.args.clauses.now in
    let index = c.loop-clause.clause-index in
    let falsified = is_falsified_in (refs_of g.I.Interner.universe c.args.question.now)
    (values_in c.args.question.now.map.now) in
    elim c.if-is_earlier.branch [
      | then-is_earlier w ↦ subst (FindsBelow clauses falsified (index + 1)) (sym w.first-is)
          (finds_this clauses falsified index c.clause-item.result at c.loop-clause.first c.loop-clause.invariant
          (sym c.is_earlier.ensures ∙ w.if-is_earlier.true))
      | else-is_earlier w ↦ subst (FindsBelow clauses falsified (index + 1)) (sym w.first-is)
          (finds_still clauses falsified index c.clause-item.result at c.loop-clause.first c.loop-clause.invariant
          (sym c.is_earlier.ensures ∙ w.if-is_earlier.false))
    ]

pub returns : goal.returns
returns g c = finds_all c.args.clauses.now
    (is_falsified_in (refs_of g.I.Interner.universe c.args.question.now) (values_in c.args.question.now.map.now))
    c.loop-clause.clause-index c.loop-clause.first c.loop-clause-test.false c.loop-clause.invariant
