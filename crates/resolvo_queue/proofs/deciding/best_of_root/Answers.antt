use Rattle.std.proofs.Common.{◌≡◌, IfOk, option_map, slice_get, subst, sym}
use Rattle.resolvo_queue.proofs.Words.{clause_literals, grounds, list_at, offers_on, OfParent}
use Rattle.resolvo_queue.specs.References.{rows_in}
use Rattle.resolvo_queue.proofs.Picks.Steps.{only_walks_none}
use Rattle.resolvo_queue.proofs.Picks.Groups.{best_of_group, best_of_none, offers_own}
use Rattle.resolvo_queue.proofs.deciding.best_of_root.Goals as goal

pub returns-in-Some-clause-best : goal.returns-in-Some-clause-best
returns-in-Some-clause-best g c =
    let on = grounds g.I.Interner.universe g.I.NameId.Scores.IdMap.value_at c.args.question.now c.args.reader.now in
    subst (λ best. IfOk c.best_of.result (λ o. o ≡ best))
    (best_of_group c.args.tracked.now.index.clauses.items c.requires.decidable.located
    c.args.tracked.now.index.by_parent
    c.requires.decidable.first (offers_on on) (offers_own on.val (clause_literals on.refs) (rows_in on.refs) on.score)
    c.group_of.result c.in-Some.of_root (subst (λ root. c.group_of.result ≡ option_map OfParent
    (slice_get (list_at c.args.tracked.now.index.by_parent root) 0)) c.root.ensures c.group_of.ensures)
    c.in-Some.is) c.best_of.ensures.best

pub returns-in-None-clause-best : goal.returns-in-None-clause-best
returns-in-None-clause-best g c =
    let on = grounds g.I.Interner.universe g.I.NameId.Scores.IdMap.value_at c.args.question.now c.args.reader.now in
    sym (best_of_none c.args.tracked.now.index.clauses.items c.requires.decidable.located
    c.args.tracked.now.index.by_parent c.requires.decidable.first (offers_on on)
    (offers_own on.val (clause_literals on.refs) (rows_in on.refs) on.score)
    c.group_of.result (subst (λ root. c.group_of.result ≡ option_map OfParent
    (slice_get (list_at c.args.tracked.now.index.by_parent root) 0)) c.root.ensures c.group_of.ensures) c.in-None.is)

pub returns-in-None-clause-walks : goal.returns-in-None-clause-walks
returns-in-None-clause-walks g c = only_walks_none
