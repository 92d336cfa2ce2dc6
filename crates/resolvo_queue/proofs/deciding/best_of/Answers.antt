use Rattle.std.proofs.Common.{◌≡◌, [], IfOk, subst, sym, ◌∙◌}
use Rattle.resolvo_queue.proofs.Words.{grounds, Lists, offers_of, offers_on, rest_picked}
use Rattle.resolvo_queue.proofs.Picks.Steps.{along_walks, asked_by, only_walks_along}
use Rattle.resolvo_queue.proofs.Picks.Ready.{match_some}
use Rattle.resolvo_queue.proofs.deciding.best_of.Goals as goal

pub best_from-requires-clause-decidable : goal.best_from-requires-clause-decidable
best_from-requires-clause-decidable g c =
    asked_by (sym c.first_eligible.ensures.walks.lists) c.first_eligible.ensures.decidable

pub returns-in-Some-clause-best : goal.returns-in-Some-clause-best
returns-in-Some-clause-best g c =
    let by = λ (lists : Lists _). grounds g.I.Interner.universe g.I.NameId.Scores.IdMap.value_at c.args.question.now
    (record { lists = lists; walked = [] }) in
    subst (λ best. IfOk c.best_from.result (λ o. o ≡ best))
    (along_walks (λ clauses lists. rest_picked clauses (offers_of c.args.group (offers_on (by lists)))
    c.in-Some.first.offer c.in-Some.first.position) c.first_eligible.ensures.walks
    ∙ sym (match_some c.in_ok-first.field-0 c.in-Some.first _ _ c.in-Some.is c.in_ok-first.ensures.picked))
    c.best_from.ensures.best

pub returns-in-Some-clause-decidable : goal.returns-in-Some-clause-decidable
returns-in-Some-clause-decidable g c = asked_by c.first_eligible.ensures.walks.lists c.best_from.ensures.decidable

pub returns-in-Some-clause-walks : goal.returns-in-Some-clause-walks
returns-in-Some-clause-walks g c = only_walks_along c.first_eligible.ensures.walks c.best_from.ensures.walks
