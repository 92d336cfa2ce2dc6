use Rattle.std.proofs.Common.{◌≡◌, [], IfOk, subst, sym, ◌∙◌}
use Rattle.resolvo_queue.proofs.Words.{best_offer, grounds, Lists, offered, offers_on}
use Rattle.resolvo_queue.proofs.Picks.Steps.{along_walks, asked_by, only_walks_along}
use Rattle.resolvo_queue.proofs.Picks.Unbeaten.{picks_of_all, picks_of_root}
use Rattle.resolvo_queue.proofs.deciding.next_offer.Goals as goal

pub best_of-requires-clause-decidable : goal.best_of-requires-clause-decidable
best_of-requires-clause-decidable g c =
    asked_by (sym c.best_of_root.ensures.walks.lists) c.best_of_root.ensures.decidable

pub returns-in-Some-clause-picked : goal.returns-in-Some-clause-picked
returns-in-Some-clause-picked g c =
    let on = grounds g.I.Interner.universe g.I.NameId.Scores.IdMap.value_at c.args.question.now c.args.reader.now in
    sym (picks_of_root (offered c.args.tracked.now.index.clauses.items (offers_on on)) c.in-Some.offer
    (sym c.in_ok-offer.ensures.best ∙ c.in-Some.is))

pub returns-in-None-clause-picked : goal.returns-in-None-clause-picked
returns-in-None-clause-picked g c =
    let by = λ (lists : Lists _). grounds g.I.Interner.universe g.I.NameId.Scores.IdMap.value_at c.args.question.now
    (record { lists = lists; walked = [] }) in
    subst (λ best. IfOk c.best_of.result (λ o. o ≡ best))
    (along_walks (λ clauses lists. best_offer (offered clauses (offers_on (by lists)))) c.best_of_root.ensures.walks
    ∙ sym (picks_of_all (offered c.args.tracked.now.index.clauses.items (offers_on (by c.args.reader.now.lists)))
    (sym c.in_ok-offer.ensures.best ∙ c.in-None.is))) c.best_of.ensures.best

pub returns-in-None-clause-decidable : goal.returns-in-None-clause-decidable
returns-in-None-clause-decidable g c = asked_by c.best_of_root.ensures.walks.lists c.best_of.ensures.decidable

pub returns-in-None-clause-walks : goal.returns-in-None-clause-walks
returns-in-None-clause-walks g c = only_walks_along c.best_of_root.ensures.walks c.best_of.ensures.walks
