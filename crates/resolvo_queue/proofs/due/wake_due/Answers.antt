use Rattle.std.proofs.Common.{◌≤◌, ◌∙◌, inl, length, slice_get, sym, ap, subst}
use Rattle.resolvo_queue.proofs.Words.{AllWokenFrom, GrowsBy, IsOfClause, values_in}
use Rattle.resolvo_queue.proofs.Syncs.Forgetting.{always_ok}
use Rattle.resolvo_queue.proofs.Syncs.Noting.{all_stay}
use Rattle.resolvo_queue.proofs.Syncs.Queued.{grows_both}
use Rattle.resolvo_queue.proofs.due.wake_due.Goals as goal

pub wake_from-requires-clause-numbers : goal.wake_from-requires-clause-numbers
wake_from-requires-clause-numbers g c =
    λ n d e. c.requires.numbers n d (ap (λ cs. slice_get cs n) (sym c.as_slice.ensures.value) ∙ e)

pub wake_from-requires-clause-first : goal.wake_from-requires-clause-first
wake_from-requires-clause-first g c =
    subst (λ cs. c.args.first ≤ length cs) (sym c.as_slice.ensures.value) c.requires.first

pub returns-in_err-wake_from-clause-grows : goal.returns-in_err-wake_from-clause-grows
returns-in_err-wake_from-clause-grows g c =
    subst (λ cs. GrowsBy (IsOfClause cs) c.args.queued.now c.wake_from.new.queued) c.as_slice.ensures.value
    c.wake_from.ensures.grows

pub returns-in_err-wake_from-clause-settles : goal.returns-in_err-wake_from-clause-settles
returns-in_err-wake_from-clause-settles g c = λ d h. inl h

pub returns-clause-grows : goal.returns-clause-grows
returns-clause-grows g c =
    let clauses = c.args.index.now.clauses.items in
    grows_both (IsOfClause clauses) c.args.queued.now c.wake_from.new.queued c.wake_noted.new.queued
    (subst (λ cs. GrowsBy (IsOfClause cs) c.args.queued.now c.wake_from.new.queued) c.as_slice.ensures.value
    c.wake_from.ensures.grows) c.wake_noted.ensures.grows

pub returns-clause-woken : goal.returns-clause-woken
returns-clause-woken g c =
    let clauses = c.args.index.now.clauses.items in
    let val = values_in c.args.question.now.map.now in
    always_ok (AllWokenFrom c.args.first clauses val c.wake_noted.new.queued) c.wake_noted.result
    (all_stay clauses c.args.first val c.wake_from.new.queued c.wake_noted.new.queued c.wake_noted.ensures.grows
    (subst (λ cs. AllWokenFrom c.args.first cs val c.wake_from.new.queued) c.as_slice.ensures.value
    c.in_ok-wake_from.ensures.woken))
