use Rattle.std.proofs.Common.{◌≡◌, Some, slice_get, subst, sym, ap, ◌∙◌}
use Rattle.resolvo_queue.proofs.Words.{clause_literals, eligible_frontier, grounds, is_in, IsOfClause, loaded_rows}
use Rattle.resolvo_queue.specs.References.{rows_in}
use Rattle.resolvo_queue.proofs.Picks.Steps.{asked_by, only_walks_along, only_walks_none, ready_by}
use Rattle.resolvo_queue.proofs.Picks.Decisions.{first_found, none_found}
use Rattle.resolvo_queue.proofs.Picks.Groups.{of_both}
use Rattle.resolvo_queue.proofs.Picks.Ready.{match_none, offer_found}
use Rattle.resolvo_queue.proofs.deciding.first_eligible.Goals as goal

pub inspect_at-requires-clause-of : goal.inspect_at-requires-clause-of
inspect_at-requires-clause-of g c = c.loop-position.invariant.decidable.ready.all_of c.in-Some.position
    (of_both c.args.group c.loop-position.tracked.queued.all c.in-Some.position c.in-Some.ensures.none).1

pub inspect_at-requires-clause-decidable : goal.inspect_at-requires-clause-decidable
inspect_at-requires-clause-decidable g c =
    asked_by (sym c.loop-position.invariant.walks.lists) c.loop-position.invariant.decidable

pub returns-in-Some-2-clause-picked : goal.returns-in-Some-2-clause-picked
returns-in-Some-2-clause-picked g c =
    let on = grounds g.I.Interner.universe g.I.NameId.Scores.IdMap.value_at c.args.question.now c.args.reader.now in
    first_found c.args.tracked.now.index.clauses.items (clause_literals on.refs)
    (rows_in on.refs) on.val on.score c.requires.decidable.located c.args.group
    c.loop-position.tracked.requirements c.loop-position.tracked.queued
    (ready_by c.loop-position.invariant.walks.index c.loop-position.invariant.decidable)
    c.in-Some.position c.in-Some.ensures.none c.in-Some.ensures.least c.candidate_at.result
    (λ d s. let looked : slice_get c.loop-position.tracked.index.clauses.items c.in-Some.position.number ≡ Some d =
    subst (λ ix. slice_get ix.clauses.items c.in-Some.position.number ≡ Some d)
    (sym c.loop-position.invariant.walks.index) s in
    offer_found (clause_literals on.refs) (rows_in on.refs) on.val on.score c.in_ok-frontier.field-0
    c.in-Some-2.frontier c.candidate_at.result.offer d c.in-Some-2.is (c.in_ok-frontier.ensures.frontier d looked
    ∙ ap (λ ls. eligible_frontier on.val (clause_literals on.refs) (loaded_rows on.refs.universe ls) d)
    c.loop-position.invariant.walks.lists)
    (c.candidate_at.ensures.offer d (subst (λ ix. slice_get ix.clauses.items c.in-Some.position.number ≡ Some d)
    (sym c.inspect_at.ensures.walks.index) looked))) c.candidate_at.ensures.at

pub candidate_at-requires-clause-of : goal.candidate_at-requires-clause-of
candidate_at-requires-clause-of g c =
    subst (λ ix. IsOfClause ix.clauses.items c.in-Some.position) (sym c.inspect_at.ensures.walks.index)
    (c.loop-position.invariant.decidable.ready.all_of c.in-Some.position
    (of_both c.args.group c.loop-position.tracked.queued.all c.in-Some.position c.in-Some.ensures.none).1)

pub returns-in-Some-2-clause-of : goal.returns-in-Some-2-clause-of
returns-in-Some-2-clause-of g c = ap (is_in c.args.group) c.candidate_at.ensures.at ∙
    (of_both c.args.group c.loop-position.tracked.queued.all c.in-Some.position c.in-Some.ensures.none).0

pub returns-clause-picked : goal.returns-clause-picked
returns-clause-picked g c =
    let on = grounds g.I.Interner.universe g.I.NameId.Scores.IdMap.value_at c.args.question.now c.args.reader.now in
    none_found c.args.tracked.now.index.clauses.items (clause_literals on.refs) (rows_in on.refs) on.val on.score
    c.requires.decidable.located c.args.group c.loop-position.tracked.requirements c.loop-position.tracked.queued
    (ready_by c.loop-position.invariant.walks.index c.loop-position.invariant.decidable)
    (match_none c.first_of.result _ _ c.in_default.is c.first_of.ensures.none)

pub loop-position-preserved : goal.loop-position-preserved
loop-position-preserved g c = record {
  decidable = asked_by c.loop-position.invariant.walks.lists c.inspect_at.ensures.decidable;
  walks = only_walks_along c.loop-position.invariant.walks c.inspect_at.ensures.walks;
}

pub loop-position-init : goal.loop-position-init
loop-position-init g c = record { decidable = c.requires.decidable; walks = only_walks_none }

pub returns-in-Some-2-clause-decidable : goal.returns-in-Some-2-clause-decidable
returns-in-Some-2-clause-decidable g c = asked_by c.loop-position.invariant.walks.lists c.inspect_at.ensures.decidable

pub returns-in-Some-2-clause-walks : goal.returns-in-Some-2-clause-walks
returns-in-Some-2-clause-walks g c = only_walks_along c.loop-position.invariant.walks c.inspect_at.ensures.walks

pub returns-in_err-frontier-clause-decidable : goal.returns-in_err-frontier-clause-decidable
returns-in_err-frontier-clause-decidable g c =
    asked_by c.loop-position.invariant.walks.lists c.inspect_at.ensures.decidable

pub returns-in_err-frontier-clause-walks : goal.returns-in_err-frontier-clause-walks
returns-in_err-frontier-clause-walks g c = only_walks_along c.loop-position.invariant.walks c.inspect_at.ensures.walks
