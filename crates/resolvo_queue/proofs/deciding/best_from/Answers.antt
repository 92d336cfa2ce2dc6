use Rattle.std.proofs.Common.{◌<◌, refl, subst, sym, ◌∙◌, lt_trans, IfSome}
use Rattle.resolvo_queue.proofs.Words.{clause_literals, grounds, IsNextOf, set_of}
use Rattle.resolvo_queue.specs.References.{rows_in}
use Rattle.resolvo_queue.proofs.Picks.Steps.{asked_by, only_walks_along, only_walks_none, ready_by}
use Rattle.resolvo_queue.proofs.Picks.Decisions.{behind_falls, clauses_behind, done_picked}
use Rattle.resolvo_queue.proofs.Picks.Groups.{of_both}
use Rattle.resolvo_queue.proofs.Picks.Ready.{match_none}
use Rattle.resolvo_queue.proofs.Picks.Rivals.{rival_of, rival_passed}
use Rattle.resolvo_queue.proofs.deciding.best_from.Goals as goal

pub loop-first-init : goal.loop-first-init
loop-first-init g c = record {
  picked = refl;
  of = c.requires.of;
  decidable = c.requires.decidable;
  walks = only_walks_none;
}

-- ---- the first of the two

pub improve-requires-clause-of : goal.improve-requires-clause-of
improve-requires-clause-of g c =
    let on = grounds g.I.Interner.universe g.I.NameId.Scores.IdMap.value_at c.args.question.now c.args.reader.now in
    rival_of on c.loop-first.invariant.decidable refl c.args.group c.in-Some.first c.in-Some.ensures.none

pub improve-requires-clause-decidable : goal.improve-requires-clause-decidable
improve-requires-clause-decidable g c =
    asked_by (sym c.loop-first.invariant.walks.lists) c.loop-first.invariant.decidable

pub returns-in_err-improve-clause-decidable : goal.returns-in_err-improve-clause-decidable
returns-in_err-improve-clause-decidable g c = asked_by c.loop-first.invariant.walks.lists c.improve.ensures.decidable

pub returns-in_err-improve-clause-walks : goal.returns-in_err-improve-clause-walks
returns-in_err-improve-clause-walks g c = only_walks_along c.loop-first.invariant.walks c.improve.ensures.walks

pub loop-first-smaller : goal.loop-first-smaller
loop-first-smaller g c =
    let on = grounds g.I.Interner.universe g.I.NameId.Scores.IdMap.value_at c.args.question.now c.args.reader.now in
    behind_falls c.args.tracked.now.index.clauses.items c.requires.decidable.located c.loop-first.cursor c.in-Some.first
    (rival_of on c.loop-first.invariant.decidable c.loop-first.invariant.walks.index c.args.group c.in-Some.first
    c.in-Some.ensures.none) c.in-Some.ensures.behind

pub loop-first-preserved : goal.loop-first-preserved
loop-first-preserved g c =
    let on = grounds g.I.Interner.universe g.I.NameId.Scores.IdMap.value_at c.args.question.now c.args.reader.now in
    let looked = c.loop-first.tracked in
    let walks = c.loop-first.invariant.walks in
    record {
      picked = c.loop-first.invariant.picked
          ∙ rival_passed on c.loop-first.invariant.decidable walks.index c.args.group c.in-Some.first
          c.in-Some.ensures.none
          c.requires.decidable.located c.requires.cold c.args.question.now.largest c.requires.largest
          c.loop-first.best.offer c.loop-first.cursor c.in-Some.ensures.behind c.in-Some.ensures.least
          looked walks.index walks.lists c.improve.new.best.offer c.in_ok-improve.ensures.better;
      of = (of_both c.args.group (set_of looked.only_hot looked.queued) c.in-Some.first c.in-Some.ensures.none).0;
      decidable = asked_by walks.lists c.improve.ensures.decidable;
      walks = only_walks_along walks c.improve.ensures.walks;
    }

-- ---- the second, which was behind the first when both were looked for

pub improve-requires-in-Some-second-clause-of : goal.improve-requires-in-Some-second-clause-of
improve-requires-in-Some-second-clause-of g c =
    let on = grounds g.I.Interner.universe g.I.NameId.Scores.IdMap.value_at c.args.question.now c.args.reader.now in
    let looked = c.loop-first.tracked in
    let next : IsNextOf c.args.group (set_of looked.only_hot looked.queued) c.in-Some.first c.in-Some-second.position =
    subst (λ o. IfSome o (λ p. IsNextOf c.args.group (set_of looked.only_hot looked.queued) c.in-Some.first p))
    c.in-Some-second.is c.in-Some.ensures.next in
    rival_of on c.loop-first.invariant.decidable (sym c.improve.ensures.walks.index) c.args.group
    c.in-Some-second.position
    next.there

pub improve-requires-in-Some-second-clause-decidable : goal.improve-requires-in-Some-second-clause-decidable
improve-requires-in-Some-second-clause-decidable g c =
    let walks = only_walks_along c.loop-first.invariant.walks c.improve.ensures.walks in
    asked_by (sym walks.lists) (asked_by c.loop-first.invariant.walks.lists c.improve.ensures.decidable)

pub returns-in_err-improve-2-clause-decidable : goal.returns-in_err-improve-2-clause-decidable
returns-in_err-improve-2-clause-decidable g c =
    let walks = only_walks_along c.loop-first.invariant.walks c.improve.ensures.walks in
    asked_by walks.lists c.improve-in-Some-second.ensures.decidable

pub returns-in_err-improve-2-clause-walks : goal.returns-in_err-improve-2-clause-walks
returns-in_err-improve-2-clause-walks g c =
    only_walks_along (only_walks_along c.loop-first.invariant.walks c.improve.ensures.walks)
    c.improve-in-Some-second.ensures.walks

pub loop-first-smaller-in-Some-second : goal.loop-first-smaller-in-Some-second
loop-first-smaller-in-Some-second g c =
    let on = grounds g.I.Interner.universe g.I.NameId.Scores.IdMap.value_at c.args.question.now c.args.reader.now in
    let clauses = c.args.tracked.now.index.clauses.items in
    let looked = c.loop-first.tracked in
    let same = c.loop-first.invariant.walks.index in
    let next : IsNextOf c.args.group (set_of looked.only_hot looked.queued) c.in-Some.first c.in-Some-second.position =
    subst (λ o. IfSome o (λ p. IsNextOf c.args.group (set_of looked.only_hot looked.queued) c.in-Some.first p))
    c.in-Some-second.is c.in-Some.ensures.next in
    let one : clauses_behind clauses c.in-Some.first < clauses_behind clauses c.loop-first.cursor =
    behind_falls clauses c.requires.decidable.located c.loop-first.cursor c.in-Some.first
    (rival_of on c.loop-first.invariant.decidable same c.args.group c.in-Some.first c.in-Some.ensures.none)
    c.in-Some.ensures.behind in
    let two : clauses_behind clauses c.in-Some-second.position < clauses_behind clauses c.in-Some.first =
    behind_falls clauses c.requires.decidable.located c.in-Some.first c.in-Some-second.position
    (rival_of on c.loop-first.invariant.decidable same c.args.group c.in-Some-second.position next.there) next.behind in
    lt_trans two one

pub loop-first-preserved-in-Some-second : goal.loop-first-preserved-in-Some-second
loop-first-preserved-in-Some-second g c =
    let on = grounds g.I.Interner.universe g.I.NameId.Scores.IdMap.value_at c.args.question.now c.args.reader.now in
    let looked = c.loop-first.tracked in
    let before = c.loop-first.invariant.walks in
    let walks = only_walks_along before c.improve.ensures.walks in
    let next : IsNextOf c.args.group (set_of looked.only_hot looked.queued) c.in-Some.first c.in-Some-second.position =
    subst (λ o. IfSome o (λ p. IsNextOf c.args.group (set_of looked.only_hot looked.queued) c.in-Some.first p))
    c.in-Some-second.is c.in-Some.ensures.next in
    record {
      picked = c.loop-first.invariant.picked
          ∙ (rival_passed on c.loop-first.invariant.decidable before.index c.args.group c.in-Some.first
          c.in-Some.ensures.none c.requires.decidable.located c.requires.cold c.args.question.now.largest
          c.requires.largest c.loop-first.best.offer c.loop-first.cursor c.in-Some.ensures.behind
          c.in-Some.ensures.least looked before.index before.lists c.improve.new.best.offer
          c.in_ok-improve.ensures.better
          ∙ rival_passed on c.loop-first.invariant.decidable before.index c.args.group c.in-Some-second.position
          next.there
          c.requires.decidable.located c.requires.cold c.args.question.now.largest c.requires.largest
          c.improve.new.best.offer c.in-Some.first next.behind next.least c.improve.new.tracked walks.index walks.lists
          c.improve-in-Some-second.new.best.offer c.in_ok-improve-2.ensures.better);
      of = (of_both c.args.group (set_of looked.only_hot looked.queued) c.in-Some-second.position next.there).0;
      decidable = asked_by walks.lists c.improve-in-Some-second.ensures.decidable;
      walks = only_walks_along walks c.improve-in-Some-second.ensures.walks;
    }

-- ---- the end

pub returns-clause-best : goal.returns-clause-best
returns-clause-best g c =
    let on = grounds g.I.Interner.universe g.I.NameId.Scores.IdMap.value_at c.args.question.now c.args.reader.now in
    let tracked = c.loop-first.tracked in
    sym (c.loop-first.invariant.picked ∙ done_picked c.args.tracked.now.index.clauses.items (clause_literals on.refs)
    (rows_in on.refs) on.val on.score c.requires.decidable.located c.args.group tracked.requirements tracked.queued
    (ready_by c.loop-first.invariant.walks.index c.loop-first.invariant.decidable)
    c.requires.cold c.args.question.now.largest c.requires.largest tracked.only_hot c.loop-first.best.offer
    c.loop-first.cursor (match_none c.next_rivals.result _ _ c.in_default.is c.next_rivals.ensures.none))
