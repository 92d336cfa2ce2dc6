use Rattle.std.proofs.Common.{[], ◌∷◌, get_or, subst, take_all}
use Rattle.resolvo_queue.proofs.Words.{AreUnknown, IsOfClause, Single, ways}
use Rattle.resolvo_queue.proofs.Syncs.Queued.{grows_both}
use Rattle.resolvo_queue.proofs.Syncs.Forgetting.{forgets_both, step_unknown, wakes_both, among_both, among_read}
use Rattle.resolvo_queue.proofs.routing.forget_all.Goals as goal

pub loop-requirement-preserved : goal.loop-requirement-preserved
loop-requirement-preserved g c = record {
  grows = grows_both (IsOfClause c.args.routing.now.clauses.now) c.args.queued.now c.loop-requirement.queued
      c.forget.new.queued c.loop-requirement.invariant.grows c.forget.ensures.grows;
  only = forgets_both c.args.requirements.now c.loop-requirement.requirements c.forget.new.requirements
      c.loop-requirement.invariant.only c.forget.ensures.only;
  others = among_both c.args.listed.now
      (get_or c.args.listed.now c.loop-requirement.requirement-index (Single (record { 0 = 0 })) ∷ [])
      (among_read c.args.listed.now c.loop-requirement.requirement-index
      (Single (record { 0 = 0 })) c.loop-requirement-test.true)
      c.args.requirements.now c.loop-requirement.requirements c.forget.new.requirements
      c.loop-requirement.invariant.others c.forget.ensures.others;
  unknown = step_unknown c.args.listed.now c.loop-requirement.requirement-index
      (Single (record { 0 = 0 })) c.loop-requirement-test.true
      c.loop-requirement.requirements c.forget.new.requirements c.forget.ensures.only
      c.loop-requirement.invariant.unknown c.in_ok-forget.ensures.unknown;
  woken = wakes_both (ways c.args.routing.now) c.args.requirements.now c.loop-requirement.requirements
      c.forget.new.requirements
      c.loop-requirement.queued c.forget.new.queued c.loop-requirement.invariant.only c.forget.ensures.grows
      c.loop-requirement.invariant.woken c.in_ok-forget.ensures.woken;
}

pub returns-clause-unknown : goal.returns-clause-unknown
returns-clause-unknown g c = subst (λ rs. AreUnknown rs c.loop-requirement.requirements)
    (take_all c.loop-requirement.requirement-index c.args.listed.now c.loop-requirement-test.false)
    c.loop-requirement.invariant.unknown

pub returns-in_err-forget-clause-others : goal.returns-in_err-forget-clause-others
returns-in_err-forget-clause-others g c = among_both c.args.listed.now
    (get_or c.args.listed.now c.loop-requirement.requirement-index (Single (record { 0 = 0 })) ∷ [])
    (among_read c.args.listed.now c.loop-requirement.requirement-index
    (Single (record { 0 = 0 })) c.loop-requirement-test.true)
    c.args.requirements.now c.loop-requirement.requirements c.forget.new.requirements
    c.loop-requirement.invariant.others c.forget.ensures.others
