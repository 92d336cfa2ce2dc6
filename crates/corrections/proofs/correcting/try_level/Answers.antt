use Rattle.std.proofs.Common.{Bool, List, length, subst}
use Rattle.std.proofs.lemmas.List.{take_all}
use Rattle.corrections.proofs.Words.{Extends, IfConflict, IsConflict, Vec}
use Rattle.corrections.proofs.CorrectionLemmas.{AreRefuted, covered, refuted_more, smallest_found}
use Rattle.corrections.proofs.correcting.try_level.Invariants.{provided}
use Rattle.corrections.proofs.correcting.try_level.Goals as goal

pub returns-in-Solved-clause-smallest : goal.returns-in-Solved-clause-smallest
returns-in-Solved-clause-smallest g c =
    let requested = c.args.task.now.requested.now in
    smallest_found (provided g c.args.provider.now) requested c.args.level.now c.deref-in-Solved.result.now
    c.in-Solved.solvables (length requested) c.found.result c.requires.cover c.found.ensures.found
    c.found.ensures.smallest

pub loop-set-preserved : goal.loop-set-preserved
loop-set-preserved g c =
    let p = provided g c.args.provider.now in
    let requested = c.args.task.now.requested.now in
    let next = c.loop-set.next.items in
    let new = c.add_extensions.new.sets.items in
    let tried = c.set-item.result in
    let conflict = c.in-Conflict.conflict in
    let extends = subst (λ (marks : List Bool). Extends next new tried.items marks) c.deref-in-Conflict-2.ensures.value
    (subst (λ (marks : List Bool). Extends next new marks c.deref-in-Conflict-2.result.now)
    c.deref-in-Conflict.ensures.value c.in_ok-add_extensions-in-Conflict.ensures) in
    let conflicting = subst (IfConflict (IsConflict p requested)) c.in-Conflict.is
    c.in_ok-solvables.ensures.conflict in (
      refuted_more p requested c.args.level.now next new c.loop-set.set-index tried conflict c.loop-set-test.true
          c.set-item.is extends conflicting c.loop-set.invariant.0,
      c.in_ok-solvables.ensures.conflicts,
    )

pub returns-clause-next : goal.returns-clause-next
returns-clause-next g c =
    let p = provided g c.args.provider.now in
    let requested = c.args.task.now.requested.now in
    let level = c.args.level.now in
    let next = c.loop-set.next.items in
    covered p requested level next c.requires.cover
    (subst (λ (done : List (Vec Bool g.row.D-Alloc.Denot)). AreRefuted p requested next done)
    (take_all c.loop-set.set-index level c.loop-set-test.false) c.loop-set.invariant.0)
