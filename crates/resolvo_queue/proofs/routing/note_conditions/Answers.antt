use Rattle.std.proofs.Common.{◌∙◌, get_or, refl, subst, take_all}
use Rattle.resolvo_queue.proofs.Words.{AreNoted}
use Rattle.resolvo_queue.proofs.Syncs.Noting.{noted_kept, noted_more}
use Rattle.resolvo_queue.proofs.routing.note_conditions.Goals as goal

pub loop-disjunction-init : goal.loop-disjunction-init
loop-disjunction-init g c = record { kept = λ d h. h; all = λ d s. elim s [ ] }

pub loop-disjunction-preserved : goal.loop-disjunction-preserved
loop-disjunction-preserved g c =
    let disjunctions = c.at-disjunctions.result.now in
    let i = c.loop-disjunction.disjunction-index in
    record {
      kept = λ d h. noted_kept (get_or disjunctions i 0) c.loop-disjunction.noted c.note.new.self
          c.in_ok-note.ensures.ok d (c.loop-disjunction.invariant.kept d h);
      all = noted_more (get_or disjunctions i 0) c.loop-disjunction.noted c.note.new.self c.in_ok-note.ensures.ok
          disjunctions i c.loop-disjunction-test.true refl c.loop-disjunction.invariant.all;
    }

pub returns-clause-noted : goal.returns-clause-noted
returns-clause-noted g c = λ decided. subst (λ ds. AreNoted ds c.loop-disjunction.noted) c.at-disjunctions.ensures
    (subst (λ ds. AreNoted ds c.loop-disjunction.noted)
    (take_all c.loop-disjunction.disjunction-index c.at-disjunctions.result.now c.loop-disjunction-test.false)
    c.loop-disjunction.invariant.all)

pub returns-in_err-note-clause-kept : goal.returns-in_err-note-clause-kept
returns-in_err-note-clause-kept g c =
    λ d h. c.in_err-note.ensures.err d ∙ c.loop-disjunction.invariant.kept d h
