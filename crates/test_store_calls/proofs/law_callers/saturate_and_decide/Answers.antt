use Rattle.std.proofs.Common.{subst}
use Rattle.resolvo_store.proofs.CallerLaws.{store_in, done_settles, done_unfalsified, decides_unfalsified}
use Rattle.resolvo_store.proofs.CallerLaws.{no_decision_is_model}
use Rattle.test_store_calls.proofs.Words.{Decide, reply_of, Saturate, Step}
use Rattle.test_store_calls.proofs.law_callers.saturate_and_decide.Goals as goal

pub returns-in-Done-clause-unfalsified : goal.returns-in-Done-clause-unfalsified
returns-in-Done-clause-unfalsified g c =
    let old = store_in c.step.ensures.was_sound in
    let mid = store_in c.step-in-Done.ensures.was_sound in
    let new = store_in c.step-in-Done.ensures.sound in
    let done = subst (λ reply. Step old (Saturate c.args.level) (reply_of reply) mid) c.in-Done.is
    c.step.ensures.step in
    decides_unfalsified mid new (reply_of c.step-in-Done.result)
    (done_unfalsified old mid c.args.level c.step-in-Done.ensures.was_sound done) c.step-in-Done.ensures.step

pub returns-in-Done-clause-model : goal.returns-in-Done-clause-model
returns-in-Done-clause-model g c = λ may none.
    let old = store_in c.step.ensures.was_sound in
    let mid = store_in c.step-in-Done.ensures.was_sound in
    let new = store_in c.step-in-Done.ensures.sound in
    let done = subst (λ reply. Step old (Saturate c.args.level) (reply_of reply) mid) c.in-Done.is
    c.step.ensures.step in
    no_decision_is_model mid new c.step-in-Done.ensures.sound (done_settles old mid c.args.level done)
    (subst (λ reply. Step mid Decide reply new) none c.step-in-Done.ensures.step) may
