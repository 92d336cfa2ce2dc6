use Rattle.std.proofs.Common.{subst}
use Rattle.resolvo_store.proofs.CallerLaws.{store_in, solved}
use Rattle.test_store_calls.proofs.Words.{Decide, Step}
use Rattle.test_store_calls.proofs.law_callers.search_is_done.Goals as goal

pub returns : goal.returns
returns g c = λ none.
    let old = store_in c.step.ensures.was_sound in
    let new = store_in c.step.ensures.sound in
    solved old new (subst (λ reply. Step old Decide reply new) none c.step.ensures.step)
