use Rattle.std.proofs.Common.{ap}
use Rattle.resolvo_store.proofs.CallerLaws.{store_in, undone_to_zero}
use Rattle.test_store_calls.proofs.Words.{reply_of, val}
use Rattle.test_store_calls.proofs.law_callers.start_again.Goals as goal

pub returns-clause-trail : goal.returns-clause-trail
returns-clause-trail g c =
    undone_to_zero (store_in c.step.ensures.was_sound) (store_in c.step.ensures.sound)
    (reply_of c.step.result) c.step.ensures.was_sound c.step.ensures.step

pub returns-clause-values : goal.returns-clause-values
returns-clause-values g c = λ variable. ap (λ es. val es variable) (returns-clause-trail g c)
