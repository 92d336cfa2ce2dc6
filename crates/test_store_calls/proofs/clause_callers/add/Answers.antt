use Rattle.resolvo_store.proofs.CallerLaws.{store_in}
use Rattle.test_store_calls.proofs.Words.{command_of, reply_of}
use Rattle.test_store_calls.proofs.ClauseLaws.{added_next, added_known}
use Rattle.test_store_calls.proofs.clause_callers.add.Goals as goal

pub returns-clause-next : goal.returns-clause-next
returns-clause-next g c = λ clause conflict is.
    (added_next (store_in c.step.ensures.was_sound) (store_in c.step.ensures.sound) (command_of c.args.command.now)
    (reply_of c.step.result) c.step.ensures.step clause conflict is).0

pub returns-clause-known : goal.returns-clause-known
returns-clause-known g c =
    added_known (store_in c.step.ensures.was_sound) (store_in c.step.ensures.sound) (command_of c.args.command.now)
    (reply_of c.step.result) c.step.ensures.step
