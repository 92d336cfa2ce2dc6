use Rattle.resolvo_store.proofs.CallerLaws.{store_in, forces_more, rules_out_none, conflict_means_none}
use Rattle.test_store_calls.proofs.Words.{reply_of}
use Rattle.test_store_calls.proofs.law_callers.saturate_soundly.Goals as goal

pub returns-clause-implied : goal.returns-clause-implied
returns-clause-implied g c = forces_more (store_in c.step.ensures.was_sound)
    (store_in c.step.ensures.sound) c.args.level
    (reply_of c.step.result) c.step.ensures.step

pub returns-clause-kept : goal.returns-clause-kept
returns-clause-kept g c = rules_out_none (store_in c.step.ensures.was_sound)
    (store_in c.step.ensures.sound) c.args.level (reply_of c.step.result) c.step.ensures.step

pub returns-clause-conflict : goal.returns-clause-conflict
returns-clause-conflict g c = conflict_means_none (store_in c.step.ensures.was_sound)
    (store_in c.step.ensures.sound) c.args.level (reply_of c.step.result) c.step.ensures.step
