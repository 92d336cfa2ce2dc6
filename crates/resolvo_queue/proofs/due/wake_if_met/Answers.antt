use Rattle.std.proofs.lemmas.Result.{on_ok_weaker}
use Rattle.resolvo_queue.proofs.due.wake_if_met.Goals as goal

pub returns-clause-woken : goal.returns-clause-woken
returns-clause-woken g c = on_ok_weaker c.wake_under.result (λ woken met. woken) c.wake_under.ensures.woken
