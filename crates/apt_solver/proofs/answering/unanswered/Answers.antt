use Rattle.std.proofs.lemmas.Result.{IfOk-weaker}
use Rattle.apt_solver.proofs.answering.unanswered.Goals as goal

pub returns : goal.returns
returns c = IfOk-weaker c.fault_text.result _ _ (λ said is. (c.args.why.now, is)) c.fault_text.ensures
