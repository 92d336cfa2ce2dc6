use Rattle.std.proofs.lemmas.Result.{IfOk-weaker}
use Rattle.debian_scenario.specs.Scenarios.{scenario_of}
use Rattle.apt_solver.proofs.Known.{of_scenario, of_unread}
use Rattle.apt_solver.proofs.answering.answer_whole.Goals as goal

pub returns-in-Ok : goal.returns-in-Ok
returns-in-Ok c =
    IfOk-weaker c.answer_scenario.result _ _
    (λ said. of_scenario (scenario_of c.args.text.now) c.in-Ok.scenario c.deref.result.now said.items c.in-Ok.ensures
    c.deref.ensures.value)
    c.answer_scenario.ensures

pub returns-in-Err : goal.returns-in-Err
returns-in-Err c =
    IfOk-weaker c.unread_text.result _ _
    (λ said. of_unread (scenario_of c.args.text.now) c.in-Err.error said.items c.in-Err.ensures) c.unread_text.ensures
