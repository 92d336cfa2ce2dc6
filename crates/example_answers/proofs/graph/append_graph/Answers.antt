use Rattle.example_answers.proofs.ShownLemmas.{shown_of_read}
use Rattle.example_answers.proofs.graph.append_graph.Goals as goal

pub returns-in-Ok-true : goal.returns-in-Ok-true
returns-in-Ok-true c =
    let shown = c.in-Ok-true.ensures c.in-Ok-true.field-0-test in (
      shown.0,
      shown.1,
      shown_of_read _ _ _ c.in-Ok.index _ _ c.in-Ok.ensures c.request.ensures shown.2,
    )
