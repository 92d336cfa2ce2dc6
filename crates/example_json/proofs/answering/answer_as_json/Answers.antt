use Rattle.std.proofs.Common.{◌∙◌, string_bytes}
use Rattle.std.proofs.lemmas.Result.{IfOk-weaker}
use Rattle.example_answers.proofs.IndexLemmas.{none_unreadable}
use Rattle.example_json.proofs.ShownLemmas.{none_told, shows_read, shows_refused, shows_unreadable, unreadable_told}
use Rattle.example_json.proofs.answering.answer_as_json.Goals as goal

pub returns-in-Ok-clause-answers : goal.returns-in-Ok-clause-answers
returns-in-Ok-clause-answers c =
    IfOk-weaker c.answer_index.result _ _
    (λ answered. shows_read _ _ _ _ answered.outcome (string_bytes answered.text) _ _ c.first_number.ensures _
    c.in-Ok.index c.in-Ok.ensures)
    c.answer_index.ensures.answers

pub returns-in-Ok-clause-unreadable : goal.returns-in-Ok-clause-unreadable
returns-in-Ok-clause-unreadable c =
    IfOk-weaker c.answer_index.result _ _
    (λ answered none. none ∙ none_unreadable _ c.in-Ok.index answered.outcome c.in-Ok.ensures)
    c.answer_index.ensures.unreadable
