use Rattle.std.proofs.Common.{◌∙◌, string_bytes}
use Rattle.std.proofs.lemmas.Result.{IfOk-weaker}
use Rattle.example_answers.proofs.ExplainLemmas.{explained_of_fault, explained_of_read}
use Rattle.example_answers.proofs.IndexLemmas.{none_unreadable, read_fault}
use Rattle.example_answers.proofs.explained.explain_with_notes.Goals as goal

pub returns-in-Ok-clause-answers : goal.returns-in-Ok-clause-answers
returns-in-Ok-clause-answers c =
    IfOk-weaker c.explain_index.result _ _
    (λ answered. explained_of_read _ _ _ c.in-Ok.index answered.outcome (string_bytes answered.text) c.in-Ok.ensures)
    c.explain_index.ensures.answers

pub returns-in-Ok-clause-unreadable : goal.returns-in-Ok-clause-unreadable
returns-in-Ok-clause-unreadable c =
    IfOk-weaker c.explain_index.result _ _
    (λ answered none. none ∙ none_unreadable _ c.in-Ok.index answered.outcome c.in-Ok.ensures)
    c.explain_index.ensures.unreadable

pub returns-in-Err-clause-answers : goal.returns-in-Err-clause-answers
returns-in-Err-clause-answers c =
    IfOk-weaker c.answer_fault.result _ _
    (λ answered. explained_of_fault _ _ _ c.in-Err.fault answered.outcome (string_bytes answered.text)
    (read_fault _ c.in-Err.fault c.in-Err.ensures))
    c.answer_fault.ensures.says

pub returns-in-Err-clause-unreadable : goal.returns-in-Err-clause-unreadable
returns-in-Err-clause-unreadable c =
    IfOk-weaker c.answer_fault.result _ _
    (λ answered of. of _ (read_fault _ c.in-Err.fault c.in-Err.ensures))
    c.answer_fault.ensures.unreadable
