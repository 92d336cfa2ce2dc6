use Rattle.std.proofs.Common.{[], Ok, string_bytes}
use Rattle.std.proofs.lemmas.Result.{IfOk-weaker}
use Rattle.example_answers.proofs.Words.{IndexText, Numbers, Refused}
use Rattle.example_answers.proofs.IndexLemmas.{index_answered, of_fault}
use Rattle.example_answers.proofs.index_answer.answer_index.Goals as goal

pub returns-in-Ok-clause-answers : goal.returns-in-Ok-clause-answers
returns-in-Ok-clause-answers c =
    index_answered _ _ _ c.in-Ok.outcome _ (rw (← c.request.ensures) c.in-Ok.ensures)

pub returns-in-Err-clause-answers : goal.returns-in-Err-clause-answers
returns-in-Err-clause-answers c =
    IfOk-weaker c.answer_fault.result _ _
    (λ answered says meant is. of_fault _ _ _ (Refused c.in-Err.refused) answered.outcome
    (string_bytes answered.text) tt says)
    c.answer_fault.ensures.says

-- any text of an index
nothing : IndexText
nothing = record { format = Numbers; request = []; versions = [] }

pub returns-in-Err-clause-unreadable : goal.returns-in-Err-clause-unreadable
returns-in-Err-clause-unreadable c =
    IfOk-weaker c.answer_fault.result _ _ (λ answered of. of (Ok nothing) tt) c.answer_fault.ensures.unreadable
