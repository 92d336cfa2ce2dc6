use Rattle.std.proofs.Common.{◌∙◌, [], Ok, string_bytes}
use Rattle.std.proofs.lemmas.Result.{IfOk-weaker}
use Rattle.example_answers.proofs.Words.{IndexText, Numbers, Refused}
use Rattle.example_answers.proofs.ExplainLemmas.{explained_of_fault, index_explained}
use Rattle.example_answers.proofs.explained.explain_index.Goals as goal

pub returns-in-Ok-clause-answers : goal.returns-in-Ok-clause-answers
returns-in-Ok-clause-answers c =
    index_explained _ _ _ _ c.in-Ok.outcome _ (c.deref.ensures.value ∙ c.in_ok-names.ensures)
    (rw (← c.request.ensures) c.in-Ok.ensures)

pub returns-clause-answers : goal.returns-clause-answers
returns-clause-answers c =
    IfOk-weaker c.answer_fault.result _ _
    (λ answered says meant is. explained_of_fault _ _ _ (Refused c.in-Err.refused) answered.outcome
    (string_bytes answered.text) tt says)
    c.answer_fault.ensures.says

-- any text of an index
nothing : IndexText
nothing = record { format = Numbers; request = []; versions = [] }

pub returns-clause-unreadable : goal.returns-clause-unreadable
returns-clause-unreadable c =
    IfOk-weaker c.answer_fault.result _ _ (λ answered of. of (Ok nothing) tt) c.answer_fault.ensures.unreadable
