use Rattle.std.proofs.Common.{inl, inr}
use Rattle.std.proofs.lemmas.Result.{IfOk-weaker}
use Rattle.example_json.proofs.answering.answer_index.Goals as goal

pub returns-in-Ok-clause-answers : goal.returns-in-Ok-clause-answers
returns-in-Ok-clause-answers c = inr c.in-Ok.ensures.answers

pub returns-in-Err-clause-answers : goal.returns-in-Err-clause-answers
returns-in-Err-clause-answers c =
    IfOk-weaker c.answer_refusal.result _ _ (λ answered refused. inl refused) c.answer_refusal.ensures.answers
