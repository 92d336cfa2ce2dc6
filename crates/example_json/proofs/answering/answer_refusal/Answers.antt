use Rattle.std.proofs.Common.{◌∙◌, ap}
use Rattle.std.proofs.lemmas.Result.{IfOk-weaker}
use Rattle.example_json.proofs.Words.{compact_text, has_float}
use Rattle.example_json.proofs.answering.answer_refusal.Goals as goal

pub text_of-requires : goal.text_of-requires
text_of-requires c = ap has_float c.in_ok-object.ensures

pub returns-clause-answers : goal.returns-clause-answers
returns-clause-answers c =
    IfOk-weaker c.text_of.result _ _
    (λ answered is. record {
      refused = c.args.refused;
      is_outcome = is.0;
      is = is.1 ∙ ap compact_text c.in_ok-object.ensures;
    })
    c.text_of.ensures.shown
