use Rattle.std.proofs.Common.{refl}
use Rattle.std.proofs.lemmas.Result.{IfOk-weaker}
use Rattle.example_json.proofs.answering.JsonAnswersAnswering.answer.Goals as goal

pub returns : goal.returns
returns c =
    IfOk-weaker c.answer_as_json.result _ _
    (λ answered shown. record {
      input = c.args.self.now.input.now;
      given = c.args.lines.now;
      are = refl;
      shows = shown;
    })
    c.answer_as_json.ensures.answers
