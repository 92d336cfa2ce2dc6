use Rattle.std.proofs.Common.{◌≡◌, ◌∙◌, ap}
use Rattle.example_json.proofs.Words.{compact_text, has_float, place_data, unreadable_data, view}
use Rattle.example_json.proofs.PlainLemmas.{unreadable_plain}
use Rattle.example_json.proofs.answering.answer_unreadable.Goals as goal

pub text_of-requires : goal.text_of-requires
text_of-requires c =
    let heading = c.args.heading in
    let place = c.in_ok-place.ensures in
    ap has_float (c.in_ok-object.ensures ∙ ap (unreadable_data heading.input.now heading.line) place.1)
    ∙ unreadable_plain heading.input.now heading.line c.args.number place.0 c.in_ok-diagnosis.diagnosis

pub returns-clause-answers : goal.returns-clause-answers
returns-clause-answers c =
    let heading = c.args.heading in
    let place = c.in_ok-place.ensures in
    record {
      diagnosis = c.in_ok-diagnosis.diagnosis;
      said = place.0;
      readable = c.in_ok-diagnosis.ensures.none;
      place = c.in_ok-diagnosis.ensures.place;
      told = c.in_ok-diagnosis.ensures.told;
      is_outcome = c.in_ok-answered.ensures.shown.0;
      is = c.in_ok-answered.ensures.shown.1
          ∙ ap compact_text (c.in_ok-object.ensures ∙ ap (unreadable_data heading.input.now heading.line) place.1);
    }
