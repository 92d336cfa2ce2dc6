use Rattle.std.proofs.Common.{◌∙◌, ap}
use Rattle.example_json.proofs.Words.{compact_text, has_float, view}
use Rattle.example_json.proofs.PlainLemmas.{answer_plain}
use Rattle.example_json.proofs.answering.answer_search.Goals as goal

pub text_of-requires : goal.text_of-requires
text_of-requires g c =
    let interner = c.args.values.now.interner.now in
    ap has_float c.in_ok-object.ensures
    ∙ answer_plain (g.D.Interner.universe interner) (g.D.Interner.texts interner) c.args.heading.input.now
    c.args.heading.line (view c.args.notes) c.in_ok-answer.answer c.requires

pub returns-clause-answers : goal.returns-clause-answers
returns-clause-answers g c = record {
  answer = c.in_ok-answer.answer;
  solution = c.in_ok-answer.ensures.solution;
  ranks = c.in_ok-answer.ensures.ranks;
  best = c.in_ok-answer.ensures.best;
  granted = c.in_ok-answer.ensures.granted;
  needed = c.in_ok-answer.ensures.needed;
  none_spare = c.in_ok-answer.ensures.none_spare;
  none = c.in_ok-answer.ensures.none;
  reasons_so = c.in_ok-answer.ensures.reasons_so;
  reasons_enough = c.in_ok-answer.ensures.reasons_enough;
  is_outcome = c.in_ok-text_of.ensures.shown.0 ∙ c.outcome_of.ensures;
  is = c.in_ok-text_of.ensures.shown.1 ∙ ap compact_text c.in_ok-object.ensures;
}
