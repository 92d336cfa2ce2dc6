use Rattle.std.proofs.Common.{◌∙◌, [], ap, refl, string_bytes}
use Rattle.std.proofs.lemmas.Result.{IfOk-weaker}
use Rattle.example_json.proofs.Words.{empty_sets, has_float, lines, notes_from, string}
use Rattle.example_json.proofs.PlainLemmas.{array_plain}
use Rattle.example_json.proofs.ShownLemmas.{shows_index}
use Rattle.example_json.proofs.answering.search_index.Goals as goal

pub answer_search-requires : goal.answer_search-requires
answer_search-requires c = ap has_float c.in_ok-notes.ensures ∙ array_plain string (λ line. refl)
    (lines (notes_from c.args.index.now 20 [] (empty_sets c.args.index.now)))

pub returns-clause-answers : goal.returns-clause-answers
returns-clause-answers c =
    IfOk-weaker c.answer_search.result _ _
    (λ answered. shows_index _ _ _ _ c.args.index.now _ _ answered.outcome (string_bytes answered.text)
    c.request.ensures c.in_ok-notes.ensures)
    c.answer_search.ensures.answers
