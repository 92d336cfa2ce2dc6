use Rattle.std.proofs.Common.{◌∙◌, ◌++◌, [], ◌∷◌, ap, rules, sym}
use Rattle.example_answers.proofs.Words.{range_with_len}
use Rattle.example_answers.proofs.NameLemmas.{range_more}
use Rattle.example_answers.proofs.names.names_of.Goals as goal

pub loop-place-preserved : goal.loop-place-preserved
loop-place-preserved c = record {
  known = search rules;
  taken = c.in_ok-push.ensures.items
      ∙ ap (λ names. names ++ c.from_index-name.result ∷ []) c.loop-place.invariant.taken
      ∙ ap (λ name. range_with_len 0 c.loop-place.place ++ name ∷ []) c.from_index-name.ensures
      ∙ sym (range_more c.loop-place.place);
}
