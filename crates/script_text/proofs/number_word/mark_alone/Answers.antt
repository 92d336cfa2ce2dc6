use Rattle.std.proofs.Common.{◌∷◌, sym, ◌∙◌}
use Rattle.script_text.specs.Words.{words}
use Rattle.script_text.proofs.Words.{marked_alone}
use Rattle.script_text.proofs.number_word.mark_alone.Goals as goal

pub returns-clause-first : goal.returns-clause-first
returns-clause-first c =
    marked_alone c.args.mark c.args.text.now c.requires.mark c.requires.ends
    ∙ sym (λ i. (c.args.mark ∷ c.split_at.ensures.front i) ∷ words (c.split_at.ensures.back i))
