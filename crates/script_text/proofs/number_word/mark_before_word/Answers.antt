use Rattle.script_text.specs.Words.{words}
use Rattle.script_text.proofs.Words.{marked_word}
use Rattle.script_text.proofs.number_word.mark_before_word.Goals as goal

pub returns-clause-first : goal.returns-clause-first
returns-clause-first c =
    marked_word c.args.mark c.args.text.now c.split_number.result.0.word.now (words c.split_number.result.1.now)
    c.requires.mark c.requires.some c.requires.begins c.split_number.ensures.first
