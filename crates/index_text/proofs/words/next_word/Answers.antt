use Rattle.std.proofs.Common.{◌∷◌, ◌==◌, ◌∙◌, not, arith, ap, sym, length, take, drop}
use Rattle.std.proofs.lemmas.List.Sums.{prefix_len-le-length}
use Rattle.script_text.specs.Words.{words}
use Rattle.index_text.proofs.WordLemmas.{first_word, some_bytes, some}
use Rattle.index_text.proofs.words.next_word.Goals as goal

pub split_at-requires : goal.split_at-requires
split_at-requires c =
    omega (
      arith,
      c.word_length.ensures,
      prefix_len-le-length
          (λ byte. not (byte == 32)) c.without_blanks-text.result.now,
    )

pub returns-clause-first : goal.returns-clause-first
returns-clause-first c =
    let text = c.without_blanks-text.result.now in
    sym c.without_blanks-text.ensures.words
    ∙ first_word text (some (length text) (sym c.is_empty.ensures ∙ c.if-is_empty.false))
    c.without_blanks-text.ensures.begins
    ∙ ap (λ n. take n text ∷ words (drop n text)) (sym c.word_length.ensures)
    ∙ sym (λ i. c.split_at.ensures.front i ∷ words (c.split_at.ensures.back i))

pub returns-clause-shorter : goal.returns-clause-shorter
returns-clause-shorter c =
    let text = c.without_blanks-text.result.now in
    omega (
      arith,
      c.word_length.ensures,
      some_bytes text
          (some (length text) (sym c.is_empty.ensures ∙ c.if-is_empty.false)) c.without_blanks-text.ensures.begins,
    )
