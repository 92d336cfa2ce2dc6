use Rattle.std.proofs.Common.{◌≡◌, ◌<◌, ◌≤◌, ◌⊎◌, inl, inr, ◌∷◌, take, drop, length, arith, ap, sym, ◌∙◌}
use Rattle.std.specs.List.{prefix_len}
use Rattle.script_text.specs.Words.{words, is_graphic}
use Rattle.script_text.proofs.FirstWords.{ends, first_word_ends}
use Rattle.script_text.proofs.first_word.first_word.Goals as goal

pub returns-clause-first : goal.returns-clause-first
returns-clause-first c =
    let line = c.args.line.now in
    let text = c.args.text.now in
    let found = c.short_length.result in
    let k = c.min-length.result in
    let by_length : (found ≡ 0) ⊎ ((found ≡ prefix_len is_graphic (take 16 text)) × (found < 16) × (16 ≤ length text))
    → words line ≡ take k line ∷ words (drop k line) =
    λ is. elim is [
      | inl none ↦ absurd (c.if-length-eq0.false (omega (arith, c.min-length.ensures, none)))
      | inr some ↦ first_word_ends line text found k c.requires.begins some.2 some.0 some.1
          (omega (arith, c.if-length-eq0.false)) c.requires.printed (ends k found (length line) c.min-length.ensures)
    ] in
    by_length c.short_length.ensures ∙ sym (λ i. c.split_at.ensures.front i ∷ words (c.split_at.ensures.back i))
    ∙ ap (λ ws. c.split_at.result.0.now ∷ ws) (sym c.after_blank.ensures.words)
