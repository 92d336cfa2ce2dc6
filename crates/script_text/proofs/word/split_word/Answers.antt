use Rattle.std.proofs.Common.{◌≡◌, ◌==◌, ◌∷◌, [], ◌++◌, ◌+◌, ◌∙◌, false, rules, slice_index_or, take, drop, ap, sym}
use Rattle.std.specs.Prelude.{if◌then◌else◌}
use Rattle.std.specs.List.{list_all}
use Rattle.std.proofs.lemmas.List.{take_more, drop_more, take_rest}
use Rattle.script_text.specs.Lines.{is_printed}
use Rattle.script_text.specs.Words.{words_from, begun_word}
use Rattle.script_text.proofs.Printing.{printed_parts}
use Rattle.script_text.proofs.word.split_word.Goals as goal

pub loop-i-preserved : goal.loop-i-preserved
loop-i-preserved c =
    let text = c.args.text.now in
    let i = c.loop-i.i in
    let byte = slice_index_or text i 0 in
    let rest = drop (i + 1) text in
    let other : (byte == 32) ≡ false = search rules in
    ap (λ begun. words_from begun rest) (take_more text i 0 c.loop-i-test.true)
    ∙ (sym (ap (λ ends. if ends then begun_word (take i text) ++ words_from [] rest else words_from
    (take i text ++ byte ∷ []) rest) other)
    ∙ (sym (ap (words_from (take i text)) (drop_more text i 0 c.loop-i-test.true)) ∙ c.loop-i.invariant))

pub returns-then-byte-eq32-clause-printed : goal.returns-then-byte-eq32-clause-printed
returns-then-byte-eq32-clause-printed c printed =
    let text = c.args.text.now in
    let i = c.loop-i.i in (
      (printed_parts i text printed).0,
      ap (list_all is_printed) (take_rest text (i + 1))
          ∙ (printed_parts (i + 1) text printed).1,
    )
