use Rattle.std.proofs.Common.{◌≡◌, ◌==◌, ◌∷◌, [], ◌++◌, ◌+◌, ◌∙◌, false, rules, slice_index_or, take, drop, ap, sym}
use Rattle.std.specs.Prelude.{if◌then◌else◌}
use Rattle.std.proofs.lemmas.List.{take_more, drop_more}
use Rattle.script_text.specs.Lines.{lines_from, without_return}
use Rattle.index_text.proofs.raw.raw_line.Goals as goal

pub loop-i-preserved : goal.loop-i-preserved
loop-i-preserved c =
    let text = c.args.text.now in
    let i = c.loop-i.i in
    let byte = slice_index_or text i 0 in
    let rest = drop (i + 1) text in
    let other : (byte == 10) ≡ false = search rules in
    ap (λ begun. lines_from begun rest) (take_more text i 0 c.loop-i-test.true)
    ∙ (sym (ap (λ ends. if ends then without_return (take i text) ∷ lines_from [] rest else lines_from
    (take i text ++ byte ∷ []) rest) other)
    ∙ (sym (ap (lines_from (take i text)) (drop_more text i 0 c.loop-i-test.true)) ∙ c.loop-i.invariant))
