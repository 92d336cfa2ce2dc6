use Rattle.std.proofs.Common.{◌≡◌, sym, ap, ◌∙◌}
use Rattle.std.specs.Prelude.{◌&&◌, false}
use Rattle.watch_map.proofs.Words.{is_false_literal, is_from, Level, level_of, val, Values, variable_of}
use Rattle.watch_map.proofs.StackLaws.{filter_none}
use Rattle.watch_map.proofs.marks.Marks.forget_literal.Goals as goal

pub returns-else-is_false : goal.returns-else-is_false
returns-else-is_false g c =
    let l = c.args.literal in
    let es = c.args.trail.now.entries in
    let level = level_of es (variable_of l) in
    let not_false : is_false_literal (val es) l ≡ false =
    ap (λ (now : Values). is_false_literal now l) (sym c.map.ensures.values) ∙ sym c.is_false.ensures
    ∙ c.if-is_false.false in
    sym (filter_none (λ m. is_false_literal (val es) l && is_from (Level level) m) c.args.self.now
    (λ m. ap (λ b. b && is_from (Level level) m) not_false))
