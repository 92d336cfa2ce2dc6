use Rattle.std.proofs.Common.{◌≡◌, ◌∙◌, None, sym, subst}
use Rattle.std.specs.Prelude.{codes}
use Rattle.std.specs.Str.{bytes_eq}
use Rattle.index_text.specs.Entries.{condition_in_parts}
use Rattle.index_text.specs.PlainFormats.{plain_format}
use Rattle.index_text.specs.Sets.{texts, parts_behind}
use Rattle.index_text.proofs.PartLemmas.{second_if}
use Rattle.index_text.proofs.entry.read_condition.Goals as goal

pub returns-then-is_some : goal.returns-then-is_some
returns-then-is_some c =
    subst (λ words. None ≡ condition_in_parts (plain_format c.args.format.now)
    (parts_behind (bytes_eq (codes "if")) words)) (sym c.in-Some.is)
    (second_if (plain_format c.args.format.now) (texts c.in-Some.words.now)
    (texts c.first_part.result.0.now) c.first_part.result.1
    (sym c.is_some.ensures ∙ c.if-is_some.true) c.first_part.ensures.parts)
