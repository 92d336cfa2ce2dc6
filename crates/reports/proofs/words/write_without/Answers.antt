use Rattle.std.proofs.Common.{◌++◌, ◌∙◌, ap, string_bytes, sym}
use Rattle.reports.proofs.TextLemmas.{stripped}
use Rattle.reports.proofs.words.write_without.Goals as goal

pub returns-in_ok-push_str-in-Some : goal.returns-in_ok-push_str-in-Some
returns-in_ok-push_str-in-Some g c =
    c.in_ok-push_str-in-Some.ensures.bytes ∙ ap (λ t. string_bytes c.args.text.now ++ t)
    (sym (stripped c.args.beginning.now c.args.whole.now c.in-Some.rest.now c.in-Some.ensures.cases))
