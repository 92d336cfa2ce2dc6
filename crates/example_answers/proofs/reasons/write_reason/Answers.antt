use Rattle.std.proofs.Common.{◌++◌, ◌∙◌, ap, codes, string_bytes, append_assoc}
use Rattle.std.proofs.lemmas.Result.{IfOk-equal}
use Rattle.example_answers.proofs.Words.{text_of_name}
use Rattle.example_answers.proofs.reasons.write_reason.Goals as goal

-- src/reasons.rt:34:1
pub returns-in_ok-push_str-in-OneVersion : goal.returns-in_ok-push_str-in-OneVersion
returns-in_ok-push_str-in-OneVersion g c =
    let interner = c.args.interner.now in
    let old = string_bytes c.args.text.now in
    let before = codes "one version of " in
    let name = text_of_name (g.I.Interner.universe interner) (g.I.Interner.texts interner) c.in-OneVersion.name in
    let is = ap (λ text. text ++ name) c.in_ok-push_str-in-OneVersion.ensures.bytes ∙ append_assoc old before name in
    rw c.in-OneVersion.is (IfOk-equal c.write_name.result _ _ _ c.write_name.ensures is)
