use Rattle.std.proofs.Common.{◌++◌, ◌∙◌, ap, codes, string_bytes, append_assoc}
use Rattle.example_answers.proofs.Words.{text_of_solvable}
use Rattle.example_answers.proofs.reasons.write_unknown.Goals as goal

pub returns : goal.returns
returns g c =
    let interner = c.args.interner.now in
    let old = string_bytes c.args.text.now in
    let before = codes "what " in
    let name = text_of_solvable (g.I.Interner.universe interner) (g.I.Interner.texts interner) c.args.solvable in
    let behind = codes " needs is unknown" in
    c.in_ok-push_str-2.ensures.bytes
    ∙ ap (λ text. text ++ behind) (c.in_ok-write_solvable.ensures
    ∙ ap (λ text. text ++ name) c.in_ok-push_str.ensures.bytes)
    ∙ append_assoc (old ++ before) name behind ∙ append_assoc old before (name ++ behind)
