use Rattle.std.proofs.Common.{◌≡◌, ◌∙◌, ap, sym, codes, string_bytes}
use Rattle.std.specs.List.{join_by}
use Rattle.providers.specs.Texts.{requirement_text, single_text}
use Rattle.providers.proofs.JoinLemmas.{joined_alike}
use Rattle.providers.proofs.requirement.Requirement.display.Goals as goal

pub returns-clause-ok : goal.returns-clause-ok
returns-clause-ok g c =
    let universe = g.I.Interner.universe c.args.interner.now in
    let texts = g.I.Interner.texts c.args.interner.now in
    let joined : join_by string_bytes (codes " | ") c.deref.result.now
    ≡ requirement_text universe texts c.args.self.now =
    ap (join_by string_bytes (codes " | ")) c.deref.ensures.value
    ∙ joined_alike (codes " | ") string_bytes (single_text universe texts) c.in_ok-texts.texts.items
    c.as_slice.result.now c.in_ok-texts.ensures.ok
    ∙ ap (join_by (single_text universe texts) (codes " | ")) (c.as_slice.ensures ∙ c.version_sets-sets.ensures) in
    rw (sym joined) c.append_joined.ensures.ok
