use Rattle.std.proofs.Common.{Err, Ok, Some, ap, ◌∙◌, sym}
use Rattle.std.proofs.lemmas.Result.{err_from_is_err_and}
use Rattle.debian_text.specs.Fields.{fields}
use Rattle.debian_scenario.specs.Plain.{plain_stanza}
use Rattle.debian_scenario.specs.Scenarios.{first_values}
use Rattle.debian_scenario.specs.Stanzas.{stanzas}
use Rattle.debian_scenario.proofs.ReadLemmas.{read_first}
use Rattle.debian_scenario.proofs.scenario.first_stanza.Goals as goal

pub returns-in_err-stanza-clause-value : goal.returns-in_err-stanza-clause-value
returns-in_err-stanza-clause-value c =
    let p = err_from_is_err_and c.from_residual.result c.from_residual.ensures.1 in
    let filled = sym c.is_empty.ensures ∙ c.if-not-is_empty.true in
    rw (p.1, p.2) (read_first (fields c.empty.rest.now) c.in-Some.field.now
    (fields c.in-Some.others.now) c.in-Some.ensures.first filled (Err _) c.in_err-stanza.ensures.values
    ∙ ap first_values c.empty.invariant.same)

pub returns-then-not-is_empty-clause-value : goal.returns-then-not-is_empty-clause-value
returns-then-not-is_empty-clause-value c =
    let filled = sym c.is_empty.ensures ∙ c.if-not-is_empty.true in
    ap (λ fs. Ok (Some (plain_stanza c.in_ok-stanza.stanza, stanzas fs))) c.in_ok-stanza.ensures.rest
    ∙ read_first (fields c.empty.rest.now) c.in-Some.field.now
    (fields c.in-Some.others.now) c.in-Some.ensures.first filled
    (Ok (plain_stanza c.in_ok-stanza.stanza)) c.in_ok-stanza.ensures.values
    ∙ ap first_values c.empty.invariant.same
