use Rattle.std.proofs.Common.{ap, ◌∙◌, sym}
use Rattle.std.specs.Prelude.{is_some}
use Rattle.std.proofs.lemmas.List.{map-set}
use Rattle.debian_scenario.specs.Plain.{plain_stanza}
use Rattle.debian_scenario.proofs.FieldLemmas.{is_some-option_map, once, twice}
use Rattle.debian_scenario.proofs.stanza.Stanza.add.Goals as goal

pub returns-then-is_some : goal.returns-then-is_some
returns-then-is_some c =
    let there = sym (ap is_some c.value.ensures) ∙ is_some-option_map (λ v. v.now) c.value.result
    ∙ sym c.is_some.ensures ∙ c.if-is_some.true in
    twice (plain_stanza c.args.self.now) c.args.field.now c.in-Some.name.now c.in-Some.value.now c.in-Some-of.key
    c.in-Some.ensures c.in-Some-of.ensures there

pub returns : goal.returns
returns c =
    let new = sym (ap is_some c.value.ensures) ∙ is_some-option_map (λ v. v.now) c.value.result
    ∙ sym c.is_some.ensures ∙ c.if-is_some.false in
    rw (map-set, c.place.ensures.value)
    (once (plain_stanza c.args.self.now) c.args.field.now c.in-Some.name.now c.in-Some.value.now c.in-Some-of.key
    c.in-Some.ensures c.in-Some-of.ensures new)
