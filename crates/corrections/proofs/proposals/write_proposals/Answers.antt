use Rattle.std.proofs.Common.{◌∙◌, ◌++◌, List, ap, codes, string_bytes}
use Rattle.corrections.proofs.Words.{ConditionalRequirement, gathered, named_in, Provider, text_of_all}
use Rattle.corrections.proofs.ProposalLemmas.{forbidden_by, in_three}
use Rattle.corrections.proofs.proposals.write_proposals.Given.{Over}
use Rattle.corrections.proofs.proposals.write_proposals.Goals as goal

-- the provider's functions
abbrev provided : (g : Over) → g.row.D.Denot → Provider g.row.D-NameId.Denot g.row.D-SolvableId.Denot
provided g = gathered g.D.NameId.PartialEq.eq g.D.SolvableId.PartialEq.eq g.D.NameId.Slots.IdMap.is_too_large
    g.D.SolvableId.Slots.IdMap.is_too_large g.D.SolvableId.Set.IdSet.is_too_large g.D.NameId.SolverId.are_many
    g.D.Interner.universe g.D.DependencyProvider.answers

pub returns-clause-forbidden : goal.returns-clause-forbidden
returns-clause-forbidden g c =
    forbidden_by (provided g c.args.provider.now) g.met.D.NameId.Eq.laws.refl g.met.D.SolvableId.Eq.laws.refl
    g.met.D.SolvableId.SameValue.same c.args.reasons.now

pub returns-clause-text : goal.returns-clause-text
returns-clause-text g c =
    let text = text_of_all (g.D.Interner.universe c.args.provider.now) (g.D.Interner.texts c.args.provider.now) in
    let begun = string_bytes c.push_str.new.self in
    in_three (string_bytes c.args.text.now) begun (string_bytes c.write_all.new.text)
    (string_bytes c.push_str-2.new.self) (codes "at least one has to go: ") (text (named_in c.args.reasons.now))
    (codes "\n")
    c.in_ok-push_str.ensures.bytes
    (c.in_ok-write_all.ensures
    ∙ ap (λ (named : List ConditionalRequirement). begun ++ text named)
    (c.deref.ensures.value ∙ c.in_ok-named.ensures)) c.in_ok-push_str-2.ensures.bytes
