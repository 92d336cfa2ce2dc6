use Rattle.std.proofs.Common.{◌≡◌, ◌∙◌, map, sym}
use Rattle.solutions.proofs.Words.{form_holds, formula_holds, gathered, Provider}
use Rattle.solutions.proofs.DecisionLemmas.{answered, ok_each}
use Rattle.solutions.proofs.encoding.Encoder.lists_of.Given.{Over}
use Rattle.solutions.proofs.encoding.Encoder.lists_of.Goals as goal

-- the provider's functions
abbrev provided : (g : Over) → g.row.D.Denot → Provider g.row.D-NameId.Denot g.row.D-SolvableId.Denot
provided g = gathered g.D.NameId.PartialEq.eq g.D.SolvableId.PartialEq.eq g.D.NameId.Slots.IdMap.is_too_large
    g.D.SolvableId.Slots.IdMap.is_too_large g.D.SolvableId.Set.IdSet.is_too_large g.D.NameId.SolverId.are_many
    g.D.Interner.universe g.D.DependencyProvider.answers

pub returns : goal.returns
returns g c =
    let dnf = c.convert_conditions_to_dnf in
    let written = dnf.ensures.written in
    answered dnf.result (λ lists same holds passes. (written.0, written.1, sym (same holds) ∙ passes))
    (ok_each (λ lists holds. form_holds holds (map (λ l. l.items) lists.items) ≡ formula_holds holds written.0)
    dnf.result (λ holds. dnf.ensures.truth written.0 written.1 holds))
