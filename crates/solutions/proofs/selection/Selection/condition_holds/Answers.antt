use Rattle.std.proofs.Common.{◌∙◌, Bool, map, sym, ap}
use Rattle.solutions.proofs.Words.{form_holds, gathered, is_kept, Provider, VersionSetId}
use Rattle.solutions.specs.Solutions.{has_picked}
use Rattle.solutions.proofs.DecisionLemmas.{answered}
use Rattle.solutions.proofs.selection.Selection.condition_holds.Given.{Over}
use Rattle.solutions.proofs.selection.Selection.condition_holds.Goals as goal

-- the provider's functions
abbrev provided : (g : Over) → g.row.D.Denot → Provider g.row.D-NameId.Denot g.row.D-SolvableId.Denot
provided g = gathered g.D.NameId.PartialEq.eq g.D.SolvableId.PartialEq.eq g.D.NameId.Slots.IdMap.is_too_large
    g.D.SolvableId.Slots.IdMap.is_too_large g.D.SolvableId.Set.IdSet.is_too_large g.D.NameId.SolverId.are_many
    g.D.Interner.universe g.D.DependencyProvider.answers

pub returns-clause-ok : goal.returns-clause-ok
returns-clause-ok g c =
    let test : VersionSetId → Bool =
    has_picked (provided g c.args.self.now.provider.now) (is_kept g.D.SolvableId.PartialEq.eq
    (g.D.SolvableId.Set.IdSet.has c.args.self.now.picked) c.args.self.now.left_out) in
    let written = c.in_ok-lists.ensures.written in
    let truth = c.in_ok-lists.ensures.truth in
    let same = ap (λ lists. form_holds test (map (λ l. l.items) lists)) c.deref.ensures.value in
    answered c.has_all_of_some.result
    (λ yes is. (
      λ e. (written.0, written.1, sym (truth written.0 written.1 test) ∙ sym same ∙ sym is ∙ e),
      λ met. is
          ∙ same ∙ truth met.0 met.1 test ∙ met.2,
    ))
    c.has_all_of_some.ensures.ok
