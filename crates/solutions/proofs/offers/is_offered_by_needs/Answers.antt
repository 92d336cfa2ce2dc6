use Rattle.std.proofs.Common.{◌≡◌, ◌∙◌, ap, sym, subst}
use Rattle.solutions.proofs.Words.{Decides, gathered, is_kept, IsOfferedBy, IsOfferedByNeeds, Known, needs_of}
use Rattle.solutions.proofs.DecisionLemmas.{answered}
use Rattle.solutions.proofs.offers.is_offered_by_needs.Goals as goal

pub returns-in-Known : goal.returns-in-Known
returns-in-Known g c =
    let p = gathered g.D.NameId.PartialEq.eq g.D.SolvableId.PartialEq.eq g.D.NameId.Slots.IdMap.is_too_large
    g.D.SolvableId.Slots.IdMap.is_too_large g.D.SolvableId.Set.IdSet.is_too_large g.D.NameId.SolverId.are_many
    g.D.Interner.universe g.D.DependencyProvider.answers c.args.selection.now.provider.now in
    let has = is_kept g.D.SolvableId.PartialEq.eq (g.D.SolvableId.Set.IdSet.has c.args.selection.now.picked)
    c.args.selection.now.left_out in
    let needs = c.in-Known.needs in
    let known : p.answers.needs c.args.parent ≡ Known needs.requirements.items needs.constrains.items =
    sym c.in_ok-needs.ensures.ok ∙ ap needs_of c.in-Known.is in
    answered c.is_offered_by.result
    (λ yes decides. subst (λ n. Decides yes (IsOfferedByNeeds p has n c.args.solvable)) (sym known)
    (subst (λ list. Decides yes (IsOfferedBy p has list c.args.solvable)) c.deref.ensures.value decides))
    c.is_offered_by.ensures
