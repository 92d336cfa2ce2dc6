use Rattle.std.proofs.Common.{◌∙◌, List, subst}
use Rattle.corrections.proofs.Words.{AreNamedMarked, AreSo, ConditionalRequirement, gathered, GivesEnough, GivesSo}
use Rattle.corrections.proofs.Words.{Reason}
use Rattle.corrections.proofs.CorrectionLemmas.{conflict_by_reasons}
use Rattle.corrections.proofs.correcting.search_without.Goals as goal

pub returns-in-Unsolvable-clause-conflict : goal.returns-in-Unsolvable-clause-conflict
returns-in-Unsolvable-clause-conflict g c =
    let p = gathered g.D.NameId.PartialEq.eq g.D.SolvableId.PartialEq.eq g.D.NameId.Slots.IdMap.is_too_large
    g.D.SolvableId.Slots.IdMap.is_too_large g.D.SolvableId.Set.IdSet.is_too_large g.D.NameId.SolverId.are_many
    g.D.Interner.universe g.D.DependencyProvider.answers c.args.provider.now in
    let requested = c.args.task.now.requested.now in
    let left_out = c.args.left_out.now in
    let reasons = c.in-Unsolvable.refutation.reasons.items in
    let conflict = c.in_ok-conflict-in-Unsolvable.conflict in
    conflict_by_reasons p requested g.met.D.NameId.Eq.laws.refl g.met.D.SolvableId.Eq.laws.refl
    g.met.D.SolvableId.SameValue.same left_out reasons conflict
    (subst (λ (rs : List (Reason g.row.D-NameId.Denot g.row.D-SolvableId.Denot)). AreNamedMarked requested left_out
    rs conflict.items)
    c.deref-in-Unsolvable.ensures.value c.in_ok-conflict-in-Unsolvable.ensures)
    (subst (λ (l : List ConditionalRequirement). AreSo p l reasons) (c.deref.ensures.value ∙ c.in_ok-rest.ensures)
    (subst (GivesSo p c.deref.result.now) c.in-Unsolvable.is c.in_ok-choice.ensures.reasons_so))
    (subst (GivesEnough p) c.in-Unsolvable.is c.in_ok-choice.ensures.reasons_enough)
