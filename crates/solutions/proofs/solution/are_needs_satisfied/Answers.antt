use Rattle.std.proofs.Common.{◌≡◌, ◌∙◌, ap, sym, subst}
use Rattle.solutions.proofs.Words.{All, Decides, gathered, is_kept, is_respected, IsSatisfied, Known, list_all}
use Rattle.solutions.proofs.Words.{needs_of}
use Rattle.solutions.proofs.DecisionLemmas.{answered}
use Rattle.solutions.proofs.SolutionLemmas.{known_needs_satisfied}
use Rattle.solutions.proofs.solution.are_needs_satisfied.Goals as goal

pub returns-else-not-branch : goal.returns-else-not-branch
returns-else-not-branch g c =
    let p = gathered g.D.NameId.PartialEq.eq g.D.SolvableId.PartialEq.eq g.D.NameId.Slots.IdMap.is_too_large
    g.D.SolvableId.Slots.IdMap.is_too_large g.D.SolvableId.Set.IdSet.is_too_large g.D.NameId.SolverId.are_many
    g.D.Interner.universe g.D.DependencyProvider.answers c.args.selection.now.provider.now in
    let has = is_kept g.D.SolvableId.PartialEq.eq (g.D.SolvableId.Set.IdSet.has c.args.selection.now.picked)
    c.args.selection.now.left_out in
    let needs = c.in-Known.needs in
    let known : p.answers.needs c.args.solvable ≡ Known needs.requirements.items needs.constrains.items =
    sym c.in_ok-needs.ensures.ok ∙ ap needs_of c.in-Known.is in
    let given : Decides c.in_ok-are_satisfied-in-Known.field-0 (All (IsSatisfied p has) needs.requirements.items) =
    subst (λ list. Decides c.in_ok-are_satisfied-in-Known.field-0 (All (IsSatisfied p has) list))
    c.deref.ensures.value c.in_ok-are_satisfied-in-Known.ensures in
    answered c.are_respected.result
    (λ b kept. known_needs_satisfied p has (p.answers.needs c.args.solvable) needs.requirements.items
    needs.constrains.items known
    c.in_ok-are_satisfied-in-Known.field-0 b c.if-not-branch.false given (kept
    ∙ ap (list_all (is_respected p has)) c.deref-in-Known.ensures.value))
    c.are_respected.ensures
