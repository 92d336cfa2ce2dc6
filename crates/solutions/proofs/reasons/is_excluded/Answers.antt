use Rattle.std.proofs.Common.{◌∙◌, ap, subst, sym}
use Rattle.solutions.proofs.Words.{Contains, excluded_of, gathered}
use Rattle.solutions.proofs.reasons.is_excluded.Goals as goal

pub returns-in-Some : goal.returns-in-Some
returns-in-Some g c = λ yes.
    let p = gathered g.D.NameId.PartialEq.eq g.D.SolvableId.PartialEq.eq g.D.NameId.Slots.IdMap.is_too_large
    g.D.SolvableId.Slots.IdMap.is_too_large g.D.SolvableId.Set.IdSet.is_too_large g.D.NameId.SolverId.are_many
    g.D.Interner.universe g.D.DependencyProvider.answers c.args.provider.now in
    subst (λ list. Contains list (c.args.solvable, c.args.string))
    (c.deref.ensures.value ∙ sym (ap excluded_of c.in-Some.is) ∙ c.in_ok-found.ensures.excluded
    ∙ ap p.answers.excluded c.solvable_name.ensures)
    (c.is_among_excluded.ensures yes)
