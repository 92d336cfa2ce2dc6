use Rattle.std.proofs.Common.{◌∙◌, ap, sym}
use Rattle.solutions.proofs.Words.{gathered, locked_of}
use Rattle.solutions.proofs.reasons.is_locked.Goals as goal

pub returns-in-Some : goal.returns-in-Some
returns-in-Some g c = λ yes.
    let p = gathered g.D.NameId.PartialEq.eq g.D.SolvableId.PartialEq.eq g.D.NameId.Slots.IdMap.is_too_large
    g.D.SolvableId.Slots.IdMap.is_too_large g.D.SolvableId.Set.IdSet.is_too_large g.D.NameId.SolverId.are_many
    g.D.Interner.universe g.D.DependencyProvider.answers c.args.provider.now in
    sym (sym (ap locked_of c.in-Some.is) ∙ c.in_ok-found.ensures.locked
    ∙ ap p.answers.locked c.solvable_name.ensures) ∙ c.is_this.ensures yes
