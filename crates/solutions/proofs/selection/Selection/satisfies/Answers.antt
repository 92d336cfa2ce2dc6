use Rattle.std.proofs.Common.{◌≡◌, ℕ, sym, subst, rules, IfOk, Option, Some}
use Rattle.solutions.proofs.Words.{Decides, gathered, is_kept, IsSatisfiedUnder}
use Rattle.solutions.proofs.selection.Selection.satisfies.Goals as goal

pub returns-in-Some-clause-ok : goal.returns-in-Some-clause-ok
returns-in-Some-clause-ok g c =
    let p = gathered g.D.NameId.PartialEq.eq g.D.SolvableId.PartialEq.eq g.D.NameId.Slots.IdMap.is_too_large
    g.D.SolvableId.Slots.IdMap.is_too_large g.D.SolvableId.Set.IdSet.is_too_large g.D.NameId.SolverId.are_many
    g.D.Interner.universe g.D.DependencyProvider.answers c.args.self.now.provider.now in
    let has = is_kept g.D.SolvableId.PartialEq.eq (g.D.SolvableId.Set.IdSet.has c.args.self.now.picked)
    c.args.self.now.left_out in
    let under : c.args.conditional.condition ≡ Some c.in-Some.condition = search rules in
    let Answers : Option ℕ → Type 0 =
    λ condition. IfOk c.satisfies_under.result (λ yes. Decides yes
    (IsSatisfiedUnder p has condition c.args.conditional.requirement)) in
    subst Answers (sym under) c.satisfies_under.ensures.ok
