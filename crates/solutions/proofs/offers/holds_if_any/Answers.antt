use Rattle.std.proofs.Common.{◌≡◌, ℕ, sym, subst, rules, IfOk, Option, Some}
use Rattle.solutions.proofs.Words.{Decides, gathered, HoldsIfAny, is_kept}
use Rattle.solutions.proofs.offers.holds_if_any.Goals as goal

pub returns-in-Some : goal.returns-in-Some
returns-in-Some g c =
    let p = gathered g.D.NameId.PartialEq.eq g.D.SolvableId.PartialEq.eq g.D.NameId.Slots.IdMap.is_too_large
    g.D.SolvableId.Slots.IdMap.is_too_large g.D.SolvableId.Set.IdSet.is_too_large g.D.NameId.SolverId.are_many
    g.D.Interner.universe g.D.DependencyProvider.answers c.args.selection.now.provider.now in
    let has = is_kept g.D.SolvableId.PartialEq.eq (g.D.SolvableId.Set.IdSet.has c.args.selection.now.picked)
    c.args.selection.now.left_out in
    let some : c.args.condition ≡ Some c.in-Some.condition = search rules in
    let Answers : Option ℕ → Type 0 =
    λ condition. IfOk c.is_known_to_hold.result (λ yes. Decides yes (HoldsIfAny p has condition)) in
    subst Answers (sym some) c.is_known_to_hold.ensures
