use Rattle.std.proofs.Common.{◌≡◌, [], true, subst, rules}
use Rattle.solutions.proofs.Words.{All, gathered, matching, sets_of}
use Rattle.solutions.proofs.DecisionLemmas.{answered}
use Rattle.solutions.proofs.reasons.is_lacking.Goals as goal

pub returns : goal.returns
returns g c =
    let p = gathered g.D.NameId.PartialEq.eq g.D.SolvableId.PartialEq.eq g.D.NameId.Slots.IdMap.is_too_large
    g.D.SolvableId.Slots.IdMap.is_too_large g.D.SolvableId.Set.IdSet.is_too_large g.D.NameId.SolverId.are_many
    g.D.Interner.universe g.D.DependencyProvider.answers c.args.provider.now in
    let required : c.in_ok-is_required.field-0 ≡ true = search rules in
    let sets : c.as_slice.result.now ≡ sets_of p.universe c.args.conditional.requirement = search rules in
    answered c.are_empty.result
    (λ answer empty yes. (
      c.in_ok-is_required.ensures required,
      subst (All (λ set. matching p.universe p.answers set ≡ [])) sets (empty yes),
    ))
    c.are_empty.ensures
