use Rattle.std.proofs.Common.{subst, sym}
use Rattle.solutions.proofs.Words.{gathered, IsSo, Provider}
use Rattle.solutions.proofs.DecisionLemmas.{answered}
use Rattle.solutions.proofs.reasons.is_so.Given.{Over}
use Rattle.solutions.proofs.reasons.is_so.Goals as goal

-- the provider's functions
abbrev provided : (g : Over) → g.row.D.Denot → Provider g.row.D-NameId.Denot g.row.D-SolvableId.Denot
provided g = gathered g.D.NameId.PartialEq.eq g.D.SolvableId.PartialEq.eq g.D.NameId.Slots.IdMap.is_too_large
    g.D.SolvableId.Slots.IdMap.is_too_large g.D.SolvableId.Set.IdSet.is_too_large g.D.NameId.SolverId.are_many
    g.D.Interner.universe g.D.DependencyProvider.answers

pub returns-in-Needs : goal.returns-in-Needs
returns-in-Needs g c =
    let p = provided g c.args.provider.now in
    answered c.is_required.result (λ answer so yes. subst (IsSo p c.args.requested.now) (sym c.in-Needs.is) (so yes))
    c.is_required.ensures

pub returns-in-Lacks : goal.returns-in-Lacks
returns-in-Lacks g c =
    let p = provided g c.args.provider.now in
    answered c.is_lacking.result (λ answer so yes. subst (IsSo p c.args.requested.now) (sym c.in-Lacks.is) (so yes))
    c.is_lacking.ensures

pub returns-in-Limits : goal.returns-in-Limits
returns-in-Limits g c =
    let p = provided g c.args.provider.now in
    answered c.is_limited.result (λ answer so yes. subst (IsSo p c.args.requested.now) (sym c.in-Limits.is) (so yes))
    c.is_limited.ensures

pub returns-in-Unknown : goal.returns-in-Unknown
returns-in-Unknown g c =
    let p = provided g c.args.provider.now in
    answered c.is_unknown.result (λ answer so yes. subst (IsSo p c.args.requested.now) (sym c.in-Unknown.is)
    (so yes)) c.is_unknown.ensures

pub returns-in-Excluded : goal.returns-in-Excluded
returns-in-Excluded g c =
    let p = provided g c.args.provider.now in
    answered c.is_excluded.result (λ answer so yes. subst (IsSo p c.args.requested.now) (sym c.in-Excluded.is)
    (so yes)) c.is_excluded.ensures

pub returns-in-Locked : goal.returns-in-Locked
returns-in-Locked g c =
    let p = provided g c.args.provider.now in
    answered c.is_locked.result (λ answer so yes. subst (IsSo p c.args.requested.now) (sym c.in-Locked.is) (so yes))
    c.is_locked.ensures
