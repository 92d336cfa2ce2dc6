use Rattle.std.proofs.Common.{[], List, ap, subst}
use Rattle.solutions.proofs.Words.{All, gathered, IsMet, Replayed}
use Rattle.solutions.proofs.DecisionLemmas.{answered}
use Rattle.solutions.proofs.ReplayLemmas.{refuted_selections}
use Rattle.solutions.proofs.refuting.are_enough.Goals as goal

pub returns : goal.returns
returns g c =
    let p = gathered g.D.NameId.PartialEq.eq g.D.SolvableId.PartialEq.eq g.D.NameId.Slots.IdMap.is_too_large
    g.D.SolvableId.Slots.IdMap.is_too_large g.D.SolvableId.Set.IdSet.is_too_large g.D.NameId.SolverId.are_many
    g.D.Interner.universe g.D.DependencyProvider.answers c.args.provider.now in
    let clauses = c.in_ok-theory.theory.clauses.items in
    let now = c.all.new.self.theory.clauses.items in
    let trail = c.all.new.self.trail.literals.items in
    answered c.all.result
    (λ answer replayed. refuted_selections p (λ picked. All (IsMet p picked) c.args.reasons.now) clauses now trail
    answer c.in_ok-theory.ensures
    (subst (λ first. Replayed first [] now trail answer) (ap
    (λ theory. theory.clauses.items) c.in_ok-replay.ensures.theory)
    (subst (λ first. Replayed c.in_ok-replay.replay.theory.clauses.items first now trail answer)
    c.in_ok-replay.ensures.trail replayed)))
    c.all.ensures
