use Rattle.std.proofs.Common.{ap, subst, sym, [], length, map}
use Rattle.solutions.proofs.Words.{alternatives_of, AreSameUpTo, first_trues, gathered, rank, Replayed, truth}
use Rattle.solutions.proofs.BestLemmas.{unbeaten_solutions}
use Rattle.solutions.proofs.DecisionLemmas.{answered}
use Rattle.solutions.proofs.best.unbeaten.Goals as goal

pub returns : goal.returns
returns g c =
    let p = gathered g.D.NameId.PartialEq.eq g.D.SolvableId.PartialEq.eq g.D.NameId.Slots.IdMap.is_too_large
    g.D.SolvableId.Slots.IdMap.is_too_large g.D.SolvableId.Set.IdSet.is_too_large g.D.NameId.SolverId.are_many
    g.D.Interner.universe g.D.DependencyProvider.answers c.args.provider.now in
    let ranks = c.args.ranks.now in
    let wishes = alternatives_of c.args.request.now.wishes.now in
    let clauses = c.in_ok-theory.theory.clauses.items in
    let now = c.all.new.self.theory.clauses.items in
    let known = c.all.new.self.trail.literals.items in
    let answer = c.in_ok-all.field-0 in
    let replayed : Replayed clauses [] now known answer =
    subst (λ first. Replayed first [] now known answer) (ap
    (λ theory. theory.clauses.items) c.in_ok-replay.ensures.theory)
    (subst (λ first. Replayed c.in_ok-replay.replay.theory.clauses.items first now known answer)
    c.in_ok-replay.ensures.trail c.in_ok-all.ensures) in
    answered c.settle_all.result
    (λ count settled. unbeaten_solutions p
    c.args.request.now.requirements.now wishes clauses now known answer count ranks c.deref.result.now
    c.in_ok-theory.ensures replayed settled
    (λ other. subst (λ lists. AreSameUpTo (length ranks) ranks (first_trues (truth p other) lists)
    (map (rank p other) wishes)) (sym c.deref.ensures.value)
    (c.in_ok-lists.ensures other)))
    c.settle_all.ensures
