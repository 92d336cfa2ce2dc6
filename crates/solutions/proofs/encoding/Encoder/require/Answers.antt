use Rattle.std.proofs.Common.{◌≡◌, ◌∷◌, [], true, map, subst}
use Rattle.std.proofs.lemmas.List.Elements.{All-head}
use Rattle.solutions.proofs.Words.{AreSatisfiedUnless, gathered, is_among, IsSatisfied, IsSatisfiedUnder}
use Rattle.solutions.proofs.Words.{IsSatisfiedUnless, list_all, list_any, Provider}
use Rattle.solutions.specs.Solutions.{has_picked}
use Rattle.solutions.proofs.DecisionLemmas.{done}
use Rattle.solutions.proofs.encoding.Encoder.require.Given.{Over}
use Rattle.solutions.proofs.EncodingLemmas as L
use Rattle.solutions.proofs.encoding.Encoder.require.Goals as goal

-- the provider's functions
abbrev provided : (g : Over) → g.row.D.Denot → Provider g.row.D-NameId.Denot g.row.D-SolvableId.Denot
provided g = gathered g.D.NameId.PartialEq.eq g.D.SolvableId.PartialEq.eq g.D.NameId.Slots.IdMap.is_too_large
    g.D.SolvableId.Slots.IdMap.is_too_large g.D.SolvableId.Set.IdSet.is_too_large g.D.NameId.SolverId.are_many
    g.D.Interner.universe g.D.DependencyProvider.answers

pub returns-in-None : goal.returns-in-None
returns-in-None g c =
    let p = provided g c.args.self.now.provider.now in
    let unless = c.args.unless.now in
    let conditional = c.args.conditional in
    done c.require_under.result
    (L.still_where p (λ picked. IsSatisfiedUnless p unless picked ([] ∷ []) conditional.requirement)
    (λ picked. AreSatisfiedUnless p unless picked (conditional ∷ []))
    c.args.theory.now.clauses.items c.require_under.new.theory.clauses.items
    (λ picked satisfied no passes. subst (λ k. IsSatisfiedUnder p (is_among p picked) k conditional.requirement)
    c.in-None.is
    (All-head (IsSatisfied p (is_among p picked)) conditional [] (satisfied no))))
    c.require_under.ensures

pub returns-in_ok-lists-in-Some : goal.returns-in_ok-lists-in-Some
returns-in_ok-lists-in-Some g c =
    let p = provided g c.args.self.now.provider.now in
    let unless = c.args.unless.now in
    let conditional = c.args.conditional in
    done c.require_under_any.result
    (L.still_where p (λ picked. IsSatisfiedUnless p unless picked
    (map (λ x. x.items) c.deref.result.now) conditional.requirement)
    (λ picked. AreSatisfiedUnless p unless picked (conditional ∷ [])) c.args.theory.now.clauses.items
    c.require_under_any.new.theory.clauses.items
    (λ picked satisfied no passes. (subst (λ k. IsSatisfiedUnder p (is_among p picked) k conditional.requirement)
    c.in-Some.is
    (All-head (IsSatisfied p (is_among p picked)) conditional [] (satisfied no))).1
    (c.in_ok-lists-in-Some.ensures (has_picked p (is_among p picked))
    (subst (λ lists. list_any (list_all (has_picked p (is_among p picked))) (map (λ x. x.items) lists) ≡ true)
    c.deref.ensures.value passes))))
    c.require_under_any.ensures
