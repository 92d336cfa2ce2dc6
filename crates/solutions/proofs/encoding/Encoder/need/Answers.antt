use Rattle.std.proofs.Common.{◌≡◌, ◌∙◌, ◌∷◌, [], List, ap, subst, rules}
use Rattle.solutions.proofs.Words.{AreSatisfiedUnless, AreStillSatisfied, gathered, IfPicked, is_among, IsSatisfied}
use Rattle.solutions.proofs.Words.{Provider}
use Rattle.solutions.proofs.DecisionLemmas.{done}
use Rattle.solutions.proofs.encoding.Encoder.need.Given.{Over}
use Rattle.solutions.proofs.EncodingLemmas as L
use Rattle.solutions.proofs.ReasonLemmas as R
use Rattle.solutions.proofs.encoding.Encoder.need.Goals as goal

-- the provider's functions
abbrev provided : (g : Over) → g.row.D.Denot → Provider g.row.D-NameId.Denot g.row.D-SolvableId.Denot
provided g = gathered g.D.NameId.PartialEq.eq g.D.SolvableId.PartialEq.eq g.D.NameId.Slots.IdMap.is_too_large
    g.D.SolvableId.Slots.IdMap.is_too_large g.D.SolvableId.Set.IdSet.is_too_large g.D.NameId.SolverId.are_many
    g.D.Interner.universe g.D.DependencyProvider.answers

pub returns-in-None : goal.returns-in-None
returns-in-None g c =
    let p = provided g c.args.self.now.provider.now in
    let Has = λ (picked : List g.row.D-SolvableId.Denot). IfPicked p picked c.args.parent
    (IsSatisfied p (is_among p picked) c.args.conditional) in
    let same : c.deref.result.now ≡ [] = search rules in
    done c.require.result
    (λ still. L.still_where p (λ picked. AreSatisfiedUnless p [] picked (c.args.conditional ∷ [])) Has
    c.args.theory.now.clauses.items c.require.new.theory.clauses.items
    (λ picked has. R.satisfied_unless_nothing p c.args.conditional picked
    (subst (λ parent. IfPicked p picked parent (IsSatisfied p (is_among p picked) c.args.conditional)) c.in-None.is
    has))
    (subst (λ literals. AreStillSatisfied p (λ picked. AreSatisfiedUnless p literals picked
    (c.args.conditional ∷ [])) c.args.theory.now.clauses.items
    c.require.new.theory.clauses.items) same still))
    c.require.ensures

pub returns : goal.returns
returns g c =
    let p = provided g c.args.self.now.provider.now in
    let l = c.new.result in
    let s = c.in-Some.solvable in
    let fact = ap (λ k. k.fact) c.new.ensures ∙ c.in_ok-atom-in-Some.ensures.fact in
    let value = ap (λ k. k.value) c.new.ensures in
    let Has = λ (picked : List g.row.D-SolvableId.Denot). IfPicked p picked c.args.parent
    (IsSatisfied p (is_among p picked) c.args.conditional) in
    let same : c.deref-in-Some.result.now ≡ l ∷ [] = search rules in
    done c.require-in-Some.result
    (λ still. L.still_where p (λ picked. AreSatisfiedUnless p (l ∷ []) picked (c.args.conditional ∷ [])) Has
    c.args.theory.now.clauses.items c.require-in-Some.new.theory.clauses.items
    (λ picked has. R.satisfied_unless p l s fact value picked c.args.conditional
    (subst (λ parent. IfPicked p picked parent (IsSatisfied p (is_among p picked) c.args.conditional)) c.in-Some.is
    has))
    (subst (λ literals. AreStillSatisfied p (λ picked. AreSatisfiedUnless p literals picked
    (c.args.conditional ∷ [])) c.args.theory.now.clauses.items
    c.require-in-Some.new.theory.clauses.items) same still))
    c.require-in-Some.ensures
