use Rattle.std.proofs.Common.{◌≡◌, ◌∙◌, ◌∷◌, [], List, ap, true}
use Rattle.solutions.proofs.Words.{gathered, is_among, is_respected, non_matching, NonePickedUnless}
use Rattle.solutions.proofs.DecisionLemmas.{done}
use Rattle.solutions.proofs.EncodingLemmas as L
use Rattle.solutions.proofs.ReasonLemmas as R
use Rattle.solutions.proofs.encoding.Encoder.limit.Goals as goal

pub returns : goal.returns
returns g c =
    let p = gathered g.D.NameId.PartialEq.eq g.D.SolvableId.PartialEq.eq g.D.NameId.Slots.IdMap.is_too_large
    g.D.SolvableId.Slots.IdMap.is_too_large g.D.SolvableId.Set.IdSet.is_too_large g.D.NameId.SolverId.are_many
    g.D.Interner.universe g.D.DependencyProvider.answers c.args.self.now.provider.now in
    let l = c.new.result in
    let s = c.args.solvable in
    let fact = ap (λ k. k.fact) c.new.ensures ∙ c.in_ok-atom.ensures.fact in
    let value = ap (λ k. k.value) c.new.ensures in
    done c.forbid_candidates.result
    (L.still_where p (λ picked. NonePickedUnless p (l ∷ []) picked (non_matching p.universe p.answers c.args.set))
    (λ picked. is_among p picked s ≡ true → is_respected p (is_among p picked) c.args.set ≡ true)
    c.args.theory.now.clauses.items c.forbid_candidates.new.theory.clauses.items
    (λ picked. R.respected_unless p l s fact value picked c.args.set))
    c.forbid_candidates.ensures.theory
