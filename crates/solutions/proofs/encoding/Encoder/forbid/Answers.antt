use Rattle.std.proofs.Common.{◌≡◌, ◌∙◌, ◌∷◌, [], ap, false}
use Rattle.solutions.proofs.Words.{gathered, is_among}
use Rattle.solutions.proofs.DecisionLemmas.{done}
use Rattle.solutions.proofs.EncodingLemmas as L
use Rattle.solutions.proofs.encoding.Encoder.forbid.Goals as goal

pub returns : goal.returns
returns g c =
    let p = gathered g.D.NameId.PartialEq.eq g.D.SolvableId.PartialEq.eq g.D.NameId.Slots.IdMap.is_too_large
    g.D.SolvableId.Slots.IdMap.is_too_large g.D.SolvableId.Set.IdSet.is_too_large g.D.NameId.SolverId.are_many
    g.D.Interner.universe g.D.DependencyProvider.answers c.args.self.now.provider.now in
    let l = c.new.result in
    let s = c.args.solvable in
    let fact = ap (λ k. k.fact) c.new.ensures ∙ c.in_ok-atom.ensures.fact in
    let value = ap (λ k. k.value) c.new.ensures in
    done c.add_unit.result
    (λ stated. L.still_added p (λ picked. is_among p picked s ≡ false) c.args.theory.now.clauses.items
    c.add_unit.new.self.clauses.items (l ∷ []) stated
    (L.true_where_unpicked p l s fact value))
    c.add_unit.ensures
