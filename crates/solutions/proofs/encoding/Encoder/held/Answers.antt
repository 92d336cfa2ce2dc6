use Rattle.std.proofs.Common.{◌∙◌, ◌∷◌, [], ap, refl}
use Rattle.solutions.proofs.Words.{gathered, matching, NonePickedUnless, ⊤}
use Rattle.solutions.proofs.EncodingLemmas as L
use Rattle.solutions.proofs.encoding.Encoder.held.Goals as goal

pub returns : goal.returns
returns g c =
    let p = gathered g.D.NameId.PartialEq.eq g.D.SolvableId.PartialEq.eq g.D.NameId.Slots.IdMap.is_too_large
    g.D.SolvableId.Slots.IdMap.is_too_large g.D.SolvableId.Set.IdSet.is_too_large g.D.NameId.SolverId.are_many
    g.D.Interner.universe g.D.DependencyProvider.answers c.args.self.now.provider.now in
    let found = matching p.universe p.answers c.args.set in
    record {
      fact = c.in_ok-atom.ensures;
      theory = L.still_where p (λ picked. NonePickedUnless p (c.new.result ∷ []) picked found)
          (λ picked. ⊤) c.args.theory.now.clauses.items
          c.forbid_candidates.new.theory.clauses.items
          (λ picked so. L.unpicked_unless_held p c.new.result c.args.set found picked
          (ap (λ k. k.fact) c.new.ensures ∙ c.in_ok-atom.ensures)
          (ap (λ k. k.value) c.new.ensures) c.in_ok-forbid_candidates.ensures.known refl)
          c.in_ok-forbid_candidates.ensures.theory;
    }
