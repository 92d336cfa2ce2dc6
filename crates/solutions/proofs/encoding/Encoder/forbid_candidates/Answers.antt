use Rattle.std.proofs.Common.{◌∙◌, ◌∷◌, [], subst}
use Rattle.solutions.proofs.Words.{AreStillSatisfied, gathered, NonePickedUnless}
use Rattle.solutions.proofs.DecisionLemmas.{done}
use Rattle.solutions.proofs.encoding.Encoder.forbid_candidates.Goals as goal

pub returns : goal.returns
returns g c =
    let p = gathered g.D.NameId.PartialEq.eq g.D.SolvableId.PartialEq.eq g.D.NameId.Slots.IdMap.is_too_large
    g.D.SolvableId.Slots.IdMap.is_too_large g.D.SolvableId.Set.IdSet.is_too_large g.D.NameId.SolverId.are_many
    g.D.Interner.universe g.D.DependencyProvider.answers c.args.self.now.provider.now in
    record {
      known = done c.forbid_all.result (λ left_out. c.in_ok-found.ensures.known) c.forbid_all.ensures;
      theory = done c.forbid_all.result
          (subst (λ found. AreStillSatisfied p (λ picked. NonePickedUnless p (c.args.unless ∷ []) picked found)
          c.args.theory.now.clauses.items
          c.forbid_all.new.theory.clauses.items) (c.deref.ensures.value ∙ c.in_ok-found.ensures.found))
          c.forbid_all.ensures;
    }
