use Rattle.example_answers.proofs.AnswerLemmas.{refuted_is}
use Rattle.resolvo_pool.specs.Functions.{gathered}
use Rattle.example_certificates.proofs.certifying.certificate.Goals as goal

pub returns-in-Unsolvable : goal.returns-in-Unsolvable
returns-in-Unsolvable g c =
    let p = gathered g.D.NameId.PartialEq.eq g.D.SolvableId.PartialEq.eq g.D.NameId.Slots.IdMap.is_too_large
    g.D.SolvableId.Slots.IdMap.is_too_large g.D.SolvableId.Set.IdSet.is_too_large g.D.NameId.SolverId.are_many
    g.D.Interner.universe g.D.DependencyProvider.answers c.args.provider.now in
    let promised = c.in_ok-refutation.ensures in
    record {
      refutation = c.in-Unsolvable.refutation;
      is_refuted = refuted_is p c.args.requested.now _ _ c.in-Unsolvable.is promised.none promised.reasons_so
          promised.reasons_enough;
      says = c.in_ok-text-in-Unsolvable.ensures;
    }
