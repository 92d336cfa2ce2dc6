use Rattle.example_answers.proofs.Words.{gathered}
use Rattle.example_answers.proofs.AnswerLemmas.{refuted_is}
use Rattle.example_answers.proofs.ShownLemmas.{shows_none}
use Rattle.example_answers.proofs.graph.write_graph.Goals as goal

pub returns-in-Unsolvable : goal.returns-in-Unsolvable
returns-in-Unsolvable g c shown =
    let p = gathered g.D.NameId.PartialEq.eq g.D.SolvableId.PartialEq.eq g.D.NameId.Slots.IdMap.is_too_large
    g.D.SolvableId.Slots.IdMap.is_too_large g.D.SolvableId.Set.IdSet.is_too_large g.D.NameId.SolverId.are_many
    g.D.Interner.universe g.D.DependencyProvider.answers c.args.provider.now in
    let requested = c.args.requested.now in
    let promised = c.in_ok-refutation.ensures in
    let graph = c.in_ok-write_dot-in-Unsolvable.ensures in (
      graph.0,
      graph.1,
      shows_none _ p _ requested _ _ graph.0
          (refuted_is p requested _ _ c.in-Unsolvable.is promised.none promised.reasons_so promised.reasons_enough)
          c.deref.ensures.value graph.2,
    )
