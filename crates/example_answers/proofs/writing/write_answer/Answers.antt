use Rattle.std.proofs.Common.{◌∙◌}
use Rattle.example_answers.proofs.Words.{gathered, NotShown, Provider}
use Rattle.example_answers.proofs.AnswerLemmas.{as_many_ranks, in_turn, picked_is, refuted_is}
use Rattle.example_answers.proofs.AnswerLemmas.{says_no_solution, says_solution}
use Rattle.example_answers.proofs.writing.write_answer.Given.{Over}
use Rattle.example_answers.proofs.writing.write_answer.Goals as goal

-- the provider's functions
abbrev provided : (g : Over) → g.row.D.Denot → Provider g.row.D-NameId.Denot g.row.D-SolvableId.Denot
provided g = gathered g.D.NameId.PartialEq.eq g.D.SolvableId.PartialEq.eq g.D.NameId.Slots.IdMap.is_too_large
    g.D.SolvableId.Slots.IdMap.is_too_large g.D.SolvableId.Set.IdSet.is_too_large g.D.NameId.SolverId.are_many
    g.D.Interner.universe g.D.DependencyProvider.answers

-- src/writing.rt:14:1
pub returns-in_ok-write_best-in-Picked : goal.returns-in_ok-write_best-in-Picked
returns-in_ok-write_best-in-Picked g c =
    let p = provided g c.args.provider.now in
    let requested = c.args.requested.now in
    let promised = c.in_ok-choice.ensures in
    says_solution p _ requested _ _ _ _ _ _ _ _
    (picked_is p requested _ _ c.in-Picked.is promised.solution promised.best promised.needed promised.none_spare)
    (c.len.ensures ∙ as_many_ranks p requested _ _ c.in-Picked.is promised.ranks) c.deref.ensures.value c.requires
    c.in_ok-push_str.ensures.bytes c.in_ok-write_picked-in-Picked.ensures c.in_ok-write_best-in-Picked.ensures

-- src/writing.rt:14:1
pub returns-in_ok-write_reasons-in-Unsolvable : goal.returns-in_ok-write_reasons-in-Unsolvable
returns-in_ok-write_reasons-in-Unsolvable g c =
    let p = provided g c.args.provider.now in
    let requested = c.args.requested.now in
    let promised = c.in_ok-choice.ensures in
    says_no_solution p _ requested _ _ _ _ _ _
    (refuted_is p requested _ _ c.in-Unsolvable.is promised.none promised.reasons_so promised.reasons_enough)
    c.deref-in-Unsolvable.ensures.value c.requires c.in_ok-push_str.ensures.bytes
    c.in_ok-push_str-in-Unsolvable.ensures.bytes c.in_ok-write_reasons-in-Unsolvable.ensures

-- src/writing.rt:14:1
pub returns-in_ok-write_reasons-in-Uncertified : goal.returns-in_ok-write_reasons-in-Uncertified
returns-in_ok-write_reasons-in-Uncertified g c = (
  NotShown c.deref-in-Uncertified.result.now,
  in_turn _ _ _ _ _ _ _ c.requires c.in_ok-push_str.ensures.bytes c.in_ok-push_str-in-Uncertified.ensures.bytes
      c.in_ok-write_reasons-in-Uncertified.ensures,
)
