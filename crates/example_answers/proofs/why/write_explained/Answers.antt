use Rattle.std.proofs.Common.{◌∙◌}
use Rattle.corrections.proofs.ProposalLemmas.{forbidden_by}
use Rattle.example_answers.proofs.Words.{gathered, NotShown, Provider}
use Rattle.example_answers.proofs.AnswerLemmas.{as_many_ranks, in_turn, picked_is, refuted_is}
use Rattle.example_answers.proofs.ExplainLemmas.{caused_are, explains_solution, reports_none}
use Rattle.example_answers.proofs.why.write_explained.Given.{Over}
use Rattle.example_answers.proofs.why.write_explained.Goals as goal

-- the provider's functions
abbrev provided : (g : Over) → g.row.D.Denot → Provider g.row.D-NameId.Denot g.row.D-SolvableId.Denot
provided g = gathered g.D.NameId.PartialEq.eq g.D.SolvableId.PartialEq.eq g.D.NameId.Slots.IdMap.is_too_large
    g.D.SolvableId.Slots.IdMap.is_too_large g.D.SolvableId.Set.IdSet.is_too_large g.D.NameId.SolverId.are_many
    g.D.Interner.universe g.D.DependencyProvider.answers

pub returns-in_ok-write_best-in-Picked : goal.returns-in_ok-write_best-in-Picked
returns-in_ok-write_best-in-Picked g c =
    let p = provided g c.args.provider.now in
    let requested = c.args.requested.now in
    let promised = c.in_ok-choice.ensures in
    explains_solution p _ requested _ _ _ _ _ _ _ _ _ _
    (picked_is p requested _ _ c.in-Picked.is promised.solution promised.best promised.needed promised.none_spare)
    (caused_are p requested _ _ c.in-Picked.is promised.caused)
    (c.len.ensures ∙ as_many_ranks p requested _ _ c.in-Picked.is promised.ranks) c.deref.ensures.value
    c.deref-in-Picked.ensures.value c.requires
    c.in_ok-push_str.ensures.bytes c.in_ok-write_lines-in-Picked.ensures c.in_ok-write_best-in-Picked.ensures

pub returns-in_ok-write_conflict-in-Unsolvable : goal.returns-in_ok-write_conflict-in-Unsolvable
returns-in_ok-write_conflict-in-Unsolvable g c =
    let p = provided g c.args.provider.now in
    let requested = c.args.requested.now in
    let promised = c.in_ok-choice.ensures in
    let refuted =
    refuted_is p requested _ _ c.in-Unsolvable.is promised.none promised.reasons_so promised.reasons_enough in
    let report = c.in_ok-write_tree-in-Unsolvable.ensures in
    reports_none _ p _ c.args.names.now requested _ _ _ report.0 _ _ _ _ _ refuted
    (forbidden_by p g.met.D.NameId.Eq.laws.refl g.met.D.SolvableId.Eq.laws.refl g.met.D.SolvableId.SameValue.same _
    refuted.are_enough requested refuted.are_so)
    c.deref-in-Unsolvable.ensures.value c.deref-in-Unsolvable-2.ensures.value report.2 c.requires
    c.in_ok-push_str.ensures.bytes c.in_ok-push_str-in-Unsolvable.ensures.bytes report.1
    c.in_ok-write_conflict-in-Unsolvable.ensures

pub returns-in_ok-write_reasons-in-Uncertified : goal.returns-in_ok-write_reasons-in-Uncertified
returns-in_ok-write_reasons-in-Uncertified g c = (
  NotShown c.deref-in-Uncertified.result.now,
  in_turn _ _ _ _ _ _ _ c.requires c.in_ok-push_str.ensures.bytes c.in_ok-push_str-in-Uncertified.ensures.bytes
      c.in_ok-write_reasons-in-Uncertified.ensures,
)
