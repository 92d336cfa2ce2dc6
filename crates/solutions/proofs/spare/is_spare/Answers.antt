use Rattle.std.proofs.Common.{◌≡◌, ◌∙◌, true, map, ap, rules, subst, sym}
use Rattle.std.proofs.Math.Path.{fun_ext}
use Rattle.solutions.proofs.Words.{alternatives_of, AreRanksSame, gathered, IsSolution, Provider, rank, rank_by}
use Rattle.solutions.proofs.Words.{without}
use Rattle.solutions.proofs.DecisionLemmas.{answered, decides_false, refuted}
use Rattle.solutions.proofs.SpareLemmas.{not_false, not_true, ranks_decide}
use Rattle.solutions.proofs.spare.is_spare.Given.{Over}
use Rattle.solutions.proofs.spare.is_spare.Goals as goal

-- the provider's functions
abbrev provided : (g : Over) → g.row.D.Denot → Provider g.row.D-NameId.Denot g.row.D-SolvableId.Denot
provided g = gathered g.D.NameId.PartialEq.eq g.D.SolvableId.PartialEq.eq g.D.NameId.Slots.IdMap.is_too_large
    g.D.SolvableId.Slots.IdMap.is_too_large g.D.SolvableId.Set.IdSet.is_too_large g.D.NameId.SolverId.are_many
    g.D.Interner.universe g.D.DependencyProvider.answers

pub returns-then-branch : goal.returns-then-branch
returns-then-branch g c =
    let yes : c.in_ok-is_cause_unsatisfied.field-0 ≡ true = search rules in
    let rest = without (provided g c.args.selection.now.provider.now) c.args.choice.now.picked.now c.args.solvable in
    decides_false (λ both. c.in_ok-is_cause_unsatisfied.ensures yes rest c.requires.rest both.0)

pub returns-then-ne : goal.returns-then-ne
returns-then-ne g c =
    let p = provided g c.args.selection.now.provider.now in
    let choice = c.args.choice.now in
    let wishes = alternatives_of choice.request.now.wishes.now in
    let rest = without p choice.picked.now c.args.solvable in
    let others : c.in_ok-ranks.ranks.items ≡ map (rank p rest) wishes = c.in_ok-ranks.ensures
    ∙ ap (λ h. map (rank_by h) wishes) (fun_ext c.requires.rest) in
    decides_false (λ both. refuted (not_true _ (sym c.ne.ensures ∙ c.if-ne.true))
    (ranks_decide p choice.picked.now rest wishes choice.ranks.items c.in_ok-ranks.ranks.items c.requires.ranks
    others) both.1)

pub returns : goal.returns
returns g c =
    let p = provided g c.args.selection.now.provider.now in
    let choice = c.args.choice.now in
    let wishes = alternatives_of choice.request.now.wishes.now in
    let rest = without p choice.picked.now c.args.solvable in
    let others : c.in_ok-ranks.ranks.items ≡ map (rank p rest) wishes = c.in_ok-ranks.ensures
    ∙ ap (λ h. map (rank_by h) wishes) (fun_ext c.requires.rest) in
    let same : AreRanksSame p choice.picked.now rest wishes =
    (ranks_decide p choice.picked.now rest wishes choice.ranks.items c.in_ok-ranks.ranks.items c.requires.ranks
    others).0
    (not_false _ (sym c.ne.ensures ∙ c.if-ne.false)) in
    let is : c.deref.result.now ≡ rest = c.deref.ensures.value ∙ c.in_ok-rest.ensures in
    let Solution = IsSolution p choice.request.now.requirements.now in
    answered c.is_solution.result
    (λ b decides. (λ e. (subst Solution is (decides.0 e), same), λ both. decides.1 (subst Solution (sym is) both.0)))
    c.is_solution.ensures
