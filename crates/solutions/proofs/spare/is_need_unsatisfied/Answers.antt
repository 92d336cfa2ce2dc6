use Rattle.std.proofs.Common.{◌≡◌, ◌∙◌, true, sym, rules}
use Rattle.solutions.proofs.Words.{gathered, is_kept, Provider}
use Rattle.solutions.proofs.SpareLemmas.{needs_fail, not_true}
use Rattle.solutions.proofs.spare.is_need_unsatisfied.Given.{Over}
use Rattle.solutions.proofs.spare.is_need_unsatisfied.Goals as goal

-- the provider's functions
abbrev provided : (g : Over) → g.row.D.Denot → Provider g.row.D-NameId.Denot g.row.D-SolvableId.Denot
provided g = gathered g.D.NameId.PartialEq.eq g.D.SolvableId.PartialEq.eq g.D.NameId.Slots.IdMap.is_too_large
    g.D.SolvableId.Slots.IdMap.is_too_large g.D.SolvableId.Set.IdSet.is_too_large g.D.NameId.SolverId.are_many
    g.D.Interner.universe g.D.DependencyProvider.answers

pub returns : goal.returns
returns g c =
    let selection = c.args.selection.now in
    let has = is_kept g.D.SolvableId.PartialEq.eq (g.D.SolvableId.Set.IdSet.has selection.picked) selection.left_out in
    let parent = c.in-Some.parent.now in
    let yes : c.picks.result ≡ true = search rules in
    let b = c.in_ok-are_needs_satisfied.field-0 in
    λ e. needs_fail (provided g selection.provider.now) c.args.choice.now.request.now.requirements.now has
    g.met.D.SolvableId.SameValue.same parent
    (sym c.picks.ensures ∙ yes) b (not_true b e) c.in_ok-are_needs_satisfied.ensures
