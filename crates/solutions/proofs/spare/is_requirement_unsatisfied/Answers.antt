use Rattle.std.proofs.Common.{◌<◌, length, ltb-true, refl, sym}
use Rattle.std.proofs.lemmas.Option.{slice_get_read}
use Rattle.solutions.proofs.Words.{gathered, is_kept, Provider}
use Rattle.solutions.proofs.SpareLemmas.{not_true, requirement_fails}
use Rattle.solutions.proofs.spare.is_requirement_unsatisfied.Given.{Over}
use Rattle.solutions.proofs.spare.is_requirement_unsatisfied.Goals as goal

-- the provider's functions
abbrev provided : (g : Over) → g.row.D.Denot → Provider g.row.D-NameId.Denot g.row.D-SolvableId.Denot
provided g = gathered g.D.NameId.PartialEq.eq g.D.SolvableId.PartialEq.eq g.D.NameId.Slots.IdMap.is_too_large
    g.D.SolvableId.Slots.IdMap.is_too_large g.D.SolvableId.Set.IdSet.is_too_large g.D.NameId.SolverId.are_many
    g.D.Interner.universe g.D.DependencyProvider.answers

pub returns : goal.returns
returns g c =
    let selection = c.args.selection.now in
    let has = is_kept g.D.SolvableId.PartialEq.eq (g.D.SolvableId.Set.IdSet.has selection.picked) selection.left_out in
    let requirements = c.args.requirements.now in
    let requirement = c.in-Some.requirement.now in
    let below : c.args.place < length requirements =
    ltb-true c.args.place (length requirements) (sym c.in-Some.ensures.lookup.0) in
    let b = c.in_ok-satisfies.field-0 in
    λ e. requirement_fails (provided g selection.provider.now) requirements has c.args.place requirement
    (slice_get_read requirements (length requirements) c.args.place requirement refl below
    c.in-Some.ensures.lookup.1) b (not_true b e) c.in_ok-satisfies.ensures.ok
