use Rattle.std.proofs.Common.{◌≡◌, ◌∙◌, List, ap, subst}
use Rattle.std.specs.Prelude.{IfOk}
use Rattle.resolvo_pool.specs.Functions.{Provider, gathered}
use Rattle.solutions.specs.Wishes.{alternatives_of}
use Rattle.solutions.specs.declared.wish.Alternative.{Alternative}
use Rattle.picking.specs.Answers.{PicksBest, PicksCaused, PicksGranted, PicksNeeded, PicksNoneSpare, PicksRanked}
use Rattle.picking.specs.Answers.{PicksWithin}
use Rattle.picking.proofs.finding.pick.Given.{Over}
use Rattle.picking.proofs.finding.pick.Goals as goal

-- the provider's functions
abbrev provided : (g : Over) → g.row.D.Denot → Provider g.row.D-NameId.Denot g.row.D-SolvableId.Denot
provided g = gathered g.D.NameId.PartialEq.eq g.D.SolvableId.PartialEq.eq g.D.NameId.Slots.IdMap.is_too_large
    g.D.SolvableId.Slots.IdMap.is_too_large g.D.SolvableId.Set.IdSet.is_too_large g.D.NameId.SolverId.are_many
    g.D.Interner.universe g.D.DependencyProvider.answers

pub returns-clause-ranks : goal.returns-clause-ranks
returns-clause-ranks g c =
    let p = provided g c.args.provider.now in
    subst (λ (wishes : List (List (Alternative g.row.D-SolvableId.Denot))). IfOk c.pick_by_wishes.result
    (PicksRanked p wishes))
    (ap alternatives_of c.deref.ensures.value ∙ c.in_ok-wishes.ensures) c.pick_by_wishes.ensures.ranks

pub returns-clause-best : goal.returns-clause-best
returns-clause-best g c =
    let p = provided g c.args.provider.now in
    subst (λ (wishes : List (List (Alternative g.row.D-SolvableId.Denot))). IfOk c.pick_by_wishes.result
    (PicksBest p c.args.requested.now wishes))
    (ap alternatives_of c.deref.ensures.value ∙ c.in_ok-wishes.ensures) c.pick_by_wishes.ensures.best

pub returns-clause-needed : goal.returns-clause-needed
returns-clause-needed g c =
    let p = provided g c.args.provider.now in
    subst (λ (wishes : List (List (Alternative g.row.D-SolvableId.Denot))). IfOk c.pick_by_wishes.result
    (PicksNeeded p c.args.requested.now wishes))
    (ap alternatives_of c.deref.ensures.value ∙ c.in_ok-wishes.ensures) c.pick_by_wishes.ensures.needed

pub returns-clause-none_spare : goal.returns-clause-none_spare
returns-clause-none_spare g c =
    let p = provided g c.args.provider.now in
    subst (λ (wishes : List (List (Alternative g.row.D-SolvableId.Denot))). IfOk c.pick_by_wishes.result
    (PicksNoneSpare p c.args.requested.now wishes))
    (ap alternatives_of c.deref.ensures.value ∙ c.in_ok-wishes.ensures) c.pick_by_wishes.ensures.none_spare

pub returns-clause-within : goal.returns-clause-within
returns-clause-within g c =
    let p = provided g c.args.provider.now in
    subst (λ (wishes : List (List (Alternative g.row.D-SolvableId.Denot))). IfOk c.pick_by_wishes.result
    (PicksWithin p c.args.requested.now wishes))
    (ap alternatives_of c.deref.ensures.value ∙ c.in_ok-wishes.ensures) c.pick_by_wishes.ensures.within

pub returns-clause-granted : goal.returns-clause-granted
returns-clause-granted g c =
    let p = provided g c.args.provider.now in
    subst (λ (wishes : List (List (Alternative g.row.D-SolvableId.Denot))). IfOk c.pick_by_wishes.result
    (PicksGranted p c.args.requested.now wishes))
    (ap alternatives_of c.deref.ensures.value ∙ c.in_ok-wishes.ensures) c.pick_by_wishes.ensures.granted

pub returns-clause-caused : goal.returns-clause-caused
returns-clause-caused g c =
    let p = provided g c.args.provider.now in
    subst (λ (wishes : List (List (Alternative g.row.D-SolvableId.Denot))). IfOk c.pick_by_wishes.result
    (PicksCaused p c.args.requested.now wishes))
    (ap alternatives_of c.deref.ensures.value ∙ c.in_ok-wishes.ensures) c.pick_by_wishes.ensures.caused
