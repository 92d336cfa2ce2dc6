use Rattle.std.proofs.Common.{◌≡◌, ◌∙◌, ◌≤◌, length, rules, arith}
use Rattle.std.proofs.lemmas.List.{length-map}
use Rattle.solutions.proofs.Words.{alternatives_of, gathered, Provider}
use Rattle.solutions.proofs.BestLemmas.{best_granted, best_shown, granted_within}
use Rattle.solutions.proofs.best.best_up_to.Given.{Over}
use Rattle.solutions.proofs.best.best_up_to.Goals as goal

-- the provider's functions
abbrev provided : (g : Over) → g.row.D.Denot → Provider g.row.D-NameId.Denot g.row.D-SolvableId.Denot
provided g = gathered g.D.NameId.PartialEq.eq g.D.SolvableId.PartialEq.eq g.D.NameId.Slots.IdMap.is_too_large
    g.D.SolvableId.Slots.IdMap.is_too_large g.D.SolvableId.Set.IdSet.is_too_large g.D.NameId.SolverId.are_many
    g.D.Interner.universe g.D.DependencyProvider.answers

pub returns-then-is_empty-clause-best : goal.returns-then-is_empty-clause-best
returns-then-is_empty-clause-best g c =
    let none : length c.beatable-beatable.result.now ≡ 0 = search rules in
    best_shown (provided g c.args.provider.now) c.args.request.now.requirements.now
    (alternatives_of c.args.request.now.wishes.now) c.args.picked.now
    0 (length c.args.request.now.wishes.now) c.beatable-beatable.result.now c.deref.result.now
    c.beatable-beatable.ensures.first c.beatable-beatable.ensures.rest (c.deref.ensures.value
    ∙ c.in_ok-ranks.ensures)
    (λ place less inside. omega arith) (λ other its place less at. absurd (omega arith))

pub returns-then-shown-beatable-clause-best : goal.returns-then-shown-beatable-clause-best
returns-then-shown-beatable-clause-best g c =
    best_shown (provided g c.args.provider.now) c.args.request.now.requirements.now
    (alternatives_of c.args.request.now.wishes.now) c.args.picked.now
    c.in_ok-shown.shown (length c.args.request.now.wishes.now) c.beatable-beatable.result.now c.deref.result.now
    c.beatable-beatable.ensures.first c.beatable-beatable.ensures.rest
    (c.deref.ensures.value ∙ c.in_ok-ranks.ensures) (λ place less inside. omega arith) c.in_ok-shown.ensures

pub returns-clause-best : goal.returns-clause-best
returns-clause-best g c =
    best_shown (provided g c.args.provider.now) c.args.request.now.requirements.now
    (alternatives_of c.args.request.now.wishes.now) c.args.picked.now
    c.in_ok-shown.shown c.in_ok-shown.shown c.beatable-beatable.result.now c.deref.result.now
    c.beatable-beatable.ensures.first c.beatable-beatable.ensures.rest
    (c.deref.ensures.value ∙ c.in_ok-ranks.ensures) (λ place less inside. less) c.in_ok-shown.ensures

pub returns-then-shown-granted-clause-best : goal.returns-then-shown-granted-clause-best
returns-then-shown-granted-clause-best g c =
    best_granted (provided g c.args.provider.now) c.args.request.now.requirements.now
    (alternatives_of c.args.request.now.wishes.now) c.args.picked.now
    c.granted-granted.result c.deref-2.result.now (c.deref-2.ensures.value
    ∙ c.in_ok-ranks.ensures) c.granted-granted.ensures.zeros

pub returns-then-shown-granted-clause-granted : goal.returns-then-shown-granted-clause-granted
returns-then-shown-granted-clause-granted g c = λ first below granted.
    granted_within (provided g c.args.provider.now) c.args.request.now.requirements.now
    (alternatives_of c.args.request.now.wishes.now) c.args.picked.now
    first c.granted-granted.result c.deref-2.result.now (c.deref-2.ensures.value
    ∙ c.in_ok-ranks.ensures) below c.granted-granted.ensures.ends granted

pub returns-clause-granted : goal.returns-clause-granted
returns-clause-granted g c = λ first below granted.
    let least : first ≤ c.granted-granted.result =
    granted_within (provided g c.args.provider.now) c.args.request.now.requirements.now
    (alternatives_of c.args.request.now.wishes.now) c.args.picked.now
    first c.granted-granted.result c.deref-2.result.now (c.deref-2.ensures.value
    ∙ c.in_ok-ranks.ensures) below c.granted-granted.ensures.ends granted in
    omega arith

pub returns-then-is_empty-clause-within : goal.returns-then-is_empty-clause-within
returns-then-is_empty-clause-within g c =
    let size = length-map c.args.request.now.wishes.now (λ w. w.alternatives.items) in
    omega arith
